-- The tree that a document is read as.
use Rattle.std.specs.Prelude.{◌≡◌, ℕ, zero, suc, Bool, true, false, List, [], ◌∷◌, Result, Ok, Err}
use Rattle.cps_textproto.specs.declared.symbol.Symbol.{Symbol}
use Rattle.cps_textproto.specs.declared.tree.Node.{Node}
use Rattle.cps_textproto.specs.declared.reading.TextError.{TextError}
use Rattle.cps_textproto.specs.declared.reading.TextError.TheVariants.{NotADocument, OutOfMemory}
use Rattle.cps_textproto.specs.Grammar.{Scalar, number, word, minus_number, minus_word, texts, Separator, none, comma, semicolon, Fields, end, scalar, scalars, nothing, message, messages, Messages, no_more, one_more, IsDocument, IsRefusedAt}
use Rattle.cps_textproto.specs.Trees.{Tree, Values, no_fields, field, no_values, scalar_value, message_value, tree_of}

-- the number of the token behind what begins with token k

abbrev pub past_texts : ℕ → ℕ → ℕ
past_texts zero k = k
past_texts (suc n) k = past_texts n (suc k)

abbrev pub past_scalar : Scalar → ℕ → ℕ
past_scalar number k = suc k
past_scalar word k = suc k
past_scalar minus_number k = suc (suc k)
past_scalar minus_word k = suc (suc k)
past_scalar (texts n) k = past_texts n (suc k)

abbrev pub past_others : List Scalar → ℕ → ℕ
past_others [] k = k
past_others (v ∷ vs) k = past_others vs (past_scalar v (suc k))

abbrev pub past_separator : Separator → ℕ → ℕ
past_separator none k = k
past_separator comma k = suc k
past_separator semicolon k = suc k

abbrev pub past_colon : Bool → ℕ → ℕ
past_colon true k = suc k
past_colon false k = k

abbrev mutual
  pub past_fields : Fields → ℕ → ℕ
  past_fields end k = k
  past_fields (scalar v s more) k = past_fields more (past_separator s (past_scalar v (suc (suc k))))
  past_fields (scalars v vs s more) k =
      past_fields more (past_separator s (suc (past_others vs (past_scalar v (suc (suc (suc k)))))))
  past_fields (nothing c s more) k = past_fields more (past_separator s (suc (suc (past_colon c (suc k)))))
  past_fields (message c b inner s more) k =
      past_fields more (past_separator s (suc (past_fields inner (suc (past_colon c (suc k))))))
  past_fields (messages c b inner others s more) k =
      past_fields more (past_separator s
      (suc (past_messages others (suc (past_fields inner (suc (suc (past_colon c (suc k)))))))))

  pub past_messages : Messages → ℕ → ℕ
  past_messages no_more k = k
  past_messages (one_more b inner others) k = past_messages others (suc (past_fields inner (suc (suc k))))

-- what begins with token k, read

abbrev pub scalar_at : ℕ → Scalar → Values → Values
scalar_at k v rest = scalar_value k (past_scalar v k) rest

abbrev pub others_at : ℕ → List Scalar → Values
others_at k [] = no_values
others_at k (v ∷ vs) = scalar_at (suc k) v (others_at (past_scalar v (suc k)) vs)

abbrev mutual
  pub tree_at : ℕ → Fields → Tree
  tree_at k end = no_fields
  tree_at k (scalar v s more) =
      field k false (scalar_at (suc (suc k)) v no_values)
      (tree_at (past_separator s (past_scalar v (suc (suc k)))) more)
  tree_at k (scalars v vs s more) =
      field k true (scalar_at (suc (suc (suc k))) v (others_at (past_scalar v (suc (suc (suc k)))) vs))
      (tree_at (past_separator s (suc (past_others vs (past_scalar v (suc (suc (suc k))))))) more)
  tree_at k (nothing c s more) = field k true no_values
      (tree_at (past_separator s (suc (suc (past_colon c (suc k))))) more)
  tree_at k (message c b inner s more) =
      field k false (message_value (past_colon c (suc k)) (tree_at (suc (past_colon c (suc k))) inner) no_values)
      (tree_at (past_separator s (suc (past_fields inner (suc (past_colon c (suc k)))))) more)
  tree_at k (messages c b inner others s more) =
      field k true
      (message_value (suc (past_colon c (suc k))) (tree_at (suc (suc (past_colon c (suc k)))) inner)
      (messages_at (suc (past_fields inner (suc (suc (past_colon c (suc k)))))) others))
      (tree_at (past_separator s (suc
      (past_messages others (suc (past_fields inner (suc (suc (past_colon c (suc k))))))))) more)

  pub messages_at : ℕ → Messages → Values
  messages_at k no_more = no_values
  messages_at k (one_more b inner others) =
      message_value (suc k) (tree_at (suc (suc k)) inner) (messages_at (suc (past_fields inner (suc (suc k)))) others)

-- the symbols are a document, and this is its tree
abbrev pub HasTree : List Symbol → Tree → Type 0
HasTree s tree = (fs : Fields) × IsDocument s fs × (tree ≡ tree_at 0 fs)

abbrev pub IsTextRefusal : List Symbol → TextError → Type 0
IsTextRefusal s (NotADocument token) = IsRefusedAt s token
IsTextRefusal s OutOfMemory = Unit {0}

-- the answer has this tree, or memory ran out
abbrev pub GivesTree : Result Node TextError → Tree → Type 0
GivesTree (Ok node) tree = tree_of node ≡ tree
GivesTree (Err (NotADocument token)) tree = ⊥
GivesTree (Err OutOfMemory) tree = Unit {0}
