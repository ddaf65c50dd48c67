-- The numbers in a document's tree are those of its tokens.
use Rattle.std.proofs.Common.{◌≡◌, ℕ, zero, suc, ◌+◌, ◌≤◌, ◌<◌, Bool, true, false, List, [], ◌∷◌, length, refl, sym, ap, subst, arith}
use Rattle.std.proofs.lemmas.List.{length-map}
use Rattle.cps_lex.specs.declared.types.Token.{Token}
use Rattle.cps_textproto.specs.declared.symbol.Symbol.{Symbol}
use Rattle.cps_textproto.specs.declared.symbol.Symbol.TheVariants.{Open, Close, OpenList, CloseList}
use Rattle.cps_textproto.specs.Grammar.{Scalar, number, word, minus_number, minus_word, texts, Separator, none, comma, semicolon, Fields, end, scalar, scalars, nothing, message, messages, Messages, no_more, one_more, texts_then, scalar_then, others_then, separator_then, colon_then, fields_then, messages_then}
use Rattle.cps_textproto.specs.Symbols.{symbol_of, symbols}
use Rattle.cps_textproto.specs.Trees.{Tree, Values, NumbersBelow, ValuesBelow, no_values}
use Rattle.cps_textproto.specs.Reading.{HasTree, past_texts, past_scalar, past_others, past_separator, past_colon, past_fields, past_messages, scalar_at, others_at, tree_at, messages_at}

-- what is written takes as many tokens as it passes

texts_length : (n k : ℕ) (rest : List Symbol) → k + length (texts_then n rest) ≡ past_texts n k + length rest
texts_length zero k rest = refl
texts_length (suc n) k rest = omega (arith, texts_length n (suc k) rest)

scalar_length : (v : Scalar) (k : ℕ) (rest : List Symbol) → k + length (scalar_then v rest) ≡ past_scalar v k + length rest
scalar_length number k rest = omega arith
scalar_length word k rest = omega arith
scalar_length minus_number k rest = omega arith
scalar_length minus_word k rest = omega arith
scalar_length (texts n) k rest = omega (arith, texts_length n (suc k) rest)

others_length : (vs : List Scalar) (k : ℕ) (rest : List Symbol) → k + length (others_then vs rest) ≡ past_others vs k + length rest
others_length [] k rest = refl
others_length (v ∷ vs) k rest =
    omega (arith, scalar_length v (suc k) (others_then vs rest), others_length vs (past_scalar v (suc k)) rest)

separator_length : (s : Separator) (k : ℕ) (rest : List Symbol) → k + length (separator_then s rest) ≡ past_separator s k + length rest
separator_length none k rest = refl
separator_length comma k rest = omega arith
separator_length semicolon k rest = omega arith

colon_length : (c : Bool) (k : ℕ) (rest : List Symbol) → k + length (colon_then c rest) ≡ past_colon c k + length rest
colon_length true k rest = omega arith
colon_length false k rest = refl

mutual
  fields_length : (fs : Fields) (k : ℕ) (rest : List Symbol) → k + length (fields_then fs rest) ≡ past_fields fs k + length rest
  fields_length end k rest = refl
  fields_length (scalar v s more) k rest =
      let behind = fields_then more rest in
      omega (arith, scalar_length v (suc (suc k)) (separator_then s behind), separator_length s (past_scalar v (suc (suc k))) behind, fields_length more (past_separator s (past_scalar v (suc (suc k)))) rest)
  fields_length (scalars v vs s more) k rest =
      let behind = fields_then more rest in
      let first = suc (suc (suc k)) in
      let last = suc (past_others vs (past_scalar v first)) in
      omega (arith, scalar_length v first (others_then vs (CloseList ∷ separator_then s behind)), others_length vs (past_scalar v first) (CloseList ∷ separator_then s behind), separator_length s last behind, fields_length more (past_separator s last) rest)
  fields_length (nothing c s more) k rest =
      let behind = fields_then more rest in
      let last = suc (suc (past_colon c (suc k))) in
      omega (arith, colon_length c (suc k) (OpenList ∷ CloseList ∷ separator_then s behind), separator_length s last behind, fields_length more (past_separator s last) rest)
  fields_length (message c b inner s more) k rest =
      let behind = fields_then more rest in
      let first = suc (past_colon c (suc k)) in
      let last = suc (past_fields inner first) in
      omega (arith, colon_length c (suc k) (Open b ∷ fields_then inner (Close b ∷ separator_then s behind)), fields_length inner first (Close b ∷ separator_then s behind), separator_length s last behind, fields_length more (past_separator s last) rest)
  fields_length (messages c b inner others s more) k rest =
      let behind = fields_then more rest in
      let first = suc (suc (past_colon c (suc k))) in
      let next = suc (past_fields inner first) in
      let last = suc (past_messages others next) in
      let ahead = messages_then others (CloseList ∷ separator_then s behind) in
      omega (arith, colon_length c (suc k) (OpenList ∷ Open b ∷ fields_then inner (Close b ∷ ahead)), fields_length inner first (Close b ∷ ahead), messages_length others next (CloseList ∷ separator_then s behind), separator_length s last behind, fields_length more (past_separator s last) rest)

  messages_length : (ms : Messages) (k : ℕ) (rest : List Symbol) → k + length (messages_then ms rest) ≡ past_messages ms k + length rest
  messages_length no_more k rest = refl
  messages_length (one_more b inner others) k rest =
      let first = suc (suc k) in
      omega (arith, fields_length inner first (Close b ∷ messages_then others rest), messages_length others (suc (past_fields inner first)) rest)

-- and goes forward

texts_forward : (n k : ℕ) → k ≤ past_texts n k
texts_forward zero k = omega arith
texts_forward (suc n) k = omega (arith, texts_forward n (suc k))

scalar_forward : (v : Scalar) (k : ℕ) → k < past_scalar v k
scalar_forward number k = omega arith
scalar_forward word k = omega arith
scalar_forward minus_number k = omega arith
scalar_forward minus_word k = omega arith
scalar_forward (texts n) k = omega (arith, texts_forward n (suc k))

others_forward : (vs : List Scalar) (k : ℕ) → k ≤ past_others vs k
others_forward [] k = omega arith
others_forward (v ∷ vs) k = omega (arith, scalar_forward v (suc k), others_forward vs (past_scalar v (suc k)))

separator_forward : (s : Separator) (k : ℕ) → k ≤ past_separator s k
separator_forward none k = omega arith
separator_forward comma k = omega arith
separator_forward semicolon k = omega arith

colon_forward : (c : Bool) (k : ℕ) → k ≤ past_colon c k
colon_forward true k = omega arith
colon_forward false k = omega arith

mutual
  fields_forward : (fs : Fields) (k : ℕ) → k ≤ past_fields fs k
  fields_forward end k = omega arith
  fields_forward (scalar v s more) k =
      let last = past_scalar v (suc (suc k)) in
      omega (arith, scalar_forward v (suc (suc k)), separator_forward s last, fields_forward more (past_separator s last))
  fields_forward (scalars v vs s more) k =
      let first = suc (suc (suc k)) in
      let last = suc (past_others vs (past_scalar v first)) in
      omega (arith, scalar_forward v first, others_forward vs (past_scalar v first), separator_forward s last, fields_forward more (past_separator s last))
  fields_forward (nothing c s more) k =
      let last = suc (suc (past_colon c (suc k))) in
      omega (arith, colon_forward c (suc k), separator_forward s last, fields_forward more (past_separator s last))
  fields_forward (message c b inner s more) k =
      let first = suc (past_colon c (suc k)) in
      let last = suc (past_fields inner first) in
      omega (arith, colon_forward c (suc k), fields_forward inner first, separator_forward s last, fields_forward more (past_separator s last))
  fields_forward (messages c b inner others s more) k =
      let first = suc (suc (past_colon c (suc k))) in
      let next = suc (past_fields inner first) in
      let last = suc (past_messages others next) in
      omega (arith, colon_forward c (suc k), fields_forward inner first, messages_forward others next, separator_forward s last, fields_forward more (past_separator s last))

  messages_forward : (ms : Messages) (k : ℕ) → k ≤ past_messages ms k
  messages_forward no_more k = omega arith
  messages_forward (one_more b inner others) k =
      let first = suc (suc k) in
      omega (arith, fields_forward inner first, messages_forward others (suc (past_fields inner first)))

-- so no number is past the last token

scalar_below : (v : Scalar) (k count : ℕ) (more : Values) → past_scalar v k ≤ count → ValuesBelow count more → ValuesBelow count (scalar_at k v more)
scalar_below v k count more within rest = (scalar_forward v k, within, rest)

others_below : (vs : List Scalar) (k count : ℕ) → past_others vs k ≤ count → ValuesBelow count (others_at k vs)
others_below [] k count within = tt
others_below (v ∷ vs) k count within =
    scalar_below v (suc k) count _ (omega (arith, within, others_forward vs (past_scalar v (suc k)))) (others_below vs (past_scalar v (suc k)) count within)

mutual
  fields_below : (fs : Fields) (k count : ℕ) → past_fields fs k ≤ count → NumbersBelow count (tree_at k fs)
  fields_below end k count within = tt
  fields_below (scalar v s more) k count within =
      let last = past_scalar v (suc (suc k)) in
      let next = past_separator s last in
      let later = fields_forward more next in
      let behind = separator_forward s last in (
        omega (arith, within, later, behind, scalar_forward v (suc (suc k))),
        scalar_below v (suc (suc k)) count no_values (omega (arith, within, later, behind)) tt,
        fields_below more next count within,
      )
  fields_below (scalars v vs s more) k count within =
      let first = suc (suc (suc k)) in
      let others = past_scalar v first in
      let last = suc (past_others vs others) in
      let next = past_separator s last in
      let later = fields_forward more next in
      let behind = separator_forward s last in
      let forward = others_forward vs others in (
        omega (arith, within, later, behind, forward, scalar_forward v first),
        scalar_below v first count _ (omega (arith, within, later, behind, forward)) (others_below vs others count (omega (arith, within, later, behind))),
        fields_below more next count within,
      )
  fields_below (nothing c s more) k count within =
      let last = suc (suc (past_colon c (suc k))) in
      let next = past_separator s last in (
        omega (arith, within, fields_forward more next, separator_forward s last, colon_forward c (suc k)),
        tt,
        fields_below more next count within,
      )
  fields_below (message c b inner s more) k count within =
      let opening = past_colon c (suc k) in
      let last = suc (past_fields inner (suc opening)) in
      let next = past_separator s last in
      let later = fields_forward more next in
      let behind = separator_forward s last in
      let inside = fields_forward inner (suc opening) in (
        omega (arith, within, later, behind, inside, colon_forward c (suc k)),
        (
          omega (arith, within, later, behind, inside),
          fields_below inner (suc opening) count (omega (arith, within, later, behind)),
          tt,
        ),
        fields_below more next count within,
      )
  fields_below (messages c b inner others s more) k count within =
      let opening = suc (past_colon c (suc k)) in
      let next = suc (past_fields inner (suc opening)) in
      let last = suc (past_messages others next) in
      let after = past_separator s last in
      let later = fields_forward more after in
      let behind = separator_forward s last in
      let listed = messages_forward others next in
      let inside = fields_forward inner (suc opening) in (
        omega (arith, within, later, behind, listed, inside, colon_forward c (suc k)),
        (
          omega (arith, within, later, behind, listed, inside),
          fields_below inner (suc opening) count (omega (arith, within, later, behind, listed)),
          messages_below others next count (omega (arith, within, later, behind)),
        ),
        fields_below more after count within,
      )

  messages_below : (ms : Messages) (k count : ℕ) → past_messages ms k ≤ count → ValuesBelow count (messages_at k ms)
  messages_below no_more k count within = tt
  messages_below (one_more b inner others) k count within =
      let next = suc (past_fields inner (suc (suc k))) in
      let later = messages_forward others next in
      let inside = fields_forward inner (suc (suc k)) in (
        omega (arith, within, later, inside),
        fields_below inner (suc (suc k)) count (omega (arith, within, later)),
        messages_below others next count within,
      )

numbers_below : (s : List Symbol) (tree : Tree) → HasTree s tree → NumbersBelow (length s) tree
numbers_below s tree (fs, document, is) =
    let whole : past_fields fs 0 ≡ length s = omega (arith, ap length document.0, fields_length fs 0 []) in
    subst (NumbersBelow (length s)) (sym is) (fields_below fs 0 (length s) (omega (arith, whole)))

pub tokens_below : (bytes : List ℕ) (tokens : List Token) (tree : Tree) → HasTree (symbols bytes tokens) tree → NumbersBelow (length tokens) tree
tokens_below bytes tokens tree has =
    subst (λ count. NumbersBelow count tree) (length-map tokens (symbol_of bytes)) (numbers_below (symbols bytes tokens) tree has)
