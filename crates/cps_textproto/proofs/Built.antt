-- Over a document the tree is built that the document is read as.
use Rattle.std.proofs.Common.{◌≡◌, ℕ, zero, suc, Bool, true, false, List, [], ◌∷◌, refl, sym, ◌∙◌, ap}
use Rattle.cps_textproto.specs.declared.symbol.Bracket.{Bracket}
use Rattle.cps_textproto.specs.declared.symbol.Bracket.TheVariants.{Brace, Angle}
use Rattle.cps_textproto.specs.declared.symbol.Symbol.{Symbol}
use Rattle.cps_textproto.specs.declared.symbol.Symbol.TheVariants.{Close, CloseList}
use Rattle.cps_textproto.specs.declared.machine.Mode.{Mode}
use Rattle.cps_textproto.specs.declared.machine.Mode.TheVariants.{Between, After, Texted, Valued, ListFirst, ListNext, ListItem, ListTexted, MessagesItem}
use Rattle.cps_textproto.specs.declared.machine.OpenMessage.{OpenMessage}
use Rattle.cps_textproto.specs.Grammar.{Scalar, number, word, minus_number, minus_word, texts, Separator, none, comma, semicolon, Fields, end, scalar, scalars, nothing, message, messages, Messages, no_more, one_more, texts_then, scalar_then, others_then, separator_then, fields_then, messages_then, Nests, AllNest, IsDocument}
use Rattle.cps_textproto.specs.Machine.{open_message_of, mode_behind, start}
use Rattle.cps_textproto.specs.Trees.{Tree, Values, no_fields, field, no_values, scalar_value, message_value, then_fields, then_values, before_last, without_last}
use Rattle.cps_textproto.specs.Reading.{past_texts, past_scalar, past_others, past_separator, past_fields, past_messages, scalar_at, others_at, tree_at, messages_at}
use Rattle.cps_textproto.specs.Building.{Outer, Build, closed, built, empty_build}
use Rattle.cps_textproto.proofs.Accepting.{at, Tail, finished, closes, closing_then}

then_fields-end : (t : Tree) → then_fields t no_fields ≡ t
then_fields-end no_fields = refl
then_fields-end (field n l i more) = ap (field n l i) (then_fields-end more)

then_fields-assoc : (a b c : Tree) → then_fields (then_fields a b) c ≡ then_fields a (then_fields b c)
then_fields-assoc no_fields b c = refl
then_fields-assoc (field n l i more) b c = ap (field n l i) (then_fields-assoc more b c)

then_values-end : (t : Values) → then_values t no_values ≡ t
then_values-end no_values = refl
then_values-end (scalar_value a b more) = ap (scalar_value a b) (then_values-end more)
then_values-end (message_value a b more) = ap (message_value a b) (then_values-end more)

then_values-assoc : (a b c : Values) → then_values (then_values a b) c ≡ then_values a (then_values b c)
then_values-assoc no_values b c = refl
then_values-assoc (scalar_value x y more) b c = ap (scalar_value x y) (then_values-assoc more b c)
then_values-assoc (message_value x y more) b c = ap (message_value x y) (then_values-assoc more b c)

before_last-more : (n : ℕ) (l : Bool) (v : Values) (t : Tree) (name : ℕ) (list : Bool) (w : Values) → before_last n l v (then_fields t (field name list w no_fields)) ≡ field n l v t
before_last-more n l v no_fields name list w = refl
before_last-more n l v (field a b c more) name list w = ap (field n l v) (before_last-more a b c more name list w)

without_last-more : (t : Tree) (name : ℕ) (list : Bool) (w : Values) → without_last (then_fields t (field name list w no_fields)) ≡ t
without_last-more no_fields name list w = refl
without_last-more (field n l v more) name list w = before_last-more n l v more name list w

abbrev made : Tree → List Outer → ℕ → ℕ → Values → Values → Build
made t o n f i g = record { fields = t; outer = o; name = n; first = f; scalars = i; messages = g }

-- a message that stands open, with what stands before it
abbrev round : Tree → Values → ℕ → ℕ → OpenMessage → Outer
round t g n k f = record { before = t; others = g; name = n; first = k; form = f }

-- the machine comes to this mode and these fields, whatever else is kept
abbrev Comes : Build → Mode → List OpenMessage → ℕ → Tree → List Outer → ℕ → List Symbol → Type 0
Comes from m st r t o k rest = (n : ℕ) × (f : ℕ) × (i : Values) × (g : Values) × (from ≡ built (at m st r) (made t o n f i g) k rest)

after_between : (st : List OpenMessage) (r : ℕ) (b : Build) (k : ℕ) (more : Fields) (tail : Tail) → built (at After st r) b k (fields_then more (closing_then tail)) ≡ built (at Between st r) b k (fields_then more (closing_then tail))
after_between st r b k end finished = refl
after_between st r b k end (closes a rest) = refl
after_between st r b k (scalar v s more) tail = refl
after_between st r b k (scalars v vs s more) tail = refl
after_between st r b k (nothing c s more) tail = refl
after_between st r b k (message c a inner s more) tail = refl
after_between st r b k (messages c a inner others s more) tail = refl

texted_between : (st : List OpenMessage) (r : ℕ) (b : Build) (k : ℕ) (more : Fields) (tail : Tail) → built (at Texted st r) b k (fields_then more (closing_then tail)) ≡ built (at Between st r) b k (fields_then more (closing_then tail))
texted_between st r b k end finished = refl
texted_between st r b k end (closes a rest) = refl
texted_between st r b k (scalar v s more) tail = refl
texted_between st r b k (scalars v vs s more) tail = refl
texted_between st r b k (nothing c s more) tail = refl
texted_between st r b k (message c a inner s more) tail = refl
texted_between st r b k (messages c a inner others s more) tail = refl

separator_built : (st : List OpenMessage) (r : ℕ) (b : Build) (k : ℕ) (s : Separator) (more : Fields) (tail : Tail) → built (at After st r) b k (separator_then s (fields_then more (closing_then tail))) ≡ built (at Between st r) b (past_separator s k) (fields_then more (closing_then tail))
separator_built st r b k none more tail = after_between st r b k more tail
separator_built st r b k comma more tail = refl
separator_built st r b k semicolon more tail = refl

texted_built : (st : List OpenMessage) (r : ℕ) (b : Build) (k : ℕ) (s : Separator) (more : Fields) (tail : Tail) → built (at Texted st r) b k (separator_then s (fields_then more (closing_then tail))) ≡ built (at Between st r) b (past_separator s k) (fields_then more (closing_then tail))
texted_built st r b k none more tail = texted_between st r b k more tail
texted_built st r b k comma more tail = refl
texted_built st r b k semicolon more tail = refl

-- the field of one scalar, which further strings make longer
abbrev made_scalar : Tree → List Outer → ℕ → ℕ → ℕ → Values → Values → Build
made_scalar t o n f k i g = made (then_fields t (field n false (scalar_value f k no_values) no_fields)) o n f i g

texts_built : (st : List OpenMessage) (r : ℕ) (t : Tree) (o : List Outer) (n f : ℕ) (i g : Values) (k m : ℕ) (rest : List Symbol) → built (at Texted st r) (made_scalar t o n f k i g) k (texts_then m rest) ≡ built (at Texted st r) (made_scalar t o n f (past_texts m k) i g) (past_texts m k) rest
texts_built st r t o n f i g k zero rest = refl
texts_built st r t o n f i g k (suc m) rest =
    ap (λ u. built (at Texted st r) (made_scalar u o n f (suc k) i g) (suc k) (texts_then m rest)) (without_last-more t n false (scalar_value f k no_values))
    ∙ texts_built st r t o n f i g (suc k) m rest

-- a scalar is the value of a field, and what may follow it is gone over
scalar_built : (st : List OpenMessage) (r : ℕ) (t : Tree) (o : List Outer) (n f : ℕ) (i g : Values) (k : ℕ) (v : Scalar) (s : Separator) (more : Fields) (tail : Tail) → Comes (built (at Valued st r) (made t o n f i g) k (scalar_then v (separator_then s (fields_then more (closing_then tail))))) Between st r (then_fields t (field n false (scalar_at k v no_values) no_fields)) o (past_separator s (past_scalar v k)) (fields_then more (closing_then tail))
scalar_built st r t o n f i g k number s more tail = (n, k, i, g, separator_built st r (made_scalar t o n k (suc k) i g) (suc k) s more tail)
scalar_built st r t o n f i g k word s more tail = (n, k, i, g, separator_built st r (made_scalar t o n k (suc k) i g) (suc k) s more tail)
scalar_built st r t o n f i g k minus_number s more tail =
    (n, k, i, g, separator_built st r (made_scalar t o n k (suc (suc k)) i g) (suc (suc k)) s more tail)
scalar_built st r t o n f i g k minus_word s more tail =
    (n, k, i, g, separator_built st r (made_scalar t o n k (suc (suc k)) i g) (suc (suc k)) s more tail)
scalar_built st r t o n f i g k (texts m) s more tail = (
  n,
  k,
  i,
  g,
  texts_built st r t o n k i g (suc k) m (separator_then s (fields_then more (closing_then tail)))
      ∙ texted_built st r (made_scalar t o n k (past_texts m (suc k)) i g) (past_texts m (suc k)) s more tail,
)

-- the scalars of a list: where each begins is kept until what stands behind it comes

list_texts_built : (st : List OpenMessage) (r : ℕ) (b : Build) (k m : ℕ) (rest : List Symbol) → built (at ListTexted st r) b k (texts_then m rest) ≡ built (at ListTexted st r) b (past_texts m k) rest
list_texts_built st r b k zero rest = refl
list_texts_built st r b k (suc m) rest = list_texts_built st r b (suc k) m rest

texted_others : (st : List OpenMessage) (r : ℕ) (b : Build) (k : ℕ) (vs : List Scalar) (rest : List Symbol) → built (at ListTexted st r) b k (others_then vs (CloseList ∷ rest)) ≡ built (at ListItem st r) b k (others_then vs (CloseList ∷ rest))
texted_others st r b k [] rest = refl
texted_others st r b k (v ∷ vs) rest = refl

first_built : (st : List OpenMessage) (r : ℕ) (t : Tree) (o : List Outer) (n f : ℕ) (i g : Values) (k : ℕ) (v : Scalar) (vs : List Scalar) (rest : List Symbol) → built (at ListFirst st r) (made t o n f i g) k (scalar_then v (others_then vs (CloseList ∷ rest))) ≡ built (at ListItem st r) (made t o n k i g) (past_scalar v k) (others_then vs (CloseList ∷ rest))
first_built st r t o n f i g k number vs rest = refl
first_built st r t o n f i g k word vs rest = refl
first_built st r t o n f i g k minus_number vs rest = refl
first_built st r t o n f i g k minus_word vs rest = refl
first_built st r t o n f i g k (texts m) vs rest =
    list_texts_built st r (made t o n k i g) (suc k) m (others_then vs (CloseList ∷ rest))
    ∙ texted_others st r (made t o n k i g) (past_texts m (suc k)) vs rest

next_built : (st : List OpenMessage) (r : ℕ) (t : Tree) (o : List Outer) (n f : ℕ) (i g : Values) (k : ℕ) (v : Scalar) (vs : List Scalar) (rest : List Symbol) → built (at ListNext st r) (made t o n f i g) k (scalar_then v (others_then vs (CloseList ∷ rest))) ≡ built (at ListItem st r) (made t o n k i g) (past_scalar v k) (others_then vs (CloseList ∷ rest))
next_built st r t o n f i g k number vs rest = refl
next_built st r t o n f i g k word vs rest = refl
next_built st r t o n f i g k minus_number vs rest = refl
next_built st r t o n f i g k minus_word vs rest = refl
next_built st r t o n f i g k (texts m) vs rest =
    list_texts_built st r (made t o n k i g) (suc k) m (others_then vs (CloseList ∷ rest))
    ∙ texted_others st r (made t o n k i g) (past_texts m (suc k)) vs rest

-- the scalar that began with token f ends here, and others follow
others_built : (st : List OpenMessage) (r : ℕ) (t : Tree) (o : List Outer) (n f : ℕ) (i g : Values) (k : ℕ) (vs : List Scalar) (rest : List Symbol) → Comes (built (at ListItem st r) (made t o n f i g) k (others_then vs (CloseList ∷ rest))) After st r (then_fields t (field n true (then_values i (scalar_value f k (others_at k vs))) no_fields)) o (suc (past_others vs k)) rest
others_built st r t o n f i g k [] rest = (n, f, no_values, g, refl)
others_built st r t o n f i g k (v ∷ vs) rest =
    let kept : Values = then_values i (scalar_value f k no_values) in
    let one = next_built st r t o n f kept g (suc k) v vs rest in
    let more = others_built st r t o n (suc k) kept g (past_scalar v (suc k)) vs rest in
    (more.0, more.1, more.2, more.3, one ∙ more.4 ∙ ap (λ is. built (at After st r) (made (then_fields t (field n true is no_fields)) o more.0 more.1 more.2 more.3) (suc (past_others vs (past_scalar v (suc k)))) rest) (then_values-assoc i (scalar_value f k no_values) (scalar_at (suc k) v (others_at (past_scalar v (suc k)) vs))))

-- a closing bracket ends the innermost message
message_closed : (a : Bracket) (l : Bool) (st : List OpenMessage) (r : ℕ) (b : Build) (k : ℕ) (rest : List Symbol) → built (at Between (open_message_of a l ∷ st) r) b k (Close a ∷ rest) ≡ built (at (mode_behind l) st (suc r)) (closed b.outer b) (suc k) rest
message_closed Brace l st r b k rest = refl
message_closed Angle l st r b k rest = refl

-- a field, and then what follows it
abbrev FieldsBuilt : Fields → Type 0
FieldsBuilt fs = (st : List OpenMessage) (r : ℕ) (tail : Tail) (t : Tree) (o : List Outer) (n f : ℕ) (i g : Values) (k : ℕ) → Nests r fs → Comes (built (at Between st r) (made t o n f i g) k (fields_then fs (closing_then tail))) Between st r (then_fields t (tree_at k fs)) o (past_fields fs k) (closing_then tail)

-- the messages of a list behind these, and then what follows the list
abbrev MessagesBuilt : Messages → Type 0
MessagesBuilt ms = (st : List OpenMessage) (r : ℕ) (t : Tree) (o : List Outer) (n f : ℕ) (i g : Values) (k : ℕ) (rest : List Symbol) → AllNest r ms → Comes (built (at MessagesItem st (suc r)) (made t o n f i g) k (messages_then ms (CloseList ∷ rest))) After st (suc r) (then_fields t (field n true (then_values g (messages_at k ms)) no_fields)) o (suc (past_messages ms k)) rest

separated : (from : Build) (st : List OpenMessage) (r : ℕ) (tail : Tail) (t : Tree) (o : List Outer) (k : ℕ) (s : Separator) (more : Fields) → Comes from After st r t o k (separator_then s (fields_then more (closing_then tail))) → Comes from Between st r t o (past_separator s k) (fields_then more (closing_then tail))
separated from st r tail t o k s more (n, f, i, g, e) = (n, f, i, g, e ∙ separator_built st r (made t o n f i g) k s more tail)

joined : (from : Build) (st : List OpenMessage) (r : ℕ) (tail : Tail) (t : Tree) (o : List Outer) (k : ℕ) (more : Fields) (name : ℕ) (list : Bool) (values : Values) → Nests r more → FieldsBuilt more → Comes from Between st r (then_fields t (field name list values no_fields)) o k (fields_then more (closing_then tail)) → Comes from Between st r (then_fields t (field name list values (tree_at k more))) o (past_fields more k) (closing_then tail)
joined from st r tail t o k more name list values fits rest (n, f, i, g, e) =
    let later = rest st r tail (then_fields t (field name list values no_fields)) o n f i g k fits in
    (later.0, later.1, later.2, later.3, e ∙ later.4 ∙ ap (λ u. built (at Between st r) (made u o later.0 later.1 later.2 later.3) (past_fields more k) (closing_then tail)) (then_fields-assoc t (field name list values no_fields) (tree_at k more)))

-- a message of a list, with its fields and its bracket
listed_built : (inner : Fields) → FieldsBuilt inner → (a : Bracket) (st : List OpenMessage) (r : ℕ) (t : Tree) (o : List Outer) (n first f : ℕ) (i g : Values) (k : ℕ) (rest : List Symbol) → Nests r inner → (f' : ℕ) × (i' : Values) × (built (at Between (open_message_of a true ∷ st) r) (made no_fields (round t g n first (open_message_of a true) ∷ o) n f i no_values) k (fields_then inner (Close a ∷ rest)) ≡ built (at MessagesItem st (suc r)) (made t o n f' i' (then_values g (message_value first (tree_at k inner) no_values))) (suc (past_fields inner k)) rest)
listed_built inner inside a st r t o n first f i g k rest fits =
    let all = inside (open_message_of a true ∷ st) r (closes a rest) no_fields (round t g n first (open_message_of a true) ∷ o) n f i no_values k fits in
    (all.1, all.2, all.4 ∙ message_closed a true st r (made (tree_at k inner) (round t g n first (open_message_of a true) ∷ o) all.0 all.1 all.2 all.3) (past_fields inner k) rest)

-- and a message that is a field
alone_built : (inner : Fields) → FieldsBuilt inner → (a : Bracket) (st : List OpenMessage) (r : ℕ) (t : Tree) (o : List Outer) (n first f : ℕ) (i g : Values) (k : ℕ) (rest : List Symbol) → Nests r inner → Comes (built (at Between (open_message_of a false ∷ st) r) (made no_fields (round t g n first (open_message_of a false) ∷ o) n f i no_values) k (fields_then inner (Close a ∷ rest))) After st (suc r) (then_fields t (field n false (message_value first (tree_at k inner) no_values) no_fields)) o (suc (past_fields inner k)) rest
alone_built inner inside a st r t o n first f i g k rest fits =
    let all = inside (open_message_of a false ∷ st) r (closes a rest) no_fields (round t g n first (open_message_of a false) ∷ o) n f i no_values k fits in
    (n, all.1, all.2, g, all.4 ∙ message_closed a false st r (made (tree_at k inner) (round t g n first (open_message_of a false) ∷ o) all.0 all.1 all.2 all.3) (past_fields inner k) rest)

-- the messages of a list, the first of which was opened
list_built : (inner : Fields) → FieldsBuilt inner → (others : Messages) → MessagesBuilt others → (a : Bracket) (st : List OpenMessage) (r : ℕ) (t : Tree) (o : List Outer) (n first f : ℕ) (i g : Values) (k : ℕ) (rest : List Symbol) → Nests r inner → AllNest r others → Comes (built (at Between (open_message_of a true ∷ st) r) (made no_fields (round t g n first (open_message_of a true) ∷ o) n f i no_values) k (fields_then inner (Close a ∷ messages_then others (CloseList ∷ rest)))) After st (suc r) (then_fields t (field n true (then_values g (message_value first (tree_at k inner) (messages_at (suc (past_fields inner k)) others))) no_fields)) o (suc (past_messages others (suc (past_fields inner k)))) rest
list_built inner inside others behind a st r t o n first f i g k rest fits fit =
    let one = listed_built inner inside a st r t o n first f i g k (messages_then others (CloseList ∷ rest)) fits in
    let more = behind st r t o n one.0 one.1 (then_values g (message_value first (tree_at k inner) no_values)) (suc (past_fields inner k)) rest fit in
    (more.0, more.1, more.2, more.3, one.2 ∙ more.4 ∙ ap (λ is. built (at After st (suc r)) (made (then_fields t (field n true is no_fields)) o more.0 more.1 more.2 more.3) (suc (past_messages others (suc (past_fields inner k)))) rest) (then_values-assoc g (message_value first (tree_at k inner) no_values) (messages_at (suc (past_fields inner k)) others)))

mutual
  fields_built : (fs : Fields) → FieldsBuilt fs
  fields_built end st r tail t o n f i g k fits =
      (n, f, i, g, ap (λ u. built (at Between st r) (made u o n f i g) k (closing_then tail)) (sym (then_fields-end t)))
  fields_built (scalar v s more) st r tail t o n f i g k fits =
      joined _ st r tail t o _ more k false _ fits (fields_built more) (scalar_built st r t o k f i g (suc (suc k)) v s more tail)
  fields_built (scalars v vs s more) st r tail t o n f i g k fits =
      let rest = separator_then s (fields_then more (closing_then tail)) in
      let first = suc (suc (suc k)) in
      let one = first_built st r t o k f no_values no_values first v vs rest in
      let all = others_built st r t o k first no_values no_values (past_scalar v first) vs rest in
      joined _ st r tail t o _ more k true _ fits (fields_built more)
      (separated _ st r tail _ o _ s more (all.0, all.1, all.2, all.3, one ∙ all.4))
  fields_built (nothing true s more) st r tail t o n f i g k fits =
      joined _ st r tail t o _ more k true no_values fits (fields_built more)
      (separated _ st r tail _ o _ s more (k, f, no_values, no_values, refl))
  fields_built (nothing false s more) st r tail t o n f i g k fits =
      joined _ st r tail t o _ more k true no_values fits (fields_built more)
      (separated _ st r tail _ o _ s more (k, f, no_values, no_values, refl))
  fields_built (message c a inner s more) st zero tail t o n f i g k fits = absurd fits
  fields_built (message true a inner s more) st (suc r) tail t o n f i g k fits =
      let rest = separator_then s (fields_then more (closing_then tail)) in
      joined _ st (suc r) tail t o _ more k false _ fits.1 (fields_built more)
      (separated _ st (suc r) tail _ o _ s more (alone_built inner (fields_built inner) a st r t o k (suc (suc k)) f i g (suc (suc (suc k))) rest fits.0))
  fields_built (message false a inner s more) st (suc r) tail t o n f i g k fits =
      let rest = separator_then s (fields_then more (closing_then tail)) in
      joined _ st (suc r) tail t o _ more k false _ fits.1 (fields_built more)
      (separated _ st (suc r) tail _ o _ s more (alone_built inner (fields_built inner) a st r t o k (suc k) f i g (suc (suc k)) rest fits.0))
  fields_built (messages c a inner others s more) st zero tail t o n f i g k fits = absurd fits
  fields_built (messages true a inner others s more) st (suc r) tail t o n f i g k fits =
      let rest = separator_then s (fields_then more (closing_then tail)) in
      joined _ st (suc r) tail t o _ more k true _ fits.2 (fields_built more)
      (separated _ st (suc r) tail _ o _ s more (list_built inner (fields_built inner) others (messages_built others) a st r t o k (suc (suc (suc k))) f no_values no_values (suc (suc (suc (suc k)))) rest fits.0 fits.1))
  fields_built (messages false a inner others s more) st (suc r) tail t o n f i g k fits =
      let rest = separator_then s (fields_then more (closing_then tail)) in
      joined _ st (suc r) tail t o _ more k true _ fits.2 (fields_built more)
      (separated _ st (suc r) tail _ o _ s more (list_built inner (fields_built inner) others (messages_built others) a st r t o k (suc (suc k)) f no_values no_values (suc (suc (suc k))) rest fits.0 fits.1))

  messages_built : (ms : Messages) → MessagesBuilt ms
  messages_built no_more st r t o n f i g k rest fits =
      (n, f, i, no_values, ap (λ is. built (at After st (suc r)) (made (then_fields t (field n true is no_fields)) o n f i no_values) (suc k) rest) (sym (then_values-end g)))
  messages_built (one_more a inner others) st r t o n f i g k rest fits =
      list_built inner (fields_built inner) others (messages_built others) a st r t o n (suc k) f i g (suc (suc k)) rest fits.0 fits.1

pub document_built : (s : List Symbol) (fs : Fields) → IsDocument s fs → (built start empty_build 0 s).fields ≡ tree_at 0 fs
document_built s fs document =
    let all = fields_built fs [] 32 finished no_fields [] 0 0 no_values no_values 0 document.1 in
    ap (λ l. (built start empty_build 0 l).fields) document.0 ∙ ap (λ (b : Build). b.fields) all.4
