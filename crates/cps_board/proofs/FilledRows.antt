-- A row is filled word by word, and read again atom by atom.
use Rattle.std.proofs.Common.{◌≡◌, ℕ, zero, suc, ◌+◌, ◌-◌, ◌*◌, ◌<◌, ◌≤◌, ◌^◌, Some, List, [], ◌∷◌, ◌++◌, take, replicate, length, get_or, set, sym, refl, ap, ◌∙◌, subst, arith, append_assoc}
use Rattle.std.proofs.lemmas.List.{length-take-le, take_more, take_all}
use mathlib.Core.Option.{some, none, some-injective}
use lib.ListN.{get_elem?}
use Rattle.atomic_table.specs.Table.{Me, step, Allows}
use Rattle.atomic_table.proofs.Lists.{at_last}
use Rattle.cps_model.specs.declared.bound.Bound.{Bound}
use Rattle.cps_model.specs.declared.model.CpModel.{CpModel}
use Rattle.cps_literal.specs.declared.atom.Atom.{Atom}
use Rattle.cps_port.specs.declared.entry.Entry.{Entry}
use Rattle.cps_port.specs.Entries.{blank, entry_of, entry_clause, IsSoundEntry}
use Rattle.cps_port.specs.declared.part.BoardPart.{BoardPart}
use Rattle.cps_port.specs.Order.{Rises}
use Rattle.cps_port.specs.Parts.{with_mine, with_taken, with_misses}
use Rattle.cps_port.specs.Says.{OwnEntry, TookEntry, FoundClosed}
use Rattle.cps_port.specs.Words.{value_word}
use Rattle.cps_board.specs.declared.view.View.{View}
use Rattle.cps_board.specs.Coding.{head_word, atom_words, entry_words, atom_of, entry_from, IsCoded, IsCodedEntry}
use Rattle.cps_board.specs.Rows.{row_words, data_words, KeptRows, Took, with_part, filling, word_put, row_opened}
use Rattle.cps_board.proofs.Coded.{op_small, entry_back, length-atom_words, head_at, number_at, atom_back_at}
use Rattle.cps_board.proofs.Keeps.{puts, publishes}

abbrev pub Token : Type 0
Token = Me (Unit {0}) View

-- the seat's view while it fills a row
abbrev pub Fills : Token → Token → List ℕ → Type 0
Fills old now words = now ≡ (filling old.0 words, old.1)

pub puts_more : (m : CpModel) (slots id : ℕ) (old now : Token) (words : List ℕ) (row j x place : ℕ) → Fills old now words → 0 < old.0.splits → old.0.part.drawn ≡ Some row → length words ≡ j → j < data_words → place ≡ row_words * row + (j + 2)
    → Allows (KeptRows {S = Unit {0}} m) slots id now place (λ _. x) (λ _. word_put (step slots place x 0 none) now x)
puts_more m slots id old now words row j x place e part drawn long less at = subst (λ (z : Token). Allows (KeptRows {S = Unit {0}} m) slots id z place (λ _. x) (λ _. word_put (step slots place x 0 none) z x)) (sym e) (puts m slots id (filling old.0 words, old.1) part row j x place at drawn long less)

pub put_more : (old now next : Token) (words : List ℕ) (x : ℕ) → Fills old now words → next ≡ (filling now.0 (now.0.written ++ x ∷ []), now.1) → Fills old next (words ++ x ∷ [])
put_more old now next words x e n = n ∙ ap (λ (z : Token). (filling z.0 (z.0.written ++ x ∷ []), z.1)) e

pub atom_words-append : (a b : List Atom) → atom_words (a ++ b) ≡ atom_words a ++ atom_words b
atom_words-append [] b = refl
atom_words-append (t ∷ ts) b = ap (λ (l : List ℕ). head_word t ∷ value_word t.value ∷ l) (atom_words-append ts b)

-- one atom more
pub atom_words-more : (c : List Atom) (i : ℕ) (t d : Atom) → i < length c → t ≡ get_or c i d → (atom_words (take i c) ++ head_word t ∷ []) ++ value_word t.value ∷ [] ≡ atom_words (take (i + 1) c)
atom_words-more c i t d h e =
    append_assoc (atom_words (take i c)) (head_word t ∷ []) (value_word t.value ∷ [])
    ∙ (sym (atom_words-append (take i c) (t ∷ [])) ∙ ap atom_words (ap (λ (x : Atom). take i c ++ x ∷ []) e ∙ sym (take_more c i d h)))

pub length-atom_words-take : (c : List Atom) (i : ℕ) → i ≤ length c → length (atom_words (take i c)) ≡ 2 * i
length-atom_words-take c i h = let a = length-atom_words (take i c) in let b = length-take-le i c h in omega arith

pub publishes_row : (m : CpModel) (slots id : ℕ) (old now : Token) (row place : ℕ) (below : Bound) (c : List Atom) → Fills old now (entry_words below c) → 0 < old.0.splits → old.0.part.drawn ≡ Some row → IsCoded below c → IsSoundEntry m (entry_of row below c) → place ≡ row_words * row + 1
    → Allows (KeptRows {S = Unit {0}} m) slots id now place (λ _. 1) (λ _. row_opened (step slots place 1 0 none) now 1)
publishes_row m slots id old now row place below c e part drawn coded sound at =
    subst (λ (p : ℕ). Allows (KeptRows {S = Unit {0}} m) slots id now p (λ _. 1) (λ _. row_opened (step slots p 1 0 none) now 1)) (sym at)
    (subst (λ (z : Token). Allows (KeptRows {S = Unit {0}} m) slots id z (row_words * row + 1) (λ _. 1) (λ _. row_opened (step slots (row_words * row + 1) 1 0 none) z 1)) (sym e) (publishes m slots id (filling old.0 (entry_words below c), old.1) part row below c drawn refl coded sound))

pub published : (old now next : Token) (row : ℕ) (below : Bound) (c : List Atom) → Fills old now (entry_words below c) → old.0.part.drawn ≡ Some row → IsCoded below c
    → ((r : ℕ) → now.0.part.drawn ≡ Some r → next ≡ (with_part now.0 (with_mine now.0.part (entry_from r now.0.written)), now.1))
    → next ≡ (with_part (filling old.0 (entry_words below c)) (with_mine old.0.part (entry_of row below c)), old.1)
published old now next row below c e drawn coded opened =
    opened row (ap (λ (z : Token). z.0.part.drawn) e ∙ drawn)
    ∙ (ap (λ (z : Token). (with_part z.0 (with_mine z.0.part (entry_from row z.0.written)), z.1)) e ∙ ap (λ (x : Entry). (with_part (filling old.0 (entry_words below c)) (with_mine old.0.part x), old.1)) (entry_back row below c (entry_words below c) refl coded))

-- an atom takes the place of a blank
fill_step : (c : List Atom) (i k : ℕ) (t d : Atom) → i < length c → t ≡ get_or c i d → set (take i c ++ replicate (suc k) blank) i t ≡ take (suc i) c ++ replicate k blank
fill_step [] i k t d h e = absurd (omega arith)
fill_step (x ∷ xs) zero k t d h e = ap (λ (y : Atom). y ∷ replicate k blank) e
fill_step (x ∷ xs) (suc i) k t d h e = ap (λ (l : List Atom). x ∷ l) (fill_step xs i k t d (omega arith) e)

pub fill_next : (c : List Atom) (i : ℕ) (t d : Atom) → i < length c → length c ≤ 16 → t ≡ get_or c i d → set (take i c ++ replicate (16 - i) blank) i t ≡ take (i + 1) c ++ replicate (16 - (i + 1)) blank
fill_next c i t d h few e =
    let more : 16 - i ≡ suc (16 - (i + 1)) = omega arith in
    let next : suc i ≡ i + 1 = omega arith in
    ap (λ (n : ℕ). set (take i c ++ replicate n blank) i t) more ∙ (fill_step c i (16 - (i + 1)) t d h e ∙ ap (λ (n : ℕ). take n c ++ replicate (16 - (i + 1)) blank) next)

-- what the words of a row that was taken tell
module _ (old : Token) (row : ℕ) (e : Entry) (at : get_elem? old.0.part.taken row ≡ some e) where
  abbrev pub Tells : Token → ℕ → ℕ → Type 0
  Tells now place x = (r k : ℕ) (d : Entry) → place ≡ row_words * r + (k + 2) → get_elem? now.0.part.taken r ≡ some d → k < length (entry_words d.below (entry_clause d)) → x ≡ get_or (entry_words d.below (entry_clause d)) k 0

  pub tells : (now : Token) (place x k : ℕ) → now ≡ old → Tells now place x → place ≡ row_words * row + (k + 2) → k < 2 + 2 * length (entry_clause e) → x ≡ get_or (entry_words e.below (entry_clause e)) k 0
  tells now place x k same told is less =
      let long = length-atom_words (entry_clause e) in
      told row k e is (ap (λ (z : Token). get_elem? z.0.part.taken row) same ∙ at) (omega arith)

  pub only : (d : Entry) → get_elem? old.0.part.taken row ≡ some d → e ≡ d
  only d g = some-injective e d (sym at ∙ g)

  abbrev pub C : List Atom
  C = entry_clause e

  pub head_told : (now : Token) (place x i : ℕ) (t : Atom) → now ≡ old → Tells now place x → place ≡ row_words * row + (2 * i + 4) → i < length C → x ≡ head_word (get_or C i t)
  head_told now place x i t same told is less =
      tells now place x (suc (suc (2 * i))) same told (omega arith) (omega arith) ∙ head_at C i t less

  pub number_told : (now : Token) (place x i : ℕ) (t : Atom) → now ≡ old → Tells now place x → place ≡ row_words * row + (2 * i + 5) → i < length C → x ≡ value_word (get_or C i t).value
  number_told now place x i t same told is less =
      tells now place x (suc (suc (2 * i + 1))) same told (omega arith) (omega arith) ∙ number_at C i t less

  -- the first word of an atom is small
  pub head_small : (x i : ℕ) (t : Atom) → IsCodedEntry e → i < length C → x ≡ head_word (get_or C i t) → x < 2 ^ 34
  head_small x i t coded less is = let s = coded.coded.subjects i t less in let o = op_small (get_or C i t).op in omega arith

  pub atom_told : (head number i : ℕ) (t : Atom) → IsCodedEntry e → i < length C → head ≡ head_word (get_or C i t) → number ≡ value_word (get_or C i t).value → atom_of head number ≡ get_or C i t
  atom_told head number i t coded less h n = ap (λ (x : ℕ). atom_of x number) h ∙ (ap (atom_of (head_word (get_or C i t))) n ∙ atom_back_at C i t coded.coded.atoms_back less)

-- what a look at the next row means to its seat
pub found_closed : (old next : Token) (rows : ℕ) → length old.0.part.taken < rows → next ≡ (with_part old.0 (with_misses old.0.part (old.0.part.misses + 1)), old.1) → OwnEntry old.0.part (length old.0.part.taken) (λ _. ⊥) → FoundClosed rows old.0.part next.0.part
found_closed old next rows left e foreign =
    let p : BoardPart = old.0.part in
    let here : next.0.part ≡ with_misses p (p.misses + 1) = ap (λ (z : Token). z.0.part) e in
    record {
      left = left;
      foreign = foreign;
      misses = subst (λ (q : BoardPart). Rises p.misses q.misses) (sym here) (record { rose = λ _. refl; never_falls = omega arith });
      counts = here ∙ sym (ap (λ (q : BoardPart). with_misses p q.misses) here);
    }

pub taken_here : (old next : Token) (row : ℕ) (e : Entry) → row ≡ length old.0.part.taken → next ≡ (with_part old.0 (with_taken old.0.part e), old.1) → get_elem? next.0.part.taken row ≡ some e
taken_here old next row e at is = ap (λ (z : Token). get_elem? z.0.part.taken row) is ∙ at_last old.0.part.taken e row (sym at)

pub took_entry : (m : CpModel) (old next : Token) (rows row : ℕ) (e read : Entry) → old.0.model ≡ Some m → row < rows → row ≡ length old.0.part.taken → next ≡ (with_part old.0 (with_taken old.0.part e), old.1) → Took old.0 e → get_elem? next.0.part.taken row ≡ some read
    → TookEntry m rows old.0.part next.0.part read
took_entry m old next rows row e read of left at is took got =
    let same : e ≡ read = some-injective e read (sym (taken_here old next row e at is) ∙ got) in
    subst (TookEntry m rows old.0.part next.0.part) same (record {
      left = omega arith;
      next = took.next;
      sound = took.sound m of;
      own = took.own;
      takes = ap (λ (z : Token). z.0.part) is;
    })

-- what was read of a row is its entry
same_entry : (r r' : ℕ) (z z' : Bound) (n n' : ℕ) (c c' : List Atom) → r ≡ r' → z ≡ z' → n ≡ n' → c ≡ c' → (let d : Entry = record { row = r; below = z; len = n; atoms = c } in d) ≡ (let e : Entry = record { row = r'; below = z'; len = n'; atoms = c' } in e)
same_entry r r' z z' n n' c c' e f g h = cc

pub entry_whole : (e : Entry) (row : ℕ) (below : Bound) (len i : ℕ) (atoms : List Atom) → IsCodedEntry e → e.row ≡ row → below ≡ e.below → len ≡ length (entry_clause e) → i ≡ length (entry_clause e)
    → atoms ≡ take i (entry_clause e) ++ replicate (16 - i) blank → e ≡ (let d : Entry = record { row = row; below = below; len = len; atoms = atoms } in d)
entry_whole e row below len i atoms h r z n k a =
    let c = entry_clause e in
    let all = ap (λ (j : ℕ). take j c ++ replicate (16 - j) blank) k ∙ ap (λ (l : List Atom). l ++ replicate (16 - length (entry_clause e)) blank) (take_all (length c) c (omega arith)) in
    h.is ∙ same_entry e.row row e.below below (length c) len _ atoms r (sym z) (sym n) (sym (a ∙ all))
