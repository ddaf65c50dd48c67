-- The words of a clause, one after another.
use Rattle.std.specs.Prelude.{nat_eq, Some, slice_get, ◌^◌}
use Rattle.std.specs.List.{list_all}
use Rattle.std.specs.Char.{is_ascii_digit}
use Rattle.std.specs.Fmt.{decimal, signed_decimal}
use Rattle.std.proofs.Common.{◌≡◌, ℕ, suc, ◌<◌, List, [], ◌∷◌, ◌++◌, length, Bool, true, false, refl, sym, ◌∙◌, ap, arith, ℤ, pos, negsuc}
use Rattle.std.proofs.lemmas.List.{append_assoc, append-nil}
use Rattle.std.proofs.lemmas.List.Concat.{flat_map-append}
use Rattle.std.proofs.lemmas.List.Elements.{All-head, All-tail}
use Rattle.std.proofs.lemmas.List.Folds.{list_all-append}
use Rattle.std.proofs.lemmas.Bool.Decides.{nat_tests}
use Rattle.cps_model.proofs.Tests.{and_true, both_true}
use Rattle.cps_literal.specs.declared.atom.Atom.{Atom}
use Rattle.cps_literal.specs.declared.atom.Op.{Op}
use Rattle.cps_literal.specs.declared.atom.Op.TheVariants.{Le, Ge, Eq, Ne}
use Rattle.cps_log.specs.Subjects.{IsNear}
use Rattle.cps_log.specs.Writing.{op_text, atom_word, clause_text}
use Rattle.cps_log.specs.Fitting.{FitsAtom, FitsClause}
use Rattle.cps_cert.specs.Words.{is_no_blank, IsNextWord, BeginsWith}
use Rattle.cps_cert.proofs.AtomWords.{decimal_digits}

-- ---- an atom's word has no blank

no_blank_of_digit : (b : ℕ) → is_ascii_digit b ≡ true → is_no_blank b ≡ true
no_blank_of_digit b h = grind (arith, nat_tests)

digits_no_blank : (ds : List ℕ) → list_all is_ascii_digit ds ≡ true → list_all is_no_blank ds ≡ true
digits_no_blank [] h = refl
digits_no_blank (d ∷ ds) h =
    let both = and_true (is_ascii_digit d) (list_all is_ascii_digit ds) h in
    both_true _ _ (no_blank_of_digit d both.0) (digits_no_blank ds both.1)

pub decimal_no_blank : (n : ℕ) → n < 2 ^ 64 → list_all is_no_blank (decimal n) ≡ true
decimal_no_blank n h = digits_no_blank (decimal n) (decimal_digits n h)

pub signed_no_blank : (z : ℤ) → IsNear z → list_all is_no_blank (signed_decimal z) ≡ true
signed_no_blank (pos n) h = decimal_no_blank n (omega arith)
signed_no_blank (negsuc n) h = decimal_no_blank (suc n) (omega arith)

op_no_blank : (op : Op) (after : List ℕ) → list_all is_no_blank after ≡ true → list_all is_no_blank (op_text op ++ after) ≡ true
op_no_blank Le after h = h
op_no_blank Ge after h = h
op_no_blank Eq after h = h
op_no_blank Ne after h = h

pub atom_no_blank : (t : Atom) → FitsAtom t → list_all is_no_blank (atom_word t) ≡ true
atom_no_blank t f =
    let small = f.subject in
    list_all-append is_no_blank (decimal t.subject) (op_text t.op ++ signed_decimal t.value)
    ∙ both_true _ _ (decimal_no_blank t.subject (omega arith)) (op_no_blank t.op (signed_decimal t.value) (signed_no_blank t.value f.near))

-- ---- one way to cut at the first blank

-- nothing, or a blank first
pub BeginsBlank : List ℕ → Type 0
BeginsBlank bytes = (b : ℕ) → slice_get bytes 0 ≡ Some b → b ≡ 32

no_word_at : (b : ℕ) → is_no_blank b ≡ true → b ≡ 32 → ⊥
no_word_at b h e = let fails : is_no_blank b ≡ false = rw e refl in cc

pub record SameCut (u x v y : List ℕ) : Type 0 where
  pub words : u ≡ v
  pub rests : x ≡ y

same_cut : (u x v y : List ℕ) → list_all is_no_blank u ≡ true → list_all is_no_blank v ≡ true → BeginsBlank x → BeginsBlank y → u ++ x ≡ v ++ y → SameCut u x v y
unfolding BeginsBlank
same_cut [] x [] y hu hv bx by e = record { words = refl; rests = e }
same_cut [] x (c ∷ cs) y hu hv bx by e = absurd (no_word_at c (and_true (is_no_blank c) (list_all is_no_blank cs) hv).0 (bx c (rw e refl)))
same_cut (b ∷ bs) x [] y hu hv bx by e = absurd (no_word_at b (and_true (is_no_blank b) (list_all is_no_blank bs) hu).0 (by b (rw (← e) refl)))
same_cut (b ∷ bs) x (c ∷ cs) y hu hv bx by e =
    let first : b ≡ c = cc in
    let others : bs ++ x ≡ cs ++ y = cc in
    let rest = same_cut bs x cs y (and_true (is_no_blank b) (list_all is_no_blank bs) hu).1 (and_true (is_no_blank c) (list_all is_no_blank cs) hv).1 bx by others in
    record { words = rw (first, rest.words) refl; rests = rest.rests }

pub clause_begins : (clause : List Atom) (b : ℕ) → slice_get (clause_text clause) 0 ≡ Some b → b ≡ 32
clause_begins [] b e = cc
clause_begins (t ∷ ts) b e = cc

-- a text that begins with a written word, cut at its first word
pub next_written : (rest word after u tail : List ℕ) → IsNextWord rest word after → list_all is_no_blank u ≡ true → BeginsWith rest u tail → SameCut word after u tail
unfolding BeginsBlank
next_written rest word after u tail next whole b =
    let same : word ++ after ≡ u ++ tail = (let both : 32 ∷ (word ++ after) ≡ 32 ∷ (u ++ tail) = sym next.is ∙ b.is in cc) in
    same_cut word after u tail next.whole whole next.ends b.ends same

-- a text that is a clause's, cut at its first word
pub next_atom : (rest word after : List ℕ) (t : Atom) (ts : List Atom) → IsNextWord rest word after → FitsClause (t ∷ ts) → rest ≡ clause_text (t ∷ ts) → SameCut word after (atom_word t) (clause_text ts)
next_atom rest word after t ts next fits e =
    next_written rest word after (atom_word t) (clause_text ts) next (atom_no_blank t (All-head FitsAtom t ts fits)) (record { is = e; ends = clause_begins ts })

-- ---- how far a text has been read

pub not_empty : (n : ℕ) (b : Bool) → b ≡ nat_eq n 0 → b ≡ false → n ≡ 0 → ⊥
not_empty n b e f z = grind (arith, nat_tests)

pub no_word_left : (rest : List ℕ) (c : List Atom) → (length rest ≡ 0 → ⊥) → (slice_get rest 0 ≡ Some 32 → ⊥) → rest ≡ clause_text c → ⊥
no_word_left rest [] some no_word e = some (rw e refl)
no_word_left rest (t ∷ ts) some no_word e = no_word (rw e refl)

pub no_atom_left : (rest word after : List ℕ) (c : List Atom) → (length rest ≡ 0 → ⊥) → IsNextWord rest word after → ((t : Atom) → FitsAtom t → word ≡ atom_word t → ⊥) → FitsClause c → rest ≡ clause_text c → ⊥
no_atom_left rest word after [] some next none fits e = some (rw e refl)
no_atom_left rest word after (t ∷ ts) some next none fits e = none t (All-head FitsAtom t ts fits) (next_atom rest word after t ts next fits e).words

-- a clause that is left after one atom more
pub left_after : (rest word after : List ℕ) (c : List Atom) → (length rest ≡ 0 → ⊥) → IsNextWord rest word after → FitsClause c → rest ≡ clause_text c → (more : List Atom) × (FitsClause more × (after ≡ clause_text more))
left_after rest word after [] some next fits e = absurd (some (rw e refl))
left_after rest word after (t ∷ ts) some next fits e = (ts, (All-tail FitsAtom t ts fits, (next_atom rest word after t ts next fits e).rests))

-- the text of one atom more
pub text_with : (text rest word after : List ℕ) (read : List Atom) (t : Atom) → text ≡ clause_text read ++ rest → IsNextWord rest word after → word ≡ atom_word t → text ≡ clause_text (read ++ t ∷ []) ++ after
text_with text rest word after read t e next w =
    let tail : rest ≡ clause_text (t ∷ []) ++ after = rw (next.is, w) (ap (λ (bs : List ℕ). 32 ∷ bs) (ap (λ (bs : List ℕ). bs ++ after) (sym (append-nil (atom_word t))))) in
    e ∙ ap (λ (bs : List ℕ). clause_text read ++ bs) tail ∙ sym (append_assoc (clause_text read) (clause_text (t ∷ [])) after) ∙ ap (λ (bs : List ℕ). bs ++ after) (sym (flat_map-append (λ (u : Atom). 32 ∷ atom_word u) read (t ∷ [])))
