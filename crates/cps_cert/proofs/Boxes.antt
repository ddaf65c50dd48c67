-- Values at which a clause is false lie in its box.
use Rattle.std.specs.Prelude.{◌&&◌, ◌||◌, ◌==◌, not, All}
use Rattle.std.specs.List.{list_any}
use Rattle.std.proofs.Common.{◌≡◌, ℕ, ◌+◌, ◌<◌, ◌≤◌, List, [], ◌∷◌, get_or, Bool, true, false, refl, arith, ℤ}
use Rattle.std.proofs.lemmas.List.Folds.{list_any_none}
use Rattle.std.proofs.lemmas.Bool.Decides.{nat_tests}
use Rattle.cps_model.specs.Within.{is_within}
use Rattle.cps_literal.specs.declared.atom.Atom.{Atom}
use Rattle.cps_literal.specs.Truth.{meets, value_at, atom_holds, clause_holds}
use Rattle.cps_log.specs.Subjects.{IsClauseOver}
use Rattle.cps_unit.specs.Boxes.{Box, is_made_true, with_atom, IsEmpty, LieIn, IsFalseIn}
use Rattle.cps_log.specs.Boxes.{box_of}

-- one part of a disjunction that is false, or both
pub or_false : (a b : Bool) → (a || b) ≡ false → (a ≡ false) × (b ≡ false)
or_false true b e = cc
or_false false b e = (refl, e)

pub both_hold : (a b : Bool) → a ≡ true → b ≡ true → (a && b) ≡ true
both_hold a b p q = rw (p, q) refl

-- an atom that is false at its subject's value is not what makes a value of a subject true
atom_silent : (xs : List ℤ) (t : Atom) (s : ℕ) (same : Bool) → (t.subject == s) ≡ same → atom_holds xs t ≡ false → (same && meets t.op t.value (value_at xs s)) ≡ false
atom_silent xs t s false e h = refl
atom_silent xs t s true e h =
    let is : t.subject ≡ s = grind (arith, nat_tests) in
    rw (← is) h

not_made_true : (xs : List ℤ) (clause : List Atom) (s : ℕ) → clause_holds clause xs ≡ false → is_made_true clause s (value_at xs s) ≡ false
not_made_true xs [] s h = refl
not_made_true xs (t ∷ ts) s h =
    let both = or_false (atom_holds xs t) (list_any (atom_holds xs) ts) h in
    rw (atom_silent xs t s (t.subject == s) refl both.0) (not_made_true xs ts s both.1)

pub lie_in_box : (domains : List (List ℤ)) (clause : List Atom) (xs : List ℤ) (count : ℕ) → ((s : ℕ) → s < count → is_within (get_or domains s []) (value_at xs s) ≡ true) → clause_holds clause xs ≡ false → LieIn count (box_of domains clause) xs
lie_in_box domains clause xs count within h s l =
    rw (within s l, not_made_true xs clause s h) refl

-- no values lie in an empty box
pub none_in_empty : (count : ℕ) (box : Box) (xs : List ℤ) → IsEmpty count box → LieIn count box xs → ⊥
none_in_empty count box xs e lie =
    let here = lie e.subject e.within in
    let none = e.none (value_at xs e.subject) in
    cc

-- an atom that a box makes false is false at values that lie in it
pub false_in_box : (count : ℕ) (box : Box) (xs : List ℤ) (t : Atom) → IsFalseIn box t → t.subject + 1 ≤ count → LieIn count box xs → atom_holds xs t ≡ false
false_in_box count box xs t f over lie =
    let below : t.subject < count = omega arith in
    f (value_at xs t.subject) (lie t.subject below)

pub clause_false_in_box : (count : ℕ) (box : Box) (xs : List ℤ) (clause : List Atom) → All (IsFalseIn box) clause → IsClauseOver count clause → LieIn count box xs → clause_holds clause xs ≡ false
clause_false_in_box count box xs clause f over lie =
    list_any_none (atom_holds xs) clause (λ k d l. false_in_box count box xs (get_or clause k d) (f k d l) (over k d l).subject lie)

-- where an atom is true, values that lie in a box lie in what is left with it
atom_left : (xs : List ℤ) (t : Atom) (s : ℕ) (same : Bool) → (t.subject == s) ≡ same → atom_holds xs t ≡ true → (not same || meets t.op t.value (value_at xs s)) ≡ true
atom_left xs t s false e h = refl
atom_left xs t s true e h =
    let is : t.subject ≡ s = grind (arith, nat_tests) in
    rw (← is) h

pub lie_with_atom : (count : ℕ) (box : Box) (xs : List ℤ) (t : Atom) → atom_holds xs t ≡ true → LieIn count box xs → LieIn count (with_atom box t) xs
lie_with_atom count box xs t h lie s l = both_hold _ _ (lie s l) (atom_left xs t s (t.subject == s) refl h)
