-- Unit propagation is sound: where it comes to a false clause, no values in the box make all clauses true.
use Rattle.std.specs.Prelude.{◌&&◌, ◌||◌, ◌==◌, not, All}
use Rattle.std.specs.List.{list_any}
use Rattle.std.proofs.Common.{◌≡◌, ℕ, ◌<◌, List, [], ◌∷◌, get_or, Bool, true, false, ◌⊎◌, inl, inr, refl, sym, ◌∙◌, arith, ℤ}
use Rattle.std.proofs.lemmas.List.Folds.{list_any_none, Any-from_list_any}
use Rattle.std.proofs.lemmas.Bool.Decides.{nat_tests}
use Rattle.cps_literal.specs.declared.atom.Atom.{Atom}
use Rattle.cps_literal.specs.Truth.{meets, value_at, atom_holds, clause_holds}
use Rattle.cps_unit.specs.Boxes.{Box, is_made_true, denied, with_atom, LieIn, AreOn, IsFalseIn}
use Rattle.cps_unit.specs.Propagation.{IsUnit, IsFalseClause, Forces, LeadsToConflict}

or_false : (a b : Bool) → (a || b) ≡ false → (a ≡ false) × (b ≡ false)
or_false true b e = cc
or_false false b e = (refl, e)

both_hold : (a b : Bool) → a ≡ true → b ≡ true → (a && b) ≡ true
both_hold a b p q = rw (p, q) refl

bool_cases : (b : Bool) → (b ≡ true) ⊎ (b ≡ false)
bool_cases true = inl refl
bool_cases false = inr refl

-- an atom that is false at its subject's value is not what makes a value of a subject true
atom_silent : (xs : List ℤ) (t : Atom) (s : ℕ) (same : Bool) → (t.subject == s) ≡ same → atom_holds xs t ≡ false → (same && meets t.op t.value (value_at xs s)) ≡ false
atom_silent xs t s false e h = refl
atom_silent xs t s true e h =
    let is : t.subject ≡ s = grind (arith, nat_tests) in
    rw (← is) h

not_made_true : (xs : List ℤ) (clause : List Atom) (s : ℕ) → clause_holds clause xs ≡ false → is_made_true clause s (value_at xs s) ≡ false
not_made_true xs [] s h = refl
not_made_true xs (t ∷ ts) s h =
    let both = or_false (atom_holds xs t) (list_any (atom_holds xs) ts) h in
    rw (atom_silent xs t s (t.subject == s) refl both.0) (not_made_true xs ts s both.1)

lie_in_denied : (count : ℕ) (box : Box) (clause : List Atom) (xs : List ℤ) → LieIn count box xs → clause_holds clause xs ≡ false → LieIn count (denied box clause) xs
lie_in_denied count box clause xs lie h s l = rw (lie s l, not_made_true xs clause s h) refl

-- an atom that a box makes false is false at values that lie in it
false_at : (count : ℕ) (box : Box) (xs : List ℤ) (t : Atom) → IsFalseIn box t → t.subject < count → LieIn count box xs → atom_holds xs t ≡ false
false_at count box xs t f on lie = f (value_at xs t.subject) (lie t.subject on)

-- where an atom is true, values that lie in a box lie in what is left with it
atom_left : (xs : List ℤ) (t : Atom) (s : ℕ) (same : Bool) → (t.subject == s) ≡ same → atom_holds xs t ≡ true → (not same || meets t.op t.value (value_at xs s)) ≡ true
atom_left xs t s false e h = refl
atom_left xs t s true e h =
    let is : t.subject ≡ s = grind (arith, nat_tests) in
    rw (← is) h

lie_with_atom : (count : ℕ) (box : Box) (xs : List ℤ) (t : Atom) → atom_holds xs t ≡ true → LieIn count box xs → LieIn count (with_atom box t) xs
lie_with_atom count box xs t h lie s l = both_hold _ _ (lie s l) (atom_left xs t s (t.subject == s) refl h)

-- of a unit clause that is true the one atom is true
forced_true : (count : ℕ) (box : Box) (xs : List ℤ) (t : Atom) (clause : List Atom) → IsUnit box t clause → All (λ u. u.subject < count) clause → clause_holds clause xs ≡ true → LieIn count box xs → atom_holds xs t ≡ true
forced_true count box xs t clause unit on holds lie =
    let some = Any-from_list_any (atom_holds xs) clause holds in
    let here = some.3 in
    let is_true = some.4 in
    elim (unit.others some.0 some.1 some.2) [
      | inl same ↦ (let is : some.1 ≡ t = sym here ∙ same in rw (← is) is_true)
      | inr false_there ↦ (let f = false_at count box xs (get_or clause some.0 some.1) false_there (on some.0 some.1 some.2) lie in absurd (cc))
    ]

no_values_left : (count : ℕ) (clauses : List (List Atom)) (box : Box) (xs : List ℤ) (forced : List Atom) → Forces clauses box forced → AreOn count clauses → All (λ c. clause_holds c xs ≡ true) clauses → LieIn count box xs → ⊥
no_values_left count clauses box xs [] f on hold lie =
    let falls : IsFalseClause box (get_or clauses f.0 f.1) = rw f.3 f.4 in
    let none = list_any_none (atom_holds xs) (get_or clauses f.0 f.1) (λ k d l. false_at count box xs (get_or (get_or clauses f.0 f.1) k d) (falls k d l) (on f.0 f.1 f.2 k d l) lie) in
    let some = hold f.0 f.1 f.2 in
    cc
no_values_left count clauses box xs (t ∷ ts) f on hold lie =
    let unit = f.0 in
    let holds = forced_true count box xs t (get_or clauses unit.0 unit.1) (rw unit.3 unit.4) (on unit.0 unit.1 unit.2) (hold unit.0 unit.1 unit.2) lie in
    no_values_left count clauses (with_atom box t) xs ts f.1 on hold (lie_with_atom count box xs t holds lie)

pub implied : (count : ℕ) (clauses : List (List Atom)) (box : Box) (clause : List Atom) (xs : List ℤ) → LeadsToConflict clauses (denied box clause) → AreOn count clauses → LieIn count box xs → All (λ c. clause_holds c xs ≡ true) clauses
    → clause_holds clause xs ≡ true
implied count clauses box clause xs leads on lie hold = elim (bool_cases (clause_holds clause xs)) [
  | inl yes_so ↦ yes_so
  | inr no_so ↦ absurd (no_values_left count clauses (denied box clause) xs leads.forced leads.forces on hold (lie_in_denied count box clause xs lie no_so))
]
