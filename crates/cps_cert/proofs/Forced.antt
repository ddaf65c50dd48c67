-- Unit propagation is sound: where it comes to a false clause, no values in the box make all clauses true.
use Rattle.std.specs.Prelude.{All}
use Rattle.std.proofs.Common.{◌≡◌, ℕ, List, [], ◌∷◌, get_or, true, inl, inr, sym, ◌∙◌, ℤ}
use Rattle.std.proofs.lemmas.List.Folds.{Any-from_list_any}
use Rattle.cps_literal.specs.declared.atom.Atom.{Atom}
use Rattle.cps_literal.specs.Truth.{atom_holds, clause_holds}
use Rattle.cps_log.specs.Subjects.{IsClauseOver}
use Rattle.cps_unit.specs.Boxes.{Box, with_atom, LieIn}
use Rattle.cps_unit.specs.Propagation.{IsUnit, Forces}
use Rattle.cps_cert.proofs.Boxes.{false_in_box, clause_false_in_box, lie_with_atom}

-- a clause over the subjects so far that is true
pub record IsTrueOver (count : ℕ) (xs : List ℤ) (clause : List Atom) : Type 0 where
  pub over : IsClauseOver count clause
  pub holds : clause_holds clause xs ≡ true

-- of a unit clause that is true the one atom is true
forced_true : (count : ℕ) (box : Box) (xs : List ℤ) (t : Atom) (clause : List Atom) → IsUnit box t clause → IsTrueOver count xs clause → LieIn count box xs → atom_holds xs t ≡ true
forced_true count box xs t clause unit true_over lie =
    let some = Any-from_list_any (atom_holds xs) clause true_over.holds in
    let here = some.3 in
    let is_true = some.4 in
    elim (unit.others some.0 some.1 some.2) [
      | inl same ↦ (let is : some.1 ≡ t = sym here ∙ same in rw (← is) is_true)
      | inr false_there ↦ (let f = false_in_box count box xs (get_or clause some.0 some.1) false_there (true_over.over some.0 some.1 some.2).subject lie in absurd (cc))
    ]

pub no_values_left : (count : ℕ) (clauses : List (List Atom)) (box : Box) (xs : List ℤ) (forced : List Atom) → Forces clauses box forced → All (IsTrueOver count xs) clauses → LieIn count box xs → ⊥
no_values_left count clauses box xs [] f hold lie =
    let here = hold f.0 f.1 f.2 in
    let none = clause_false_in_box count box xs (get_or clauses f.0 f.1) (rw f.3 f.4) here.over lie in
    let some = here.holds in
    cc
no_values_left count clauses box xs (t ∷ ts) f hold lie =
    let unit = f.0 in
    let here = hold unit.0 unit.1 unit.2 in
    let holds = forced_true count box xs t (get_or clauses unit.0 unit.1) (rw unit.3 unit.4) here lie in
    no_values_left count clauses (with_atom box t) xs ts f.1 hold (lie_with_atom count box xs t holds lie)
