-- Clauses that hold in the worked models.
use Rattle.std.proofs.Common.{◌≡◌, ℕ, zero, suc, ◌+◌, ◌<◌, ◌≤◌, ℤ, pos, ◌≤ℤ◌, ◌<ℤ◌, ◌+ℤ◌, ◌*ℤ◌, List, [], ◌∷◌, true, false, Bool, length, refl, ap, subst, arith}
use Rattle.std.specs.Prelude.{int_le, ◌||◌, Option, All}
use Rattle.std.proofs.lemmas.Int.{ints}
use Rattle.std.proofs.lemmas.List.Elements.{All-head, All-cons}
use Rattle.cps_model.specs.declared.bound.Bound.TheVariants.{At, Infinite}
use Rattle.cps_model.specs.declared.model.CpModel.{CpModel}
use Rattle.cps_model.specs.declared.model.Objective.{Objective}
use Rattle.cps_model.specs.Meaning.{IsSatisfied}
use Rattle.cps_model.specs.Solutions.{objective_sum, objective_value}
use Rattle.cps_literal.specs.declared.atom.Atom.{Atom}
use Rattle.cps_literal.specs.declared.atom.Op.TheVariants.{Le, Ge}
use Rattle.cps_literal.specs.Truth.{value_at}
use Rattle.cps_port.specs.Incumbents.{HoldsBelow, IsIncumbent}
use Rattle.cps_port.specs.Entries.{IsModelAtom, IsShareable}
use Rattle.cps_shared_tests.specs.Worked.{IsMinimised, any_of_nine, IsNine}

abbrev pub at_most_six : List Atom
at_most_six = record { subject = 0; op = Le; value = pos 6 } ∷ []

at_most : (x : ℤ) → ((pos 1 *ℤ x) +ℤ pos 0) <ℤ pos 7 → int_le x (pos 6) ≡ true
at_most x h = let less : x ≤ℤ pos 6 = omega (arith, ints) in grind (arith, ints)

or_false : (a : Bool) → a ≡ true → (a || false) ≡ true
or_false true h = refl
or_false false h = cc

pub six_holds : (m : CpModel) → IsMinimised m → HoldsBelow m (At (pos 7)) at_most_six
unfolding HoldsBelow
six_holds m w a free below =
    let value : objective_value m a ≡ ((pos 1 *ℤ value_at a 0) +ℤ pos 0) = ap (λ (o : Option Objective). objective_sum o a) w.objective in
    or_false (int_le (value_at a 0) (pos 6)) (at_most (value_at a 0) (subst (λ (v : ℤ). v <ℤ pos 7) value below))

abbrev atom_at : ℕ → Atom
atom_at i = record { subject = i; op = Ge; value = pos 1 }

abbrev pub one_of_nine : List Atom
one_of_nine = atom_at 0 ∷ atom_at 1 ∷ atom_at 2 ∷ atom_at 3 ∷ atom_at 4 ∷ atom_at 5 ∷ atom_at 6 ∷ atom_at 7 ∷ atom_at 8 ∷ []

pub nine_holds : (m : CpModel) → IsNine m → HoldsBelow m Infinite one_of_nine
unfolding HoldsBelow
nine_holds m w a free below =
    let kept : All (IsSatisfied m.constraints a) (any_of_nine ∷ []) = subst (All (IsSatisfied m.constraints a)) w.constraints free.constraints in
    All-head (IsSatisfied m.constraints a) any_of_nine [] kept refl

pub six_shareable : (m : CpModel) → IsMinimised m → IsShareable m at_most_six
six_shareable m w = let n = w.variables in record {
  some_atom = omega arith;
  few = omega arith;
  atoms = All-cons (IsModelAtom (length m.variables)) _ [] (record { subject = omega arith; low = omega (arith, ints); high = omega (arith, ints) }) (λ k d h. absurd (omega arith));
}

model_atom : (n i : ℕ) → i < n → IsModelAtom n (atom_at i)
model_atom n i h = record { subject = h; low = omega (arith, ints); high = omega (arith, ints) }

abbrev atoms_at : List ℕ → List Atom
atoms_at [] = []
atoms_at (i ∷ is) = atom_at i ∷ atoms_at is

all_atoms : (n : ℕ) (l : List ℕ) → All (λ (i : ℕ). i < n) l → All (IsModelAtom n) (atoms_at l)
all_atoms n [] h = λ k d l. absurd (omega arith)
all_atoms n (i ∷ is) h = All-cons (IsModelAtom n) (atom_at i) (atoms_at is) (model_atom n i (h 0 i (omega arith))) (all_atoms n is (λ k d l. h (suc k) d (omega arith)))

abbrev numbers : ℕ → ℕ → List ℕ
numbers from zero = []
numbers from (suc count) = from ∷ numbers (from + 1) count

numbers_below : (n from count : ℕ) → from + count ≤ n → All (λ (i : ℕ). i < n) (numbers from count)
numbers_below n from zero h = λ k d l. absurd (omega arith)
numbers_below n from (suc count) h = All-cons (λ (i : ℕ). i < n) from (numbers (from + 1) count) (omega arith) (numbers_below n (from + 1) count (omega arith))

pub nine_shareable : (m : CpModel) → IsNine m → IsShareable m one_of_nine
nine_shareable m w = let n = w.variables in record {
  some_atom = omega arith;
  few = omega arith;
  atoms = all_atoms (length m.variables) (numbers 0 9) (numbers_below (length m.variables) 0 9 (omega arith));
}

pub infinite_shown : (m : CpModel) → IsIncumbent m Infinite
unfolding IsIncumbent
infinite_shown m = tt
