-- Unit propagation by scans: what it forces leads to a conflict where some is false, and where all clauses are idle
-- nothing does.
use Rattle.std.specs.Prelude.{All, Any, ◌||◌, ◌==◌, not}
use Rattle.std.proofs.Common.{◌≡◌, ℕ, ◌<◌, List, [], ◌∷◌, length, get_or, set, Bool, true, false, ◌⊎◌, inl, inr, refl, sym, ◌∙◌, subst, arith, ℤ}
use Rattle.std.proofs.lemmas.Bool.Decides.{nat_tests}
use Rattle.std.proofs.lemmas.List.{get_or_default, get_or-set_other}
use Rattle.std.proofs.lemmas.Bool.{cases_eq}
use Rattle.cps_literal.specs.declared.atom.Atom.{Atom}
use Rattle.cps_literal.specs.Truth.{meets}
use Rattle.cps_unit.specs.Boxes.{Box, with_atom, IsEmpty, IsFalseIn, IsBelow, IsTrueIn, HasValues}
use Rattle.cps_unit.specs.Propagation.{IsUnit, Forces}
use Rattle.cps_unit.proofs.Below.{and_true, clause_below, unit_below, forces_below, true_below, below_itself, true_next}
use Rattle.cps_rup.specs.Domains.{ForcesOpen, IsIdle, HasTrueAtom, AreIdle}

-- a box in which an atom is true lies below what is left with the atom
true_at : (box : Box) (t : Atom) (s : ℕ) (x : ℤ) (same : Bool) → (t.subject == s) ≡ same → IsTrueIn box t → box s x ≡ true → (not same || meets t.op t.value x) ≡ true
true_at box t s x false e h l = refl
true_at box t s x true e h l =
    let is : t.subject ≡ s = grind (arith, nat_tests) in
    h x (rw is l)

below_atom : (box more : Box) (t : Atom) → IsBelow box more → IsTrueIn box t → IsBelow box (with_atom more t)
below_atom box more t b h = record { at = λ s x l. rw (b.at s x l, true_at box t s x (t.subject == s) refl h l) refl }

-- where all clauses are idle, nothing leads to a conflict
pub none_forced : (clauses : List (List Atom)) (box more : Box) (ts : List Atom) → IsBelow box more → All (IsIdle box) clauses → Forces clauses more ts → ⊥
none_forced clauses box more [] b idle f = (idle f.0 f.1 f.2).not_false (clause_below box more (get_or clauses f.0 f.1) b (rw f.3 f.4))
none_forced clauses box more (t ∷ ts) b idle f =
    let u = f.0 in
    let unit = unit_below box more t (get_or clauses u.0 u.1) b (rw u.3 u.4) in
    let holds = (idle u.0 u.1 u.2).forced t unit in
    none_forced clauses box (with_atom more t) ts (below_atom box more t b holds) idle f.1

pub true_atom_below : (box more : Box) (clause : List Atom) → IsBelow box more → HasTrueAtom more clause → HasTrueAtom box clause
true_atom_below box more clause b h = (h.0, h.1, h.2, h.3, true_below box more h.1 b h.4)

-- what a clause with a true atom forces is that atom
forced_is : (box : Box) (t u : Atom) (x : ℤ) → box t.subject x ≡ true → (t ≡ u) ⊎ IsFalseIn box t → IsTrueIn box t → IsTrueIn box u
forced_is box t u x l (inl same) h = rw (← same) h
forced_is box t u x l (inr f) h = let yes = h x l in let no_so = f x l in absurd (cc)

-- a clause with a true atom is idle
pub idle_of_true : (count : ℕ) (box : Box) (clause : List Atom) → HasValues count box → All (λ t. t.subject < count) clause → HasTrueAtom box clause → IsIdle box clause
idle_of_true count box clause v over h =
    let t : Atom = h.1 in
    let here : get_or clause h.0 t ≡ t = h.3 in
    let known : t.subject < count = rw here at (over h.0 t h.2) in
    let value = v.some t.subject known in
    let holds = h.4 value.0 value.1 in
    record {
      not_false = λ f. (let not_so : IsFalseIn box t = rw here at (f h.0 t h.2) in let fails = not_so value.0 value.1 in cc);
      forced = λ u unit. forced_is box t u value.0 value.1 (rw here at (unit.others h.0 t h.2)) h.4;
    }

done_or_not : (b : Bool) → (b ≡ true) ⊎ (b ≡ false)
done_or_not true = inl refl
done_or_not false = inr refl

-- where the clauses that are not done are idle, and those that are done have a true atom, all are idle
pub all_idle : (count : ℕ) (box : Box) (clauses : List (List Atom)) (done : List Bool) → HasValues count box → All (λ c. All (λ t. t.subject < count) c) clauses → AreIdle box clauses done → ((k : ℕ) (d : List Atom) → k < length clauses → get_or done k true ≡ true → HasTrueAtom box (get_or clauses k d)) → All (IsIdle box) clauses
all_idle count box clauses done v over idle holds k d l =
    elim (done_or_not (get_or done k true)) [
      | inl yes_so ↦ idle_of_true count box (get_or clauses k d) v (over k d l) (holds k d l yes_so)
      | inr no_so ↦ idle k d l no_so
    ]

-- what is forced over a box that is the one with an atom more is forced over the one, from the atom on
pub back_by : (clauses : List (List Atom)) (box next : Box) (t : Atom) (ts : List Atom) → ((s : ℕ) (x : ℤ) → next s x ≡ with_atom box t s x) → Any (IsUnit box t) clauses → Forces clauses next ts → Forces clauses box (t ∷ ts)
back_by clauses box next t ts e unit f = (unit, forces_below clauses (with_atom box t) next ts (record { at = λ s x l. (rw e l) }) f)

-- a clause in its place
pub unit_at : (clauses : List (List Atom)) (box : Box) (k : ℕ) (t : Atom) → k < length clauses → ((d : List Atom) → ForcesOpen box (get_or clauses k d) t) → Any (IsUnit box t) clauses
unit_at clauses box k t l f = (k, get_or clauses k [], l, get_or_default clauses k (get_or clauses k []) [] l, (f []).unit)

-- an atom of a unit clause is on a subject that exists
pub forced_over : (count : ℕ) (clauses : List (List Atom)) (box : Box) (k : ℕ) (t : Atom) → k < length clauses → All (λ c. All (λ u. u.subject < count) c) clauses → ((d : List Atom) → ForcesOpen box (get_or clauses k d) t) → t.subject < count
forced_over count clauses box k t l over f =
    let listed = (f []).unit.listed in
    rw listed.2 at (over k [] l listed.0 t listed.1)

-- a box lies below another that leaves more, after an atom more too
pub below_next : (box more next : Box) (t : Atom) → ((s : ℕ) (x : ℤ) → next s x ≡ with_atom box t s x) → IsBelow box more → IsBelow next more
below_next box more next t e b = record { at = λ s x l. b.at s x (and_true (box s x) _ (rw e at l)).0 }

value_at_next : (box next : Box) (t : Atom) → ((s : ℕ) (x : ℤ) → next s x ≡ with_atom box t s x) → (x : ℤ) × (next t.subject x ≡ true) → (s : ℕ) (same : Bool) → (t.subject == s) ≡ same → (x : ℤ) × (box s x ≡ true) → (x : ℤ) × (next s x ≡ true)
value_at_next box next t e here s true q v =
    let is : t.subject ≡ s = grind (arith, nat_tests) in
    (here.0, subst (λ (r : ℕ). next r here.0 ≡ true) is here.1)
value_at_next box next t e here s false q v = (v.0, rw (e s v.0, v.1, q) refl)

-- each subject is left a value, after an atom more too
pub values_next : (count : ℕ) (box next : Box) (t : Atom) → ((s : ℕ) (x : ℤ) → next s x ≡ with_atom box t s x) → (x : ℤ) × (next t.subject x ≡ true) → HasValues count box → HasValues count next
values_next count box next t e here v = record { some = λ s l. value_at_next box next t e here s (t.subject == s) refl (v.some s l) }

-- the clause that forced an atom has it as a true one; others that are done keep theirs
done_here : (box next : Box) (clause : List Atom) (t : Atom) → ((s : ℕ) (x : ℤ) → next s x ≡ with_atom box t s x) → ForcesOpen box clause t → HasTrueAtom next clause
done_here box next clause t e f = let listed = f.unit.listed in (listed.0, t, listed.1, listed.2, true_next box next t e)

pub done_next : (clauses : List (List Atom)) (box next : Box) (done : List Bool) (place : ℕ) (t : Atom) → ((s : ℕ) (x : ℤ) → next s x ≡ with_atom box t s x) → ((d : List Atom) → ForcesOpen box (get_or clauses place d) t) → ((k : ℕ) (d : List Atom) → k < length clauses → get_or done k true ≡ true → HasTrueAtom box (get_or clauses k d)) → (k : ℕ) (d : List Atom) → k < length clauses → get_or (set done place true) k true ≡ true → HasTrueAtom next (get_or clauses k d)
done_next clauses box next done place t e f holds k d l h =
    elim (cases_eq k place) [
      | inl same ↦ (let here : HasTrueAtom next (get_or clauses place d) = done_here box next (get_or clauses place d) t e (f d) in rw same here)
      | inr other ↦ (
          let there : get_or done k true ≡ true = sym (get_or-set_other done place k true true other) ∙ h in
          true_atom_below next box (get_or clauses k d) (below_itself box next t e) (holds k d l there))
    ]

-- a box with values is not empty
pub not_empty_box : (count : ℕ) (box more : Box) → HasValues count box → IsBelow box more → IsEmpty count more → ⊥
not_empty_box count box more v b e =
    let value = v.some e.subject e.within in
    let there = b.at e.subject value.0 value.1 in
    let gone = e.none value.0 in
    cc
