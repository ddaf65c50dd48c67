-- Domains that propagation narrows, step by step.
use Rattle.std.specs.Prelude.{Any}
use Rattle.std.proofs.Common.{◌≡◌, ℕ, ◌<◌, List, [], length, get_or, refl, ◌∙◌, ℤ}
use Rattle.std.proofs.lemmas.List.{get_or_default}
use Rattle.cps_literal.specs.declared.atom.Atom.{Atom}
use Rattle.cps_unit.specs.Boxes.{Box, with_atom}
use Rattle.cps_unit.specs.Propagation.{IsUnit, IsFalseClause}
use Rattle.cps_rup.specs.Trailed.{Trailed}
use Rattle.cps_rup.specs.Domains.{box_in, ForcesOpen}
use Rattle.cps_rup.specs.Chains.{IsPropagated}
use Rattle.cps_unit.proofs.Chains.{propagates_itself, propagates_on, propagates_atom}

pub propagated_itself : (clauses : List (List Atom)) (domains : Trailed) → IsPropagated clauses domains domains
propagated_itself clauses domains = record { count = refl; narrowed = propagates_itself clauses (box_in domains.now) }

pub propagated_on : (clauses : List (List Atom)) (old mid new : Trailed) → IsPropagated clauses old mid → IsPropagated clauses mid new → IsPropagated clauses old new
propagated_on clauses old mid new p q = record { count = q.count ∙ p.count; narrowed = propagates_on clauses (box_in old.now) (box_in mid.now) (box_in new.now) p.narrowed q.narrowed }

-- a clause in its place is unit, or false
unit_here : (clauses : List (List Atom)) (box : Box) (k : ℕ) (t : Atom) → k < length clauses → ForcesOpen box (get_or clauses k []) t → Any (IsUnit box t) clauses
unit_here clauses box k t l f = (k, get_or clauses k [], l, get_or_default clauses k (get_or clauses k []) [] l, f.unit)

pub false_here : (clauses : List (List Atom)) (box : Box) (k : ℕ) → k < length clauses → IsFalseClause box (get_or clauses k []) → Any (IsFalseClause box) clauses
false_here clauses box k l f = (k, get_or clauses k [], l, get_or_default clauses k (get_or clauses k []) [] l, f)

-- a clause forces an atom
pub propagated_next : (clauses : List (List Atom)) (old mid new : Trailed) (k : ℕ) (t : Atom) → k < length clauses → ForcesOpen (box_in mid.now) (get_or clauses k []) t → length new.now ≡ length mid.now → ((s : ℕ) (x : ℤ) → box_in new.now s x ≡ with_atom (box_in mid.now) t s x) → IsPropagated clauses old mid → IsPropagated clauses old new
propagated_next clauses old mid new k t l f count kept p = propagated_on clauses old mid new p (record { count = count; narrowed = propagates_atom clauses (box_in mid.now) (box_in new.now) t (unit_here clauses (box_in mid.now) k t l f) kept })
