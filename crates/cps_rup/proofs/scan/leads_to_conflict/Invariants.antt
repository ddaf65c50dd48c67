-- What is forced from what is left is forced from what was left at first; a clause that is done has a true atom.
use Rattle.std.specs.Prelude.{not, count_by}
use Rattle.std.proofs.Common.{◌≡◌, ℕ, ◌<◌, List, length, get_or, true}
use Rattle.cps_literal.specs.declared.atom.Atom.{Atom}
use Rattle.cps_unit.specs.Propagation.{Forces, LeadsToConflict}
use Rattle.cps_unit.specs.Boxes.{IsBelow}
use Rattle.cps_rup.specs.Domains.{box_in, HasTrueAtom}
use Rattle.cps_rup.proofs.scan.leads_to_conflict.Given as goal

abbrev pub invariant-loop-done : goal.invariant-loop-done
invariant-loop-done l = record {
  marks : length l.done.items ≡ length l.clauses;
  first : l.domains.first ≡ l.fn.domains.first;
  count : length l.domains.now ≡ length l.fn.domains.now;
  below : IsBelow (box_in l.domains.now) (box_in l.fn.domains.now);
  back : (forced : List Atom) → Forces l.clauses (box_in l.domains.now) forced → LeadsToConflict l.clauses (box_in l.fn.domains.now);
  done_true : (k : ℕ) (d : List Atom) → k < length l.clauses → get_or l.done.items k true ≡ true → HasTrueAtom (box_in l.domains.now) (get_or l.clauses k d);
}

abbrev pub decreases-loop-done : goal.decreases-loop-done
decreases-loop-done l = count_by not l.done.items
