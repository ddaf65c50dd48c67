-- The constraints so far, and the room that is left.
use Rattle.std.specs.Prelude.{sum_by}
use Rattle.std.proofs.Common.{◌+◌, ◌≤◌, ◌^◌, length, take, drop}
use Rattle.cps_model.specs.Validity.{constraint_entries}
use Rattle.cps_instance.proofs.Drafting.{Numbered}
use Rattle.cps_instance.proofs.draft.Draft.number_all.Given as goal

abbrev pub invariant-loop-constraint : goal.invariant-loop-constraint
invariant-loop-constraint l = record {
  numbered : Numbered l.fn.self l.self (take l.constraint-index l.constraints) l.lists.items;
  room : length l.self.domains + sum_by constraint_entries (drop l.constraint-index l.constraints) ≤ 2 ^ 31;
}
