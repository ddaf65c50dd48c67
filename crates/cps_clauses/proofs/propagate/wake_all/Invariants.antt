use Rattle.std.proofs.Common.{◌≡◌, ◌≤◌, ◌+◌, ◌-◌, length}
use Rattle.cps_trail.specs.Trail.{open_values}
use Rattle.cps_clauses.specs.Watches.{IsStill, IsWatching, list_at}
use Rattle.cps_clauses.specs.Visits.{IsOutcome, IsUntouched, AreSafe}
use Rattle.cps_clauses.proofs.propagate.wake_all.Given as goal

abbrev pub invariant-loop-next : goal.invariant-loop-next
invariant-loop-next l = record {
  outcome : IsOutcome l.clauses l.fn.store l.fn.watching.watches.items l.store l.watching.watches.items;
  watching : IsWatching l.clauses l.watching.watches.items (length l.clauses) (list_at l.watching.lists.items);
  from : l.from ≤ l.next;
  within : l.next ≤ length l.store.entries;
  safe : AreSafe l.clauses l.watching.watches.items l.store l.next;
  still : IsStill l.clauses l.fn.watching.watches.items l.fn.store l.from → IsUntouched l.fn.store l.fn.watching.watches.items l.fn.watching.visits l.store l.watching.watches.items l.watching.visits;
  room : length l.watching.lists.items ≡ length l.fn.watching.lists.items;
  attached : l.watching.attached ≡ l.fn.watching.attached;
}

abbrev pub decreases-loop-next : goal.decreases-loop-next
decreases-loop-next l = open_values l.store.first l.store.entries + length l.store.entries - l.next
