use Rattle.std.proofs.Common.{◌≡◌, length}
use Rattle.std.specs.Prelude.{max}
use Rattle.cps_clauses.specs.Watches.{IsWatching, list_at}
use Rattle.cps_clauses.specs.Visits.{IsUntouched}
use Rattle.cps_clauses.specs.Settles.{IsLookedOver, IsLookedNow}
use Rattle.cps_clauses.proofs.propagate.choose_all_watches.Given as goal

abbrev pub invariant-loop-clause : goal.invariant-loop-clause
invariant-loop-clause l = record {
  over : IsLookedOver l.clauses l.fn.store l.fn.watching.watches.items l.store l.watching.watches.items l.from l.clause;
  now : IsLookedNow l.clauses l.fn.store l.store l.watching.watches.items l.from l.clause;
  attached : l.watching.attached ≡ max l.fn.watching.attached l.clause;
  watching : IsWatching l.clauses l.watching.watches.items l.watching.attached (list_at l.watching.lists.items);
  room : length l.watching.lists.items ≡ length l.fn.watching.lists.items;
  still : l.clause ≡ l.from → IsUntouched l.fn.store l.fn.watching.watches.items l.fn.watching.visits l.store l.watching.watches.items l.watching.visits;
}
