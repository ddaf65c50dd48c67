use Rattle.std.proofs.Common.{List, ◌<◌, ◌+◌, ◌*◌}
use Rattle.cps_literal.specs.declared.atom.Atom.{Atom}
use Rattle.cps_literal.specs.declared.atom.Op.{Op}
use Rattle.cps_literal.specs.Normal.{rank}
use Rattle.cps_clauses.specs.Watches.{IsWatching, list_at}
use Rattle.cps_clauses.specs.Visits.{WakesNoneOf}
use Rattle.cps_clauses.proofs.wake.wakes.Given as goal

abbrev pub invariant-loop-op : goal.invariant-loop-op
invariant-loop-op l = (clauses : List (List Atom)) → IsWatching clauses l.watching.watches.items l.watching.attached (list_at l.watching.lists.items)
    → (o : Op) → rank o < l.op-index → WakesNoneOf clauses l.watching.watches.items l.watching.attached l.store l.entry (4 * l.subject + rank o)
