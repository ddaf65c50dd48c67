use Rattle.std.proofs.Common.{List}
use Rattle.cps_literal.specs.declared.atom.Atom.{Atom}
use Rattle.cps_clauses.specs.Watches.{IsWatching, list_at}
use Rattle.cps_clauses.specs.Settles.{StaysFalse}
use Rattle.cps_clauses.proofs.propagate.wakes_some.Given as goal

abbrev pub invariant-loop-entry : goal.invariant-loop-entry
invariant-loop-entry l = (clauses : List (List Atom)) → IsWatching clauses l.watching.watches.items l.watching.attached (list_at l.watching.lists.items)
    → StaysFalse clauses l.watching.watches.items l.watching.attached l.store l.from l.entry
