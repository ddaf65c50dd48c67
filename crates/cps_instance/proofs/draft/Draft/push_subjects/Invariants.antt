-- The subjects so far.
use Rattle.std.proofs.Common.{take}
use Rattle.cps_instance.specs.Strategies.{NumbersExpressions}
use Rattle.cps_instance.proofs.draft.Draft.push_subjects.Given as goal

abbrev pub invariant-loop-expr : goal.invariant-loop-expr
invariant-loop-expr l = NumbersExpressions l.fn.self l.self (take l.expr-index l.exprs) l.fn.subjects.items l.subjects.items
