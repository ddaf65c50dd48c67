-- The subjects so far.
use Rattle.std.proofs.Common.{take, map}
use Rattle.cps_model.specs.Values.{reference_expression}
use Rattle.cps_instance.specs.Strategies.{NumbersExpressions}
use Rattle.cps_instance.proofs.draft.Draft.push_references.Given as goal

abbrev pub invariant-loop-reference : goal.invariant-loop-reference
invariant-loop-reference l = NumbersExpressions l.fn.self l.self (map reference_expression (take l.reference-index l.references)) l.fn.subjects.items l.subjects.items
