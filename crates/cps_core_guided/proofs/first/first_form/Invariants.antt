use Rattle.cps_core_guided.proofs.FirstForms.{FormSoFar}
use Rattle.cps_core_guided.proofs.first.first_form.Given as goal

abbrev pub invariant-loop-term : goal.invariant-loop-term
invariant-loop-term g l = FormSoFar l.fn.frame l.frame l.terms l.term-index l.reform
