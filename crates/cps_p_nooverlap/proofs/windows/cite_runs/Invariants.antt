use Rattle.cps_p_span.specs.Citing.{Cites}
use Rattle.cps_p_nooverlap.specs.Crowds.{AreRunsUpTo}
use Rattle.cps_p_nooverlap.proofs.windows.cite_runs.Given as goal
use Rattle.cps_instance.specs.Tasks.{span_subjects}

abbrev pub invariant-loop-place : goal.invariant-loop-place
invariant-loop-place l = Cites l.past (span_subjects l.spans) l.fn.facts.items l.facts.items (λ xs. AreRunsUpTo l.place l.window.ends l.window.is_reversed xs l.spans l.weights l.window.from l.window.to)
