-- What is left decides.
use Rattle.std.specs.Prelude.{◌↔◌}
use Rattle.std.proofs.Common.{ℤ, List, drop}
use Rattle.cps_model.specs.Sequences.{Accepts}
use Rattle.cps_eval.specs.Runs.{SomeAccepts}
use Rattle.cps_eval.proofs.automata.end_states.Given as goal

abbrev pub invariant-loop-label : goal.invariant-loop-label
invariant-loop-label l = (finals : List ℤ) → SomeAccepts l.steps finals l.states.items (drop l.label-index l.labels) ↔ Accepts l.steps finals l.start l.labels
