use Rattle.cps_p_sequence.specs.Cuts.{Comes, IsLimited}
use Rattle.cps_p_sequence.proofs.cuts.lead_on.Given as goal

abbrev pub invariant-loop-step : goal.invariant-loop-step
invariant-loop-step l = record {
  comes : Comes l.past l.layer.goal l.layer.subject l.layer.steps.now l.step-index l.layer.tails.now l.heads.items l.fn.facts.items l.facts.items;
  limited : IsLimited l.facts.items l.layer.subject l.limits;
}
