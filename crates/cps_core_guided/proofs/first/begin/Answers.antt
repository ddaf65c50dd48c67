-- A frame that knows nothing yet has a form over an instance that only grew.
use Rattle.cps_core_guided.proofs.CoreStarts.{fresh-begins}
use Rattle.cps_core_guided.proofs.first.begin.Goals as goal

pub returns-clause-begins : goal.returns-clause-begins
returns-clause-begins g c =
    let k = c.in_ok-reform.ensures in
    fresh-begins c.args.instance c.args.gap c.args.budget c.in_ok-frame.frame c.objective_form.new.frame c.in_ok-reform.reform c.in_ok-reform.greatest c.in_ok-frame.ensures.is k.grew k.sound k.first k.base k.greatest k.small c.requires.few

pub objective_form-requires-clause-sound : goal.objective_form-requires-clause-sound
objective_form-requires-clause-sound g c = c.in_ok-frame.ensures.sound
