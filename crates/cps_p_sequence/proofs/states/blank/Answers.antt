use Rattle.cps_p_sequence.proofs.Numbering.{none_marked}
use Rattle.cps_p_sequence.proofs.states.blank.Goals as goal

pub returns-clause-blank : goal.returns-clause-blank
returns-clause-blank c q l = none_marked c.resize.new.self.items c.clear.new.self.items c.args.count _ c.clear.ensures.items c.in_ok-resize.ensures.items q l
