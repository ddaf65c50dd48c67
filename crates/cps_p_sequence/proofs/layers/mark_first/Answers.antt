use Rattle.std.proofs.Common.{◌∙◌, arith, true}
use Rattle.std.proofs.lemmas.List.{length-set}
use Rattle.cps_p_sequence.proofs.Numbering.{one_marked}
use Rattle.cps_p_sequence.proofs.layers.mark_first.Goals as goal

pub returns-clause-size : goal.returns-clause-size
returns-clause-size c = length-set c.blank.new.row.items c.args.first true ∙ c.in_ok-blank.ensures.size

pub returns-clause-marked : goal.returns-clause-marked
returns-clause-marked c = one_marked c.blank.new.row.items c.args.first (let size = c.in_ok-blank.ensures.size in let l = c.requires in omega arith) c.in_ok-blank.ensures.blank
