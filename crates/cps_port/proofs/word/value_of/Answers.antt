-- A word below 2^63 stands for a value below 0.
use Rattle.cps_port.proofs.WordValues.{value_below}
use Rattle.cps_port.proofs.word.value_of.Goals as goal

pub returns-else-word : goal.returns-else-word
returns-else-word c = value_below c.args.word c.if-word.false
