-- The argument's fields are those of the table.
use Rattle.std.proofs.Common.{rules}
use Rattle.cps_command.specs.Rules.{family_rule}
use Rattle.cps_command.proofs.table.family_argument.Goals as goal

pub returns-clause-rule : goal.returns-clause-rule
unfolding family_rule
returns-clause-rule c = search rules
