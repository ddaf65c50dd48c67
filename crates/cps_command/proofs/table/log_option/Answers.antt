-- The option's fields are those of the table.
use Rattle.std.proofs.Common.{rules}
use Rattle.cps_command.specs.Rules.{log_rule}
use Rattle.cps_command.proofs.table.log_option.Goals as goal

pub returns-clause-rule : goal.returns-clause-rule
unfolding log_rule
returns-clause-rule c = search rules
