-- The option's fields are those of the table.
use Rattle.std.proofs.Common.{rules}
use Rattle.cps_command.specs.Rules.{interleave_rule}
use Rattle.cps_command.proofs.table.interleave_option.Goals as goal

pub returns-clause-rule : goal.returns-clause-rule
unfolding interleave_rule
returns-clause-rule c = search rules
