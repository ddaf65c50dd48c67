-- The words pass, and have the command that they say.
use Rattle.clap.specs.Words.{subcommand_rows_of}
use Rattle.cps_command.specs.Lines.{texts_of}
use Rattle.cps_command.proofs.Given.{passed_command, one_command}
use Rattle.cps_command.proofs.command.command_of.Goals as goal

pub returns-in-Some-clause-found : goal.returns-in-Some-clause-found
returns-in-Some-clause-found c =
    passed_command (texts_of c.args.words.now) (subcommand_rows_of c.in-Some.line) c.command_in.result
    (rw c.in-Some.is at c.in_ok-line.ensures) c.command_in.ensures

pub returns-in-Some-clause-one : goal.returns-in-Some-clause-one
returns-in-Some-clause-one c = one_command (texts_of c.args.words.now)
