-- A line of `solve` whose options are out of their ranges says no command.
use Rattle.std.proofs.Common.{refl, codes}
use Rattle.clap.specs.Words.{found_of, rows_of, subcommand_rows_of}
use Rattle.cps_command.proofs.Given.{has_name, no_options}
use Rattle.cps_command.proofs.command.command_in.Goals as goal

pub returns-in_err-options_of : goal.returns-in_err-options_of
returns-in_err-options_of c =
    rw c.from_residual.ensures (no_options (subcommand_rows_of c.args.line.now) (rows_of (found_of c.in-Some.solve.now))
    (has_name c.args.line.now (codes "solve") (c.in-Some.ensures.found.0 refl)) c.in-Some.ensures.rows c.in_err-options_of.ensures)
