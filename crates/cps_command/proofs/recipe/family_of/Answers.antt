-- The family is the one whose name was read.
use Rattle.std.proofs.Common.{rules, ◌≡◌, Some, None, codes}
use Rattle.clap.specs.Matches.{first_value}
use Rattle.clap.specs.Words.{found_of}
use Rattle.cps_command.proofs.Given.{family_given, no_family_given}
use Rattle.cps_command.proofs.recipe.family_of.Goals as goal

pub returns-in-Some : goal.returns-in-Some
returns-in-Some c =
    let read : first_value (found_of c.args.matches.now) (codes "family") ≡ Some c.in-Some.name.now = search rules in
    family_given (found_of c.args.matches.now) c.in-Some.name.now c.of_name.result read c.of_name.ensures

pub returns-in-None : goal.returns-in-None
returns-in-None c =
    let read : first_value (found_of c.args.matches.now) (codes "family") ≡ None = search rules in
    no_family_given (found_of c.args.matches.now) read
