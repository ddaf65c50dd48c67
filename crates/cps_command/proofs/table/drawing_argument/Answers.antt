-- The argument's fields are those of the table.
use Rattle.std.proofs.Common.{rules, ◌≡◌, ◌∙◌, ap}
use Rattle.std.specs.Prelude.{Some}
use Rattle.clap.specs.declared.builder.value_parser.ValueParser.TheVariants as vp
use Rattle.cps_command.specs.Rules.{drawing_rule}
use Rattle.cps_command.proofs.table.drawing_argument.Goals as goal

pub returns-clause-rule : goal.returns-clause-rule
unfolding drawing_rule
returns-clause-rule c =
    let given = c.value_parser-2.ensures.given in
    let parser : c.value_parser-2.result.value_parser ≡ Some (vp.Unsigned 0 18446744073709551615) = given.1 ∙ ap Some (given.2 ∙ c.value_parser.ensures) in
    search rules
