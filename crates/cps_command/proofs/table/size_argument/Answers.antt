-- The argument's fields are those of the table.
use Rattle.std.proofs.Common.{rules, ◌≡◌, ◌∙◌, ap}
use Rattle.std.specs.Prelude.{Some, pos}
use Rattle.clap.specs.declared.builder.value_parser.ValueParser.TheVariants as vp
use Rattle.cps_command.specs.Rules.{size_rule}
use Rattle.cps_command.proofs.table.size_argument.Goals as goal

pub returns-clause-rule : goal.returns-clause-rule
unfolding size_rule
returns-clause-rule c =
    let given = c.value_parser-2.ensures.given in
    let parser : c.value_parser-2.result.value_parser ≡ Some (vp.Signed (pos 0) (pos 4294967295)) = given.1 ∙ ap Some (given.2 ∙ c.value_parser.ensures) in
    search rules
