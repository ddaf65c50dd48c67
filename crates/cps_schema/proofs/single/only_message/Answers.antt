use Rattle.std.proofs.lemmas.Grind.{common_steps}
use Rattle.std.proofs.Common.{◌≡◌, length, arith, ◌∙◌}
use Rattle.cps_textproto.proofs.Views.{values_of_messages}
use Rattle.cps_schema.proofs.Values.{lone_message}
use Rattle.cps_schema.proofs.single.only_message.Goals as goal

pub returns-then-len-eq1-clause-some : goal.returns-then-len-eq1-clause-some
returns-then-len-eq1-clause-some c =
    let one : length c.args.list.now.items ≡ 1 = grind (arith, common_steps) in
    values_of_messages c.args.list.now ∙ lone_message c.args.list.now.items c.index.result.now one c.index.ensures
