-- The four lines are those of the model, the status and the solution.
use Rattle.std.proofs.Common.{◌≡◌, ◌++◌, codes, length, rules}
use Rattle.std.specs.Prelude.{string_bytes}
use Rattle.std.specs.Fmt.{decimal}
use Rattle.cps_print.specs.Responses.{line_of}
use Rattle.cps_print.proofs.Demonstrations.{four_lines}
use Rattle.cps_print.proofs.demonstration.demo_text.Goals as goal

pub returns : goal.returns
returns c =
    let variables : string_bytes c.put_line.new.text ≡ line_of (codes "variables") (decimal (length c.args.model.now.variables)) = search rules in
    let constraints : string_bytes c.put_line-2.new.text ≡ string_bytes c.put_line.new.text ++ line_of (codes "constraints") (decimal (length c.args.model.now.constraints)) = search rules in
    four_lines _ _ _ _ _ _ _ _ variables constraints (c.in_ok-put_status.ensures {u = tt}) (c.in_ok-put_best.ensures {u = tt})
