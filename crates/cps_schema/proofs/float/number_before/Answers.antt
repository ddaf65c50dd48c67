use Rattle.std.proofs.Common.{take, arith, ◌∙◌}
use Rattle.cps_schema.specs.Digits.{decimal_value, capped}
use Rattle.cps_schema.proofs.Decimals.{digits_capped}
use Rattle.cps_schema.proofs.float.number_before.Goals as goal

pub returns : goal.returns
returns c =
    let number = decimal_value (take c.args.place c.args.whole.now) in
    c.digits_after.ensures
    ∙ rw (c.decimal_value.ensures, c.front.ensures, c.front-2.ensures)
    (digits_capped 10 (capped number) number (take c.args.in_fraction c.args.fraction.now) (omega arith) (omega arith))
