use Rattle.std.proofs.Common.{◌≡◌, ◌*◌, ◌+◌, get_or, drop, arith}
use Rattle.cps_schema.specs.Digits.{digit_value, capped}
use Rattle.cps_schema.proofs.Decimals.{digits_capped, next_digit}
use Rattle.cps_schema.proofs.digits.digits_after.Goals as goal

pub loop-byte-preserved : goal.loop-byte-preserved
loop-byte-preserved c =
    let base = c.args.base in
    let text = c.args.text.now in
    let i = c.loop-byte.byte-index in
    let v = c.loop-byte.value in
    let next = next_digit base text i v c.loop-byte-test.true in
    let new = c.saturating_add-value.result in
    let step : new ≡ capped (v * base + digit_value (get_or text i 0)) = omega arith in
    let cut = digits_capped base (v * base + digit_value (get_or text i 0)) new (drop (i + 1) text) c.requires (omega arith) in
    (cc, omega arith)
