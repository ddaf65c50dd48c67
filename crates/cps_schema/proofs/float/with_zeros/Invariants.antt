use Rattle.std.specs.Prelude.{◌≡◌, ◌*◌, ◌^◌}
use Rattle.cps_schema.specs.Digits.{capped}
use Rattle.cps_schema.proofs.float.with_zeros.Given as goal

abbrev pub invariant-loop : goal.invariant-loop
invariant-loop l = l.value ≡ capped (l.number * 10 ^ l.counter)
