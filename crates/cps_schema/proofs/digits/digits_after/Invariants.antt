use Rattle.std.specs.Prelude.{◌≡◌, ◌-◌, ◌^◌, ◌≤◌, drop}
use Rattle.cps_schema.specs.Digits.{digits_after, capped}
use Rattle.cps_schema.proofs.digits.digits_after.Given as goal

abbrev pub invariant-loop-byte : goal.invariant-loop-byte
invariant-loop-byte l =
    (capped (digits_after l.base l.fn.start l.text) ≡ capped (digits_after l.base l.value (drop l.byte-index l.text)))
    × (l.value ≤ 2 ^ 64 - 1)
