use Rattle.std.specs.Prelude.{◌≡◌, take, true}
use Rattle.std.specs.List.{list_all}
use Rattle.cps_schema.specs.Floats.{is_zero}
use Rattle.cps_schema.proofs.float.are_zeros.Given as goal

abbrev pub invariant-loop-digit : goal.invariant-loop-digit
invariant-loop-digit l = list_all is_zero (take l.digit-index l.digits) ≡ true
