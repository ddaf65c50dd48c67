-- Numbers of a log fit 64 bits.
use Rattle.std.specs.Prelude.{◌^◌, FitsSigned}
use Rattle.std.proofs.Common.{◌<◌, arith, ℤ, pos, negsuc}
use lib.Signed.{mag}
use mir.Syntax.{w64}
use Rattle.cps_log.specs.Subjects.{IsNear}

pub near_mag : (z : ℤ) → IsNear z → mag z < 2 ^ 63
near_mag (pos n) h = omega arith
near_mag (negsuc n) h = omega arith

pub near_fits : (z : ℤ) → IsNear z → FitsSigned w64 z
near_fits z h = record { sfits = near_mag z h }
