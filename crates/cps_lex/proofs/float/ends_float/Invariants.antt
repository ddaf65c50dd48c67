use Rattle.std.proofs.Common.{◌≡◌, drop}
use Rattle.cps_lex.specs.Floats.{float_from}
use Rattle.cps_lex.proofs.float.ends_float.Given as goal

abbrev pub invariant-loop-byte : goal.invariant-loop-byte
invariant-loop-byte l = float_from l.part (drop l.byte-index l.bytes) ≡ float_from l.fn.start l.bytes
