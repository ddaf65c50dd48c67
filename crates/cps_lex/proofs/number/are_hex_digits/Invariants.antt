use Rattle.std.proofs.Common.{◌≡◌, take, true}
use Rattle.std.specs.List.{list_all}
use Rattle.cps_lex.specs.Bytes.{is_hex_digit}
use Rattle.cps_lex.proofs.number.are_hex_digits.Given as goal

abbrev pub invariant-loop-byte : goal.invariant-loop-byte
invariant-loop-byte l = list_all is_hex_digit (take l.byte-index l.bytes) ≡ true
