-- The blanks of the levels so far.
use Rattle.std.proofs.Common.{◌≡◌, ◌++◌, string_bytes}
use Rattle.cps_print.specs.Layout.{indent}
use Rattle.cps_print.proofs.layout.put_indent.Given as goal

abbrev pub invariant-loop : goal.invariant-loop
invariant-loop l = string_bytes l.text ≡ string_bytes l.fn.text ++ indent l.counter
