-- The numbers so far.
use Rattle.std.specs.Prelude.{string_bytes}
use Rattle.std.specs.List.{flat_map}
use Rattle.std.proofs.Common.{◌≡◌, ◌++◌, take}
use Rattle.cps_print.specs.Layout.{behind_comma}
use Rattle.cps_print.proofs.layout.put_behind_commas.Given as goal

abbrev pub invariant-loop-value : goal.invariant-loop-value
invariant-loop-value g l = string_bytes l.text ≡ string_bytes l.fn.text ++ flat_map (behind_comma g.N.Integer.text) (take l.value-index l.values)
