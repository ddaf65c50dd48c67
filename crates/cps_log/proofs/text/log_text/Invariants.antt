-- The lines of the items so far.
use Rattle.std.specs.Prelude.{string_bytes}
use Rattle.std.proofs.Common.{◌≡◌, take}
use Rattle.cps_log.specs.Writing.{log_text}
use Rattle.cps_log.proofs.text.log_text.Given as goal

abbrev pub invariant-loop-item : goal.invariant-loop-item
invariant-loop-item l = string_bytes l.text ≡ log_text (take l.item-index l.items)
