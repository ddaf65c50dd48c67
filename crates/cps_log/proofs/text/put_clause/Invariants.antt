-- The atoms so far.
use Rattle.std.specs.Prelude.{string_bytes}
use Rattle.std.proofs.Common.{◌≡◌, ◌++◌, take}
use Rattle.cps_log.specs.Writing.{clause_text}
use Rattle.cps_log.proofs.text.put_clause.Given as goal

abbrev pub invariant-loop-atom : goal.invariant-loop-atom
invariant-loop-atom l = string_bytes l.text ≡ string_bytes l.fn.text ++ clause_text (take l.atom-index l.clause)
