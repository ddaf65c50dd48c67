-- The line feeds so far.
use Rattle.std.proofs.Common.{◌≡◌, ◌≤◌, take}
use Rattle.cps_cert.specs.Parts.{feed_count}
use Rattle.cps_cert.proofs.part.feed_count.Given as goal

abbrev pub invariant-loop-byte : goal.invariant-loop-byte
invariant-loop-byte l = (l.count ≡ feed_count (take l.byte-index l.bytes)) × (l.count ≤ l.byte-index)
