-- No byte so far is a line feed.
use Rattle.std.proofs.Common.{◌≡◌, true, take}
use Rattle.std.specs.List.{list_all}
use Rattle.cps_cert.specs.Verdicts.{is_no_feed}
use Rattle.cps_cert.proofs.cursor.line_length.Given as goal

abbrev pub invariant-loop-count : goal.invariant-loop-count
invariant-loop-count l = list_all is_no_feed (take l.count l.bytes) ≡ true
