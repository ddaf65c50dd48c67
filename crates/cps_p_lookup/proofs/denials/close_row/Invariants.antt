use Rattle.std.proofs.Common.{◌≡◌}
use Rattle.cps_p_lookup.proofs.denials.close_row.Given as goal

abbrev pub invariant-loop-k : goal.invariant-loop-k
invariant-loop-k l = l.facts.items ≡ l.fn.facts.items
