use Rattle.std.proofs.Common.{◌≡◌, []}
use Rattle.cps_conflict.proofs.minimiser.Minimiser.reset.Given as goal

abbrev pub invariant-loop-fallen : goal.invariant-loop-fallen
invariant-loop-fallen l = record { nodes : l.self.nodes.items ≡ []; assert : l.self.assert ≡ l.fn.assert }
