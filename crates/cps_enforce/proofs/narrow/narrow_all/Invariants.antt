use Rattle.std.proofs.Common.{take}
use Rattle.cps_enforce.proofs.Passes.{Narrows}
use Rattle.cps_enforce.proofs.narrow.narrow_all.Given as goal

abbrev pub invariant-loop-narrowing : goal.invariant-loop-narrowing
invariant-loop-narrowing g l = Narrows l.fn.header.number l.fn.header.enforcement.now (g.R.Rule.body l.fn.rule) l.fn.store l.store (take l.narrowing-index l.found)
