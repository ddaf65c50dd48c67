use Rattle.std.proofs.Common.{◌≡◌, ◌++◌, drop}
use Rattle.cps_reform.specs.Cores.{core_terms}
use Rattle.cps_reform.proofs.reform.Reform.core_terms.Given as goal

abbrev pub invariant-loop-term : goal.invariant-loop-term
invariant-loop-term l = core_terms l.self.terms ≡ l.terms.items ++ core_terms (drop l.term-index l.self.terms)
