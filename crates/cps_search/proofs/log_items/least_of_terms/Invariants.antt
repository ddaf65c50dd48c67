use Rattle.std.proofs.Common.{ℤ, pos, map}
use Rattle.cps_domain.specs.Window.{intervals}
use Rattle.cps_instance.proofs.Boundings.{EndsSoFar}
use Rattle.cps_search.proofs.log_items.least_of_terms.Given as goal

abbrev pub invariant-loop-term : goal.invariant-loop-term
invariant-loop-term l = (high : ℤ) × EndsSoFar (map intervals l.domains) l.terms (pos 0) l.term-index l.sum high
