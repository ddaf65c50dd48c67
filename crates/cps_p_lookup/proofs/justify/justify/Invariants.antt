use Rattle.std.proofs.Common.{◌∷◌, ℕ, ◌≤◌, ◌<◌, get_or}
use Rattle.cps_rule.specs.Facts.{Grows}
use Rattle.cps_p_lookup.specs.Elements.{IsClosed}
use Rattle.cps_p_lookup.proofs.justify.justify.Given as goal

abbrev pub invariant-loop-place : goal.invariant-loop-place
invariant-loop-place l = record {
  grows : Grows l.past (l.lookup.index ∷ l.lookup.target ∷ l.lookup.exprs.now) l.initial.facts.items l.facts.items;
  closed : (k : ℕ) → l.initial.place ≤ k → k < l.place → IsClosed l.lookup.index l.lookup.target (get_or l.lookup.exprs.now k 0) k l.goal l.facts.items;
}
