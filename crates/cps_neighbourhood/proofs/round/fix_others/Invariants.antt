-- The decisions for the variables so far are made, and the place divides the free ones by the next variable.
use Rattle.std.proofs.Common.{ℕ, ◌≡◌, ◌≤◌, ◌<◌, ◌++◌, drop, get_or, length}
use Rattle.cps_neighbourhood.specs.Rounds.{fixed_from}
use Rattle.cps_neighbourhood.proofs.round.fix_others.Given as goal

abbrev pub invariant-loop-variable : goal.invariant-loop-variable
invariant-loop-variable l = record {
  decided : l.decisions.items ++ fixed_from l.variable (drop l.variable l.values) l.free ≡ fixed_from 0 l.values l.free;
  within : l.place ≤ length l.free;
  before : (k : ℕ) → k < l.place → k < length l.free → get_or l.free k 0 < l.variable;
  after : (k : ℕ) → l.place ≤ k → k < length l.free → l.variable ≤ get_or l.free k 0;
}
