-- The model of a family, a size and a seed.
use Rattle.std.specs.Prelude.{ℕ, Bool, true, false}
use Rattle.cps_model.specs.declared.model.CpModel.{CpModel}
use Rattle.cps_model.specs.declared.constraint.Kind.{Kind}
use Rattle.cps_model.specs.declared.constraint.Kind.TheVariants.{Empty, BoolOr, BoolAnd, AtMostOne, ExactlyOne, BoolXor, Linear, IntDiv, IntMod, IntProd, LinMax, Element, Table, AllDiff, Circuit, Interval, NoOverlap, Cumulative, Inverse, Automaton, Reservoir, NoOverlap2d}
use Rattle.cps_gen.specs.declared.family.Family.{Family}
use Rattle.cps_gen.specs.declared.family.Family.TheVariants.{Knapsack, Jobshop, Tour}
use Rattle.cps_gen.specs.Draws.{draws_of}
use Rattle.cps_gen.specs.Knapsack.{knapsack}
use Rattle.cps_gen.specs.Jobshop.{jobshop}
use Rattle.cps_gen.specs.Tour.{tour}

-- each family draws from a stream of its own
unfoldable pub generated : Family → ℕ → ℕ → CpModel
generated Knapsack size seed = knapsack (draws_of seed 1) size
generated Jobshop size seed = jobshop (draws_of seed 2) size
generated Tour size seed = tour (draws_of seed 3) size

-- whether a constraint of a generated model may have this kind
abbrev pub is_generated : Kind → Bool
is_generated (Linear vars coeffs domain) = true
is_generated (Circuit tails heads literals) = true
is_generated (Interval start end size) = true
is_generated (NoOverlap intervals) = true
is_generated Empty = false
is_generated (BoolOr literals) = false
is_generated (BoolAnd literals) = false
is_generated (AtMostOne literals) = false
is_generated (ExactlyOne literals) = false
is_generated (BoolXor literals) = false
is_generated (IntDiv target exprs) = false
is_generated (IntMod target exprs) = false
is_generated (IntProd target exprs) = false
is_generated (LinMax target exprs) = false
is_generated (Element index target exprs) = false
is_generated (Table exprs values negated) = false
is_generated (AllDiff exprs) = false
is_generated (Cumulative capacity intervals demands) = false
is_generated (Inverse direct inverse) = false
is_generated (Automaton start finals tails heads labels exprs) = false
is_generated (Reservoir min max times changes active) = false
is_generated (NoOverlap2d x y) = false
