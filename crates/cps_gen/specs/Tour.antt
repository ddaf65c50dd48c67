-- A tour of n nodes: variable a says whether arc a is taken. Pair p has the nodes p / n and p % n, and there is an arc
-- from the first to the second of each pair of two nodes that differ, in order.
use Rattle.std.specs.Prelude.{ℕ, ◌+◌, ◌*◌, ◌/◌, ◌%◌, ◌==◌, Bool, not, ℤ, pos, List, [], ◌∷◌, map, filter, length, replicate}
use Rattle.rand_pcg.specs.Lcg.{Lcg}
use Rattle.cps_model.specs.declared.model.CpModel.{CpModel}
use Rattle.cps_model.specs.declared.constraint.Kind.TheVariants.{Circuit}
use Rattle.cps_gen.specs.Draws.{drawn}
use Rattle.cps_gen.specs.Parts.{first, references, up_to, in_force, least_of, model_of}

-- whether the nodes of a pair differ
abbrev pub is_arc : ℕ → ℕ → Bool
is_arc n p = not (p / n == p % n)

-- the pairs that have arcs
abbrev pub arcs : ℕ → List ℕ
arcs n = filter (is_arc n) (first (n * n))

abbrev pub tails : ℕ → List ℤ
tails n = map (λ p. pos (p / n)) (arcs n)

abbrev pub heads : ℕ → List ℤ
heads n = map (λ p. pos (p % n)) (arcs n)

-- what an arc costs: for each arc in order 1 to 100 is drawn
abbrev pub cost : Lcg → ℕ → ℕ
cost draws a = 1 + drawn draws a 100

abbrev pub costs : Lcg → ℕ → List ℤ
costs draws count = map (λ a. pos (cost draws a)) (first count)

-- The arcs that are taken are a circuit through all nodes. The sum of their costs is minimised.
abbrev pub tour_of : Lcg → ℕ → ℕ → CpModel
tour_of draws n count =
    model_of (replicate count (up_to 1)) (in_force (Circuit (tails n) (heads n) (references count)) ∷ [])
    (least_of (references count) (costs draws count) (pos 1))

abbrev pub tour : Lcg → ℕ → CpModel
tour draws n = tour_of draws n (length (arcs n))
