-- A knapsack of n items: variable i says whether item i is taken.
use Rattle.std.specs.Prelude.{ℕ, ◌+◌, ◌*◌, ◌/◌, ℤ, pos, neg_ℤ, List, [], ◌∷◌, map, replicate, sum_by}
use Rattle.rand_pcg.specs.Lcg.{Lcg}
use Rattle.cps_model.specs.declared.model.CpModel.{CpModel}
use Rattle.cps_model.specs.declared.constraint.Kind.TheVariants.{Linear}
use Rattle.cps_gen.specs.Draws.{drawn}
use Rattle.cps_gen.specs.Parts.{first, references, up_to, in_force, least_of, model_of}

-- For each item its weight is drawn, 1 to 100, and then its value, 1 to 100.
abbrev pub weight : Lcg → ℕ → ℕ
weight draws i = 1 + drawn draws (2 * i) 100

abbrev pub value : Lcg → ℕ → ℕ
value draws i = 1 + drawn draws (2 * i + 1) 100

-- the weights and the negated values as coefficients
abbrev pub weights : Lcg → ℕ → List ℤ
weights draws n = map (λ i. pos (weight draws i)) (first n)

abbrev pub losses : Lcg → ℕ → List ℤ
losses draws n = map (λ i. neg_ℤ (pos (value draws i))) (first n)

-- what all items weigh
abbrev pub total_weight : Lcg → ℕ → ℕ
total_weight draws n = sum_by (weight draws) (first n)

-- The items that are taken weigh at most half of what all weigh. The negated sum of their values is minimised.
abbrev pub knapsack : Lcg → ℕ → CpModel
knapsack draws n =
    model_of (replicate n (up_to 1))
    (in_force (Linear (references n) (weights draws n) (pos 0 ∷ pos (total_weight draws n / 2) ∷ [])) ∷ [])
    (least_of (references n) (losses draws n) (neg_ℤ (pos 1)))
