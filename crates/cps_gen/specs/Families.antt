-- The families of models: the words for them, and how large their models may be.
use Rattle.std.specs.Prelude.{ℕ, nat_le, Bool, ◌&&◌, List, codes}
use Rattle.cps_gen.specs.declared.family.Family.{Family}
use Rattle.cps_gen.specs.declared.family.Family.TheVariants.{Knapsack, Jobshop, Tour}

abbrev pub family_name : Family → List ℕ
family_name Knapsack = codes "knapsack"
family_name Jobshop = codes "jobshop"
family_name Tour = codes "tour"

-- 1 to 10,000 items, 1 to 16 jobs, 2 to 60 nodes
abbrev pub is_in_range : Family → ℕ → Bool
is_in_range Knapsack n = nat_le 1 n && nat_le n 10000
is_in_range Jobshop n = nat_le 1 n && nat_le n 16
is_in_range Tour n = nat_le 2 n && nat_le n 60
