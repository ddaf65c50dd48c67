-- What is drawn of a job shop before its constraints are made.
use Rattle.std.specs.Prelude.{◌≡◌, ◌≤◌, map}
use Rattle.rand_pcg.specs.Lcg.{Lcg}
use Rattle.cps_gen.specs.declared.jobshop.Shop.{Shop}
use Rattle.cps_gen.specs.Draws.{draws_of}
use Rattle.cps_gen.specs.Jobshop.{tasks, duration, horizon}

-- the generator of its seed
abbrev pub draws_in : Shop → Lcg
draws_in shop = draws_of shop.seed 2

pub record IsShop (shop : Shop) : Type 0 where
  pub least : 1 ≤ shop.size
  pub most : shop.size ≤ 16
  pub durations : shop.durations.items ≡ map (duration (draws_in shop)) (tasks shop.size)
  pub horizon : shop.horizon ≡ horizon (draws_in shop) shop.size
