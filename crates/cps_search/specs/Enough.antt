-- How many conflicts are enough for a worker that never restarts.
use Rattle.std.specs.Prelude.{ℕ, ◌+◌, ◌-◌, ◌^◌, List, [], length}
use Rattle.cps_instance.specs.Problem.{Problem}
use Rattle.cps_trail.specs.Trail.{Domains, Entry, open_values}

-- how many values the subjects have left beyond one each
abbrev pub spare_values : Domains → List Entry → ℕ
spare_values first entries = open_values first entries - length first

-- A worker in order learns from fewer conflicts: two to the number of its spare values, twice.
abbrev pub enough : Problem → ℕ
enough p = 2 ^ (spare_values p.domains [] + 1)
