-- The domains of subjects, and what is known of sums over them.
use Rattle.std.specs.Prelude.{◌≡◌, ℕ, ◌-◌, ◌≤◌, ◌<◌, true, ℤ, ◌*ℤ◌, unsigned_abs, List, [], ◌∷◌, length, map, slice_index_or, ◌^◌, IsTrue}
use Rattle.std.specs.List.{list_all}
use Rattle.cps_model.specs.declared.model.Variable.{Variable}
use Rattle.cps_model.specs.Rules.{names}
use Rattle.cps_model.specs.Values.{variable_of}
use Rattle.cps_model.specs.Within.{is_within}
use Rattle.cps_domain.specs.Window.{Window}
use Rattle.cps_unit.specs.Boxes.{Box}
use Rattle.cps_log.specs.Subjects.{variable_domain}
use Rattle.cps_rup.specs.Domains.{box_in}

-- domains have the numbers that lists of bounds have, one for each
pub record AreDomains (domains : List Window) (lists : List (List ℤ)) : Type 0 where
  pub many : length domains ≡ length lists
  pub same : (s : ℕ) (x : ℤ) → box_in domains s x ≡ is_within (slice_index_or lists s []) x

-- of a sum the products of coefficients and values that are left add up to at most so much in magnitude
abbrev pub HasReach : Box → List ℤ → List ℤ → ℕ → Type 0
HasReach box [] cs n = Unit {0}
HasReach box (r ∷ rs) [] n = Unit {0}
HasReach box (r ∷ rs) (c ∷ cs) n =
    (k : ℕ) × ((x : ℤ) → box (variable_of r) x ≡ true → unsigned_abs (c *ℤ x) ≤ k) × (k ≤ n) × HasReach box rs cs (n - k)

-- a sum over variables that exist, with a coefficient for each, that stays small
pub record IsSmallSum (box : Box) (count : ℕ) (vars coeffs : List ℤ) : Type 0 where
  pub named : IsTrue (list_all (names count) vars)
  pub paired : length vars ≡ length coeffs
  pub small : HasReach box vars coeffs (2 ^ 62 - 1)

-- the first domains have the values of the variables' domains
pub record HasDomainsOf (domains : List Window) (vs : List Variable) : Type 0 where
  pub many : length vs ≤ length domains
  pub same : (i : ℕ) → i < length vs → (x : ℤ) → box_in domains i x ≡ is_within (slice_index_or (map variable_domain vs) i []) x
