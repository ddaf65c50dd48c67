-- What a pool has.
use Rattle.std.specs.Prelude.{ℤ, ◌-◌, Bool, if◌then◌else◌, List, [], ◌∷◌, ◌++◌, length, slice_index_or}
use Rattle.boxcar.specs.Table.{Where}
use Rattle.cps_model.specs.declared.model.CpModel.{CpModel}

-- solutions of a model, in the order in which they were pushed, and whether a worker reads them
pub record Found : Type 0 where
  pub model : CpModel
  pub is_read : Bool
  pub solutions : List (List ℤ)

-- the solutions after one was pushed: it stands at the end, where a worker reads them
abbrev pub with_pushed : Bool → List (List ℤ) → List ℤ → List (List ℤ)
with_pushed is_read found solution = if is_read then found ++ solution ∷ [] else found

-- the one that was pushed last, of those that there are
abbrev pub last_of : List (List ℤ) → List ℤ
last_of found = slice_index_or found (length found - 1) []

-- the solution that stands where a push put it
abbrev pub pushed_at : Where (List ℤ) → List ℤ
pushed_at place = place.value
