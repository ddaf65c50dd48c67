-- Which bodies a rule's propagator may have.
use Rattle.std.specs.Prelude.{◌≡◌, false}
use Rattle.cps_instance.specs.declared.task.Body.{Body}
use Rattle.cps_propagate.specs.Visits.{is_cut, is_cheap}

-- a body is neither an objective's cut nor of a cheap kind
pub record IsCostly (body : Body) : Type 0 where
  pub cut : is_cut body ≡ false
  pub cheap : is_cheap body ≡ false
