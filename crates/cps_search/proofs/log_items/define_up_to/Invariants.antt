use Rattle.cps_model.specs.declared.bound.Bound.{Bound}
use Rattle.cps_search.specs.Logged.{Grows}
use Rattle.cps_search.specs.LogItems.{IsUngrown}
use Rattle.cps_search.proofs.log_items.define_up_to.Given as goal

abbrev pub invariant-loop-place : goal.invariant-loop-place
invariant-loop-place l = (z : Bound) → IsUngrown l.instance → Grows l.instance z l.initial.tracer l.tracer
