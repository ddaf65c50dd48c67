-- The propagators of the kinds.
use Rattle.std.proofs.Common.{ℕ, List, ◌≡◌, refl, ◌∙◌, ap}
use Rattle.cps_instance.specs.declared.task.Body.{Body}
use Rattle.cps_instance.specs.declared.task.Task.{Task}
use Rattle.cps_enforce.specs.Reasons.{task_of}
use Rattle.cps_enforce.specs.Tasks.{IsCostly}
use Rattle.cps_p_arith.specs.declared.bounds.Demand.{Demand}
use Rattle.cps_p_arith.specs.declared.relation.Relation.{Relation}
use Rattle.cps_p_arith.specs.declared.relation.Relation.TheVariants.{Quotient, Remainder, Product, Greatest}
use Rattle.cps_p_arith.specs.Demands.{body_by, body_of}

costly_by : (k : Relation) (t : ℕ) (es : List ℕ) → IsCostly (body_by k t es)
costly_by Quotient t es = record { cut = refl; cheap = refl }
costly_by Remainder t es = record { cut = refl; cheap = refl }
costly_by Product t es = record { cut = refl; cheap = refl }
costly_by Greatest t es = record { cut = refl; cheap = refl }

pub costly : (d : Demand) → IsCostly (body_of d)
costly d = costly_by d.relation d.target d.exprs.items

pub is_task : (t p : Task) (b : Body) → p ≡ task_of t.enforcement b → b ≡ t.body → p ≡ t
is_task t p b e same = e ∙ ap (task_of t.enforcement) same
