-- A worker that begins, with a log in which nothing is written or without one.
use Rattle.std.specs.Prelude.{Bool, Option, Some, None, IfSome, is_some}
use Rattle.std.proofs.Common.{◌≡◌, ◌∙◌, ℕ, refl, sym, ap, subst}
use Rattle.std.proofs.lemmas.Option.{IfSome_then}
use Rattle.cps_model.specs.declared.model.CpModel.{CpModel}
use Rattle.cps_instance.specs.Problem.{Problem, IsInstance}
use Rattle.cps_instance.specs.Strategies.{first_tasks, model_sums}
use Rattle.cps_branch.specs.Guidances.{IsPlanOf}
use Rattle.cps_branch.specs.Scope.{IsScopeOf}
use Rattle.cps_branch.specs.Strategies.{Planned}
use Rattle.cps_tracer.specs.Traced.{Traced, IsAbout}
use Rattle.cps_search.specs.Logged.{IsBlankLog}
use Rattle.cps_search.specs.Moves.{fresh, with_log}
use Rattle.cps_search.specs.Searches.{Search}
use Rattle.cps_crew.specs.Workers.{Begins}
use Rattle.cps_portfolio.specs.Workers.{IsBlankOf}

-- a log of the model is one of its first instance
pub blank_logs : (p : Problem) (m : CpModel) (log : Option Traced) → p.model ≡ m → p.defs ≡ model_sums m → p.tasks ≡ first_tasks m → IfSome log (IsBlankOf m) → IfSome log (IsBlankLog p)
blank_logs p m log model sums tasks h = IfSome_then log h (λ t blank. record {
  ungrown = record { sums = sums ∙ ap model_sums (sym model); tasks = tasks ∙ ap first_tasks (sym model) };
  about = subst (λ (x : CpModel). IsAbout x t) (sym model) blank.0;
  blank = blank.1;
})

-- a log changes nothing of the instance
pub begun_instance : (log : Option Traced) (s : Search) → (with_log log s).instance ≡ s.instance
begun_instance None s = refl
begun_instance (Some t) s = refl

-- a worker's plan is of the instance with which it begins
pub plans_alike : (p q : Problem) (plan other : Planned) → q ≡ p → other ≡ plan → plan.strategies ≡ p.steering → IsScopeOf p (record { variables = plan.variables; subjects = plan.subjects }) → IsPlanOf q other
plans_alike p q plan other same alike follows scope =
    subst (λ (x : Problem). IsPlanOf x other) (sym same) (subst (λ (x : Planned). IsPlanOf p x) (sym alike) (record { strategies = follows; scope = scope }))

pub begins_with : (p : Problem) (m : CpModel) (gap conflicts : ℕ) (logs : Bool) (log : Option Traced) (s : Search) → IsInstance p → p.model ≡ m → p.defs ≡ model_sums m → IfSome log (IsBlankLog p) → is_some log ≡ logs → s ≡ with_log log (fresh p gap (Some conflicts))
    → Begins m gap conflicts logs s
begins_with p m gap conflicts logs log s sound model sums blank asked is = record {
  instance = p;
  first = record { sound = sound; model = model; sums = sums };
  log = log;
  blank = blank;
  asked = asked;
  is = is;
}
