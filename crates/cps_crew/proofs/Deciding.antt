-- The first worker decides a model where its budget is enough.
use Rattle.std.specs.Prelude.{IfSome, Option, Some, None, true, false, Bool, if◌then◌else◌, map}
use Rattle.std.proofs.Common.{ℕ, zero, suc, ◌≡◌, ◌∙◌, ◌⊎◌, ◌≤◌, ◌<◌, inl, inr, List, [], ◌∷◌, length, get_or, refl, sym, ap, subst, arith}
use Rattle.std.specs.List.{All, range_with_len}
use Rattle.std.proofs.lemmas.Bool.{cases_Bool}
use Rattle.std.proofs.lemmas.List.Elements.{All-head}
use Rattle.cps_model.specs.declared.bound.Bound.{Bound}
use Rattle.cps_model.specs.declared.bound.Bound.TheVariants.{At, Infinite}
use Rattle.cps_model.specs.declared.model.CpModel.{CpModel}
use Rattle.cps_model.specs.declared.status.Status.TheVariants.{Optimal, Feasible, Infeasible, Unknown}
use Rattle.cps_model.specs.Statuses.{is_closed, status_of}
use Rattle.cps_instance.specs.Problem.{Problem}
use Rattle.cps_branch.specs.declared.guidance.Guidance.{Guidance}
use Rattle.cps_branch.specs.declared.guidance.Guidance.TheVariants.{Steered, Hinted}
use Rattle.cps_branch.specs.Guidances.{Branching, in_order, by_activity, IsInOrder, guidance_of}
use Rattle.cps_branch.specs.Strategies.{Planned}
use Rattle.cps_search.specs.declared.end.End.{End}
use Rattle.cps_search.specs.declared.end.WorkerKind.{WorkerKind}
use Rattle.cps_search.specs.declared.end.WorkerKind.TheVariants as kinds
use Rattle.cps_search.specs.Ends.{Ending}
use Rattle.cps_search.specs.Enough.{enough}
use Rattle.cps_port.specs.Entries.{most_rows}
use Rattle.cps_port.specs.Parts.{newcomer}
use Rattle.cps_search.specs.Guided.{IsGuidedBy, RunsBy}
use Rattle.cps_search.specs.Moves.{fresh, with_log}
use Rattle.cps_search.proofs.AlikeInstances.{enough_alike}
use Rattle.cps_search.proofs.RunsInOrder.{never_spent}
use Rattle.cps_options.specs.declared.options.Options.{Options}
use Rattle.cps_crew.specs.declared.outcome.Outcome.{Outcome}
use Rattle.cps_crew.specs.Workers.{worker_kind, IsFirstInstance}
use Rattle.cps_crew.specs.Deciding.{DecidesWhereEnough}
use Rattle.cps_crew.specs.Outcomes.{DidItsPart, DidItsPartAs, GoesByModel, HasSums, IsEndOfRun, kinds_of}

-- a fixed worker's guidance is a plan
steered : (p : Problem) (g : Option Guidance) → IsGuidedBy kinds.Fixed p g → (plan : Planned) × (g ≡ Some (Steered plan))
steered p None h = absurd h
steered p (Some (Steered plan)) h = (plan, refl)
steered p (Some (Hinted hints)) h = absurd h

-- and so its brancher goes in order
goes_in_order : (b : Branching) (plan : Planned) → guidance_of b ≡ Steered plan → IsInOrder b
goes_in_order (in_order other) plan e = tt
goes_in_order (by_activity b) plan e = absurd (cc e)

-- a fixed worker searched an instance with the sums that the model writes
first_instance : (m : CpModel) (options : Options) (number : ℕ) (e : Ending) → e.kind ≡ kinds.Fixed → HasSums e.kind m e.defs → (goes : GoesByModel m options number e) → IsFirstInstance m goes.instance
first_instance m options number e fixed sums goes =
    record { sound = goes.is_instance; model = goes.model; sums = goes.sums ∙ subst (λ (k : WorkerKind). HasSums k m e.defs) fixed sums }

-- each such instance has the same number
alike : (m : CpModel) (p q : Problem) → IsFirstInstance m p → IsFirstInstance m q → enough q ≡ enough p
alike m p q h k = enough_alike p q h.sound k.sound (k.model ∙ sym h.model) (k.sums ∙ sym h.sums)

-- a fixed worker never spends a budget that is enough for its instance
unspent : (m : CpModel) (options : Options) (number : ℕ) (upper : Bound) (e : Ending) → e.kind ≡ kinds.Fixed → (goes : GoesByModel m options number e) → enough goes.instance ≤ options.conflicts → DidItsPart m options.conflicts upper e → ⊥
unspent m options number upper e fixed goes within did =
    let spent = subst (λ (k : WorkerKind). DidItsPartAs k m options.conflicts upper e) fixed did in
    let plan = steered goes.instance e.guidance (subst (λ (k : WorkerKind). IsGuidedBy k goes.instance e.guidance) fixed goes.guide) in
    let run = subst (λ (g : Option Guidance). IfSome g (λ guidance. IsEndOfRun goes.instance options.gap options.conflicts guidance e)) plan.1 goes.decisions in
    never_spent goes.instance options.gap most_rows (Some options.conflicts) run.log run.first (goes_in_order run.first plan.0 run.guided) (run.done, run.last) newcomer run.after spent.clause spent.below options.conflicts refl within
    (subst (λ (x : End). RunsBy most_rows (with_log run.log (fresh goes.instance options.gap (Some options.conflicts)), run.first) (run.done, run.last) newcomer run.after x) spent.end run.runs)

-- where there is a worker, the first one is fixed
pub first_fixed : (workers : ℕ) (es : List Ending) → map (λ (e : Ending). e.kind) es ≡ kinds_of workers → 1 ≤ workers → (first : Ending) × (rest : List Ending) × (es ≡ first ∷ rest) × (first.kind ≡ kinds.Fixed)
first_fixed zero es e l = absurd (omega (arith, l))
first_fixed (suc n) [] e l = absurd (cc e)
first_fixed (suc n) (x ∷ es) e l = (x, es, refl, (let h : x.kind ∷ map (λ (y : Ending). y.kind) es ≡ kinds.Fixed ∷ map worker_kind (range_with_len 1 n) = e in cc h))

-- where the bounds have met the model is decided
pub decided_by : (upper lower : Bound) (gap : ℕ) → is_closed lower upper gap ≡ true → (status_of upper lower gap ≡ Optimal) ⊎ (status_of upper lower gap ≡ Infeasible)
decided_by (At v) lower gap met = inl (ap (λ (b : Bool). if b then Optimal else Feasible) met)
decided_by Infinite lower gap met = inr (ap (λ (b : Bool). if b then Infeasible else Unknown) met)

pub decides : (m : CpModel) (options : Options) (o : Outcome) → 1 ≤ options.workers → map (λ (e : Ending). e.kind) o.ends ≡ kinds_of options.workers → All (λ (e : Ending). HasSums e.kind m e.defs) o.ends
    → ((i : ℕ) (d : Ending) → i < length o.ends → GoesByModel m options i (get_or o.ends i d)) → o.status ≡ status_of o.upper o.lower options.gap → (is_closed o.lower o.upper options.gap ≡ false → All (DidItsPart m options.conflicts o.upper) o.ends)
    → DecidesWhereEnough m options.conflicts o
decides m options o some workers sums goes status spent =
    let head = first_fixed options.workers o.ends workers some in
    let went = subst (λ (es : List Ending). (i : ℕ) (d : Ending) → i < length es → GoesByModel m options i (get_or es i d)) head.2 goes 0 head.0 (omega arith) in
    let first = first_instance m options 0 head.0 head.3
    (All-head (λ (e : Ending). HasSums e.kind m e.defs) head.0 head.1 (subst (λ (es : List Ending). All (λ (e : Ending). HasSums e.kind m e.defs) es) head.2 sums)) went in
    record {
      number = enough went.instance;
      is_enough = record { instance = went.instance; first = first; alike = λ p other. alike m went.instance p first other };
      decides = λ within. elim (cases_Bool (is_closed o.lower o.upper options.gap)) [
        | inl met ↦ elim (decided_by o.upper o.lower options.gap met) [ inl best ↦ inl (status ∙ best) | inr none ↦ inr (status ∙ none) ]
        | inr apart ↦ absurd (unspent m options 0 o.upper head.0 head.3 went within
            (All-head (DidItsPart m options.conflicts o.upper) head.0 head.1 (subst (λ (es : List Ending). All (DidItsPart m options.conflicts o.upper) es) head.2 (spent apart))))
      ];
    }
