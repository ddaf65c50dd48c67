-- What a good outcome promises.
use Rattle.std.specs.Prelude.{Option, Some, None, IfSome, All, int_lt, if◌then◌else◌}
use Rattle.std.proofs.Common.{◌≡◌, ℕ, List, [], ◌∷◌, arith, refl, sym, ◌∙◌, ap, subst, Bool, true, false, ℤ}
use Rattle.std.proofs.lemmas.Int.{ints}
use Rattle.std.proofs.lemmas.List.Elements.{All-head, All-tail}
use Rattle.cps_model.specs.declared.model.CpModel.{CpModel}
use Rattle.cps_model.specs.declared.bound.Bound.{Bound}
use Rattle.cps_model.specs.declared.bound.Bound.TheVariants.{At, Infinite}
use Rattle.cps_model.specs.declared.status.Status.{Status}
use Rattle.cps_model.specs.declared.status.Status.TheVariants.{Optimal, Feasible, Infeasible, Unknown}
use Rattle.cps_model.specs.Solutions.{objective_value, IsSolution, IsBest, HasNoSolution}
use Rattle.cps_model.specs.Statuses.{is_closed, status_of, IsAtMost}
use Rattle.cps_model.specs.Validity.{IsValid}
use Rattle.cps_model.proofs.Inside.{model_ready}
use Rattle.cps_search.specs.Ends.{Ending}
use Rattle.cps_search.specs.Following.{best_bound}
use Rattle.cps_print.specs.Demonstrations.{IsReadySolution}
use Rattle.cps_print.specs.Responses.{HasFiniteBound, IsFinite, IsSummable, IsSolved}
use Rattle.cps_options.specs.declared.options.Options.{Options}
use Rattle.cps_crew.specs.declared.outcome.Outcome.{Outcome}
use Rattle.cps_crew.specs.Outcomes.{IsGoodOutcome, DidItsPart, better, best_of}
use Rattle.cps_program.specs.Outcomes.{KeepsPromise}

-- ---- the best of what the workers found is a solution

better_is : (m : CpModel) (o p : Option (List ℤ)) → IfSome o (IsSolution m) → IfSome p (IsSolution m) → IfSome (better m o p) (IsSolution m)
better_is m None p h k = k
better_is m (Some a) None h k = h
better_is m (Some a) (Some b) h k = go (int_lt (objective_value m b) (objective_value m a))
  where
    go : (less : Bool) → IfSome (if less then Some b else Some a) (IsSolution m)
    go true = k
    go false = h

best_is : (m : CpModel) (ends : List Ending) → All (λ (e : Ending). IfSome e.best (IsSolution m)) ends → IfSome (best_of m ends) (IsSolution m)
best_is m [] h = tt
best_is m (e ∷ es) h =
    better_is m e.best (best_of m es) (All-head (λ (x : Ending). IfSome x.best (IsSolution m)) e es h) (best_is m es (All-tail (λ (x : Ending). IfSome x.best (IsSolution m)) e es h))

-- ---- what follows where the bounds meet

-- what is found is not beaten by more than the gap
closed_best : (m : CpModel) (gap : ℕ) (lower : Bound) (a : List ℤ) → is_closed lower (At (objective_value m a)) gap ≡ true → IsSolution m a
    → ((b : List ℤ) → IsSolution m b → IsAtMost lower (objective_value m b)) → IsBest m gap a
closed_best m gap Infinite a closed solution below = absurd (below a solution)
closed_best m gap (At l) a closed solution below =
    record { solution = solution; least = λ b s. let least = below b s in grind (arith, ints) }

-- where nothing is found, there is nothing
closed_none : (m : CpModel) (gap : ℕ) (lower : Bound) → is_closed lower Infinite gap ≡ true → ((b : List ℤ) → IsSolution m b → IsAtMost lower (objective_value m b)) → HasNoSolution m
closed_none m gap Infinite closed below = λ a s. below a s
closed_none m gap (At l) closed below = cc

-- ---- the promises

-- what each status promises, with the upper bound that the solution gives
record Promises (m : CpModel) (gap : ℕ) (options : Options) (status : Status) (solution : Option (List ℤ)) (lower : Bound) (ends : List Ending) : Type 0 where
  optimal : status ≡ Optimal → (a : List ℤ) × (solution ≡ Some a) × IsBest m gap a × IsAtMost lower (objective_value m a) × (is_closed lower (At (objective_value m a)) gap ≡ true)
  infeasible : status ≡ Infeasible → HasNoSolution m
  feasible : status ≡ Feasible → (a : List ℤ) × (solution ≡ Some a) × IsSolution m a × IsAtMost lower (objective_value m a) × All (DidItsPart m options.conflicts (At (objective_value m a))) ends
  unknown : status ≡ Unknown → (solution ≡ None) × All (DidItsPart m options.conflicts Infinite) ends

promises : (m : CpModel) (gap : ℕ) (options : Options) (status : Status) (solution : Option (List ℤ)) (lower : Bound) (ends : List Ending) (closed : Bool)
    → is_closed lower (best_bound m solution) gap ≡ closed → status ≡ status_of (best_bound m solution) lower gap → IfSome solution (IsSolution m)
    → ((b : List ℤ) → IsSolution m b → IsAtMost lower (objective_value m b))
    → (is_closed lower (best_bound m solution) gap ≡ false → All (DidItsPart m options.conflicts (best_bound m solution)) ends) → Promises m gap options status solution lower ends
promises m gap options status None lower ends true met same solution below spent =
    let is : status_of Infinite lower gap ≡ Infeasible = rw met refl in
    record {
      optimal = λ e. absurd cc;
      infeasible = λ e. closed_none m gap lower met below;
      feasible = λ e. absurd cc;
      unknown = λ e. absurd cc;
    }
promises m gap options status None lower ends false met same solution below spent =
    let is : status_of Infinite lower gap ≡ Unknown = rw met refl in
    record {
      optimal = λ e. absurd cc;
      infeasible = λ e. absurd cc;
      feasible = λ e. absurd cc;
      unknown = λ e. (refl, spent met);
    }
promises m gap options status (Some a) lower ends true met same solution below spent =
    let is : status_of (At (objective_value m a)) lower gap ≡ Optimal = rw met refl in
    record {
      optimal = λ e. (a, refl, closed_best m gap lower a met solution below, below a solution, met);
      infeasible = λ e. absurd cc;
      feasible = λ e. absurd cc;
      unknown = λ e. absurd cc;
    }
promises m gap options status (Some a) lower ends false met same solution below spent =
    let is : status_of (At (objective_value m a)) lower gap ≡ Feasible = rw met refl in
    record {
      optimal = λ e. absurd cc;
      infeasible = λ e. absurd cc;
      feasible = λ e. (a, refl, solution, below a solution, spent met);
      unknown = λ e. absurd cc;
    }

promised : (m : CpModel) (options : Options) (o : Outcome) → IsGoodOutcome m options o → Promises m options.gap options o.status o.solution o.lower o.ends
promised m options o good =
    let solution = subst (λ (s : Option (List ℤ)). IfSome s (IsSolution m)) (sym good.solution) (best_is m o.ends good.found) in
    promises m options.gap options o.status o.solution o.lower o.ends (is_closed o.lower (best_bound m o.solution) options.gap) refl
    (good.status ∙ ap (λ (u : Bound). status_of u o.lower options.gap) good.upper) solution good.floor
    (subst (λ (u : Bound). is_closed o.lower u options.gap ≡ false → All (DidItsPart m options.conflicts u) o.ends) good.upper good.spent)

-- a good outcome keeps the promise of its status
pub promise_kept : (m : CpModel) (options : Options) (o : Outcome) → IsGoodOutcome m options o → KeepsPromise m options o
promise_kept m options o good =
    let p = promised m options o good in
    record {
      optimal = λ e. let found = p.optimal e in (found.0, record { this = found.1; best = found.2; below = found.3; near = found.4 });
      infeasible = p.infeasible;
      core = good.sufficient;
      feasible = λ e. let found = p.feasible e in (found.0, record { this = found.1; solution = found.2; below = found.3; parts = found.4 });
      unknown = λ e. let none = p.unknown e in record { nothing = none.0; parts = none.1 };
      decides = good.decides;
    }

-- ---- the objective of what was found can be summed up

summable : (m : CpModel) (o : Outcome) (a : List ℤ) → IsValid m → o.solution ≡ Some a → IsSolution m a → IsSummable m.objective o.solution
summable m o a valid this solution =
    subst (λ (s : Option (List ℤ)). IsSummable m.objective s) (sym this) (model_ready m a valid solution.free.domains).objective

solved_by : (m : CpModel) (options : Options) (o : Outcome) (status : Status) → IsValid m → KeepsPromise m options o → o.status ≡ status → IsSolved m.objective status o.solution
solved_by m options o Optimal valid kept e = let found = kept.optimal e in summable m o found.0 valid found.1.this found.1.best.solution
solved_by m options o Feasible valid kept e = let found = kept.feasible e in summable m o found.0 valid found.1.this found.1.solution
solved_by m options o Infeasible valid kept e = tt
solved_by m options o Unknown valid kept e = tt

pub solved : (m n : CpModel) (options : Options) (o : Outcome) → n ≡ m → IsValid n → IsGoodOutcome m options o → IsSolved n.objective o.status o.solution
solved m n options o same valid good =
    let here = subst (λ (k : CpModel). IsGoodOutcome k options o) (sym same) good in
    solved_by n options o o.status valid (promise_kept n options o here) refl

-- the same, whatever the status
pub ready : (m n : CpModel) (options : Options) (o : Outcome) → n ≡ m → IsValid n → IsGoodOutcome m options o → IsReadySolution n.objective o.solution
ready m n options o same valid good = go o.solution (subst (λ (s : Option (List ℤ)). IfSome s (IsSolution n)) (sym here.solution) (best_is n o.ends here.found))
  where
    here : IsGoodOutcome n options o
    here = subst (λ (k : CpModel). IsGoodOutcome k options o) (sym same) good

    go : (s : Option (List ℤ)) → IfSome s (IsSolution n) → IsReadySolution n.objective s
    go None h = tt
    go (Some a) h = (model_ready n a valid h.free.domains).objective

-- ---- the lower bound can be written

-- a lower bound that is at most a solution's objective
finite_below : (lower : Bound) (v : ℤ) → IsAtMost lower v → IsFinite lower
finite_below (At l) v h = tt
finite_below Infinite v h = h

-- bounds of which the lower one is infinite are closed
unknown_finite : (upper lower : Bound) (gap : ℕ) → status_of upper lower gap ≡ Unknown → IsFinite lower
unknown_finite upper (At l) gap e = tt
unknown_finite (At u) Infinite gap e = absurd cc
unknown_finite Infinite Infinite gap e = absurd cc

pub bounded : (m : CpModel) (options : Options) (o : Outcome) → IsGoodOutcome m options o → HasFiniteBound o.status o.lower
bounded m options o good = go o.status refl
  where
    kept : KeepsPromise m options o
    kept = promise_kept m options o good

    go : (s : Status) → o.status ≡ s → HasFiniteBound s o.lower
    go Optimal same = let k = kept.optimal same in finite_below o.lower (objective_value m k.0) k.1.below
    go Feasible same = let k = kept.feasible same in finite_below o.lower (objective_value m k.0) k.1.below
    go Infeasible same = tt
    go Unknown same = unknown_finite o.upper o.lower options.gap (sym good.status ∙ same)
