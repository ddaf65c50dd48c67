-- The log of an outcome is that of its one worker.
use Rattle.std.specs.Prelude.{Option, Some, None, IfSome, IsTrue, is_some, Contains, Bool, true, false, if◌then◌else◌, map}
use Rattle.std.proofs.Common.{◌≡◌, ◌↔◌, ◌⊎◌, inl, inr, refl, sym, ap, subst, ◌∙◌, ℕ, ◌<◌, ◌≤◌, ℤ, List, [], ◌∷◌, length, get_or, arith}
use Rattle.std.specs.List.{All}
use Rattle.std.proofs.lemmas.Bool.{cases_Bool}
use Rattle.std.proofs.lemmas.Int.{ints}
use Rattle.std.proofs.lemmas.Option.{IfSome_then}
use Rattle.std.proofs.lemmas.List.Elements.{All-head}
use Rattle.cps_model.specs.declared.bound.Bound.{Bound}
use Rattle.cps_model.specs.declared.bound.Bound.TheVariants.{At, Infinite}
use Rattle.cps_model.specs.declared.model.CpModel.{CpModel}
use Rattle.cps_model.specs.declared.status.Status.TheVariants.{Optimal, Feasible, Infeasible, Unknown}
use Rattle.cps_model.specs.Statuses.{is_closed, status_of}
use Rattle.cps_log.specs.declared.item.LogItem.{LogItem}
use Rattle.cps_log.specs.Deriving.{empty_derivation}
use Rattle.cps_tracer.proofs.Items.{true_items-weaker}
use Rattle.cps_port.specs.declared.part.BoundsPart.{BoundsPart}
use Rattle.cps_port.specs.Order.{BoundLe, IsBelow}
use Rattle.cps_port.proofs.BoundLaws.{BoundLe-trans}
use Rattle.cps_search.specs.declared.end.End.{End}
use Rattle.cps_search.specs.declared.end.End.TheVariants as ends
use Rattle.cps_search.specs.declared.end.WorkerKind.{WorkerKind}
use Rattle.cps_search.specs.declared.end.WorkerKind.TheVariants as kinds
use Rattle.cps_search.specs.Ends.{Ending, HasCore, IsWhy}
use Rattle.cps_search.specs.Logged.{IsClosingEnd}
use Rattle.cps_options.specs.declared.options.Options.{Options}
use Rattle.cps_options.specs.Ranges.{AreInRange}
use Rattle.cps_crew.specs.declared.outcome.Outcome.{Outcome}
use Rattle.cps_crew.specs.Workers.{keeps_log}
use Rattle.cps_crew.specs.Deciding.{IsDecided}
use Rattle.cps_crew.specs.Logs.{IsLogOfOutcome, learnt_by_first, log_of}
use Rattle.cps_crew.specs.Outcomes.{CameTo, DidItsPart, DidItsPartAs, EndedWithin, FirstSpentOnlyIf, GoesByModel, SpentOnlyIf, core_of, kinds_of}
use Rattle.cps_crew.proofs.Deciding.{decided_by, first_fixed}
use Rattle.cps_crew.proofs.Outcomes.{core_by}

-- ---- bounds

below_more : (v : ℤ) (a b : Bound) → IsBelow v a → BoundLe a b → IsBelow v b
below_more v (At a) (At b) h l = grind (arith, ints)
below_more v (At a) Infinite h l = tt
below_more v Infinite (At b) h l = absurd l
below_more v Infinite Infinite h l = tt

top_only : (b : Bound) → BoundLe Infinite b → b ≡ Infinite
top_only (At v) h = absurd h
top_only Infinite h = refl

infeasible_upper : (upper lower : Bound) (gap : ℕ) → status_of upper lower gap ≡ Infeasible → upper ≡ Infinite
infeasible_upper Infinite lower gap e = refl
infeasible_upper (At u) lower gap e = absurd (not_infeasible (is_closed lower (At u) gap) e)
  where
    not_infeasible : (met : Bool) → (if met then Optimal else Feasible) ≡ Infeasible → ⊥
    not_infeasible true e = cc
    not_infeasible false e = cc

-- ---- a model is decided where the bounds have met

met_by : (upper lower : Bound) (gap : ℕ) → (status_of upper lower gap ≡ Optimal) ⊎ (status_of upper lower gap ≡ Infeasible) → is_closed lower upper gap ≡ true
met_by (At v) lower gap h = go (is_closed lower (At v) gap) h
  where
    go : (met : Bool) → ((if met then Optimal else Feasible) ≡ Optimal) ⊎ ((if met then Optimal else Feasible) ≡ Infeasible) → met ≡ true
    go true h = refl
    go false (inl e) = absurd (cc e)
    go false (inr e) = absurd (cc e)
met_by Infinite lower gap h = go (is_closed lower Infinite gap) h
  where
    go : (met : Bool) → ((if met then Infeasible else Unknown) ≡ Optimal) ⊎ ((if met then Infeasible else Unknown) ≡ Infeasible) → met ≡ true
    go true h = refl
    go false (inl e) = absurd (cc e)
    go false (inr e) = absurd (cc e)

-- what spent its budget left something
spent_leaves : (m : CpModel) (conflicts : ℕ) (upper : Bound) (e : Ending) → e.kind ≡ kinds.Fixed → DidItsPart m conflicts upper e → IsClosingEnd e.end → ⊥
spent_leaves m conflicts upper e fixed did closing =
    let spent = subst (λ (k : WorkerKind). DidItsPartAs k m conflicts upper e) fixed did in
    subst IsClosingEnd spent.end closing

-- a fixed worker that ended where the bounds have met left nothing
met_closes : (m : CpModel) (gap conflicts : ℕ) (upper lower : Bound) (e : Ending) → e.kind ≡ kinds.Fixed → EndedWithin m gap conflicts upper lower e → SpentOnlyIf (is_closed lower upper gap ≡ false) e.end → is_closed lower upper gap ≡ true → IsClosingEnd e.end
met_closes m gap conflicts upper lower e fixed within unmet met = go e.end unmet within.ended.why
  where
    go : (end : End) → SpentOnlyIf (is_closed lower upper gap ≡ false) end → IsWhy within.ended.instance gap conflicts within.ended.z within.part e end → IsClosingEnd end
    go ends.Exhausted unmet why = tt
    go ends.SawClosed unmet why = tt
    go (ends.Spent clause below) unmet why = absurd (let q : true ≡ false = sym met ∙ unmet in cc)
    go ends.RoundsDone unmet why = absurd (let q : kinds.Fixed ≡ kinds.Near = sym fixed ∙ why.0 in cc)

-- ---- the log

log_of_one : (m : CpModel) (o : Options) (x : Outcome) (e : Ending) → x.ends ≡ e ∷ [] → e.kind ≡ kinds.Fixed → EndedWithin m o.gap o.conflicts x.upper x.lower e → SpentOnlyIf (is_closed x.lower x.upper o.gap ≡ false) e.end
    → (is_closed x.lower x.upper o.gap ≡ false → DidItsPart m o.conflicts x.upper e) → x.status ≡ status_of x.upper x.lower o.gap → x.core ≡ core_of x.ends → IfSome e.log (IsLogOfOutcome m x)
log_of_one m o x e is fixed within unmet apart status core = IfSome_then e.log within.ended.log (λ items l. record {
  items = true_items-weaker m (λ r. z ≡ Infinite → Contains e.core r) (λ r. x.status ≡ Infeasible → Contains x.core r) (λ v. IsBelow v z) (λ v. IsBelow v x.upper) empty_derivation items rests sought l.items;
  learnt_are = l.learnt_are ∙ sym (ap learnt_by_first is);
  closed = (λ c. decided (l.closed.0 c), λ d. l.closed.1 (closes d));
})
  where
    z : Bound
    z = within.ended.z

    up : BoundLe x.upper z
    up = BoundLe-trans x.upper within.part.saw_upper z within.above within.ended.least

    same_core : x.core ≡ e.core
    same_core = core ∙ ap core_of is ∙ core_by (λ (c : List ℤ). c ≡ e.core) e.end e.raised e.core [] (λ nothing. refl) (λ some. sym (within.ended.core.empty some))

    rests : (r : ℤ) → (z ≡ Infinite → Contains e.core r) → x.status ≡ Infeasible → Contains x.core r
    rests r h infeasible =
        let upper = infeasible_upper x.upper x.lower o.gap (sym status ∙ infeasible) in
        subst (λ (c : List ℤ). Contains c r) (sym same_core) (h (top_only z (subst (λ (b : Bound). BoundLe b z) upper up)))

    sought : (v : ℤ) → IsBelow v x.upper → IsBelow v z
    sought v h = below_more v x.upper z h up

    decided : IsClosingEnd e.end → IsDecided x
    decided closing = elim (cases_Bool (is_closed x.lower x.upper o.gap)) [
      | inl met ↦ elim (decided_by x.upper x.lower o.gap met) [ inl best ↦ inl (status ∙ best) | inr none ↦ inr (status ∙ none) ]
      | inr left ↦ absurd (spent_leaves m o.conflicts x.upper e fixed (apart left) closing)
    ]

    closes : IsDecided x → IsClosingEnd e.end
    closes d = met_closes m o.gap o.conflicts x.upper x.lower e fixed within unmet (met_by x.upper x.lower o.gap (elim d [ inl best ↦ inl (sym status ∙ best) | inr none ↦ inr (sym status ∙ none) ]))

-- the first worker kept a log where one was asked for
pub logged_as_asked : (m : CpModel) (o : Options) (x : Outcome) → 1 ≤ o.workers → CameTo m o x.upper x.lower x.ends → is_some (log_of x.ends) ≡ o.log
logged_as_asked m o x some h =
    let head = first_fixed o.workers x.ends h.kinds some in
    let goes = subst (λ (es : List Ending). (i : ℕ) (d : Ending) → i < length es → GoesByModel m o i (get_or es i d)) head.2 h.goes 0 head.0 (omega arith) in
    ap (λ (es : List Ending). is_some (log_of es)) head.2 ∙ goes.logs ∙ ap (λ (k : WorkerKind). keeps_log k o.log) head.3

-- where there is one worker, it is a fixed one
one_fixed : (workers : ℕ) (es : List Ending) → map (λ (e : Ending). e.kind) es ≡ kinds_of workers → workers ≡ 1 → (e : Ending) × (es ≡ e ∷ []) × (e.kind ≡ kinds.Fixed)
one_fixed workers es are one = go es (are ∙ ap kinds_of one)
  where
    go : (es : List Ending) → map (λ (e : Ending). e.kind) es ≡ kinds_of 1 → (e : Ending) × (es ≡ e ∷ []) × (e.kind ≡ kinds.Fixed)
    go [] h = absurd (cc h)
    go (e ∷ []) h = (e, refl, cc h)
    go (e ∷ f ∷ es) h = absurd (cc h)

-- what the log of an outcome says is so
pub log_is_so : (m : CpModel) (o : Options) (x : Outcome) → AreInRange o → CameTo m o x.upper x.lower x.ends → (is_closed x.lower x.upper o.gap ≡ false → All (DidItsPart m o.conflicts x.upper) x.ends) → x.status ≡ status_of x.upper x.lower o.gap → x.core ≡ core_of x.ends
    → is_some (log_of x.ends) ≡ o.log → IfSome (log_of x.ends) (IsLogOfOutcome m x)
log_is_so m o x range h apart status core logged = go (log_of x.ends) refl
  where
    here : IsTrue o.log → IfSome (log_of x.ends) (IsLogOfOutcome m x)
    here asked =
        let one = one_fixed o.workers x.ends h.kinds (range.log asked).workers in
        let e = one.0 in
        let unmet : FirstSpentOnlyIf (is_closed x.lower x.upper o.gap ≡ false) (e ∷ []) = subst (FirstSpentOnlyIf (is_closed x.lower x.upper o.gap ≡ false)) one.1 (h.open_yet asked) in
        let within = All-head (EndedWithin m o.gap o.conflicts x.upper x.lower) e [] (subst (λ (es : List Ending). All (EndedWithin m o.gap o.conflicts x.upper x.lower) es) one.1 h.each) in
        let part : is_closed x.lower x.upper o.gap ≡ false → DidItsPart m o.conflicts x.upper e = λ left. All-head (DidItsPart m o.conflicts x.upper) e [] (subst (λ (es : List Ending). All (DidItsPart m o.conflicts x.upper) es) one.1 (apart left)) in
        subst (λ (es : List Ending). IfSome (log_of es) (IsLogOfOutcome m x)) (sym one.1) (log_of_one m o x e one.1 one.2 within unmet part status core)

    go : (log : Option (List LogItem)) → log_of x.ends ≡ log → IfSome (log_of x.ends) (IsLogOfOutcome m x)
    go None is = subst (λ (l : Option (List LogItem)). IfSome l (IsLogOfOutcome m x)) (sym is) tt
    go (Some items) is = here (sym logged ∙ ap (λ (l : Option (List LogItem)). is_some l) is)
