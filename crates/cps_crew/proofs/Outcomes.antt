-- What workers came to, with the bounds that they left, is a good outcome.
use Rattle.std.specs.Prelude.{Option, Some, None, IfSome, is_some, All, int_lt, if◌then◌else◌, Bool, true, false, ℤ}
use Rattle.std.proofs.Common.{◌≡◌, ◌≢◌, ◌≤◌, ℕ, List, [], ◌∷◌, inl, inr, ◌⊎◌, arith, refl, sym, ap, subst, ◌∙◌}
use Rattle.std.proofs.lemmas.Int.{ints}
use Rattle.std.proofs.lemmas.List.Elements.{All-nil, All-cons, All-head, All-push, All-tail, All-weaker}
use Rattle.cps_model.specs.declared.model.CpModel.{CpModel}
use Rattle.cps_model.specs.declared.bound.Bound.{Bound}
use Rattle.cps_model.specs.declared.bound.Bound.TheVariants.{At, Infinite}
use Rattle.cps_model.specs.Solutions.{objective_value, IsSolution}
use Rattle.cps_model.specs.Start.{objective_start}
use Rattle.cps_model.specs.Statuses.{is_closed, status_of, IsAtMost}
use Rattle.cps_port.specs.Order.{BoundLe, IsNoLower, greater, raised_above}
use Rattle.cps_port.specs.Incumbents.{IsLowerBound}
use Rattle.cps_port.proofs.BoundLaws.{BoundLe-refl, BoundLe-trans, greater-first}
use Rattle.cps_clauses.specs.declared.journal.JournalItem.{JournalItem}
use Rattle.cps_clauses.specs.declared.journal.JournalItem.TheVariants.{Learnt, Drop}
use Rattle.cps_search.specs.declared.end.End.{End}
use Rattle.cps_search.specs.declared.end.End.TheVariants as ends
use Rattle.cps_search.specs.declared.end.WorkerKind.{WorkerKind}
use Rattle.cps_search.specs.declared.end.WorkerKind.TheVariants as kinds
use Rattle.cps_model.specs.declared.status.Status.TheVariants.{Feasible, Infeasible, Optimal}
use Rattle.cps_search.specs.Assumptions.{IsSufficient}
use Rattle.cps_search.specs.Searches.{IsItemAbove}
use Rattle.cps_search.specs.Ends.{Ending, HasCore, IsComplete, IsHonestEnding, IsWhy}
use Rattle.cps_search.specs.Following.{best_bound}
use Rattle.cps_search.proofs.Bounds.{greater-second}
use Rattle.cps_crew.proofs.Deciding.{decides}
use Rattle.cps_options.specs.declared.options.Options.{Options}
use Rattle.cps_crew.specs.declared.outcome.Outcome.{Outcome}
use Rattle.cps_crew.specs.Logs.{IsLogOfOutcome, log_of}
use Rattle.cps_crew.specs.Outcomes.{IsGoodOutcome, GoesByModel, HasSums, DidItsPart, DidItsPartAs, SpentItsBudget, EndedWithin, CameTo, better, best_of, core_if, core_of, greatest_raised}

-- ---- bounds that meet

meet : (lower upper : Bound) (gap : ℕ) → BoundLe upper lower → is_closed lower upper gap ≡ true
meet Infinite upper gap h = refl
meet (At l) Infinite gap h = absurd h
meet (At l) (At u) gap h = grind (arith, ints)

better_meet : (l u : Bound) (lower upper : Bound) (gap : ℕ) → BoundLe l lower → BoundLe upper u → is_closed l u gap ≡ true → is_closed lower upper gap ≡ true
better_meet l u Infinite upper gap low high h = refl
better_meet Infinite u (At lower) upper gap low high h = absurd low
better_meet (At l) Infinite (At lower) upper gap low high h = cc
better_meet (At l) (At u) (At lower) Infinite gap low high h = absurd high
better_meet (At l) (At u) (At lower) (At upper) gap low high h = grind (arith, ints)

floor_of : (m : CpModel) (b : Bound) → IsLowerBound m b → (a : List ℤ) → IsSolution m a → IsAtMost b (objective_value m a)
unfolding IsLowerBound
floor_of m b h = h

-- ---- each raise is below the greatest

raised_first : (o : Option Bound) (b r : Bound) → o ≡ Some r → BoundLe r (raised_above o b)
raised_first None b r e = absurd cc
raised_first (Some a) b r e = let q : a ≡ r = cc in subst (λ (x : Bound). BoundLe x (greater a b)) q (greater-first a b)

raised_second : (o : Option Bound) (b : Bound) → BoundLe b (raised_above o b)
raised_second None b = BoundLe-refl b
raised_second (Some a) b = greater-second a b

-- what a worker raised to is at most a bound
abbrev RaisedBelow : Bound → Ending → Type 0
RaisedBelow top e = (r : Bound) → e.raised ≡ Some r → BoundLe r top

raised_in : (start : Bound) (es : List Ending) → All (RaisedBelow (greatest_raised start es)) es
raised_in start [] = All-nil (RaisedBelow start)
raised_in start (e ∷ es) =
    let rest = greatest_raised start es in
    All-cons (RaisedBelow (raised_above e.raised rest)) e es (λ r is. raised_first e.raised rest r is)
    (All-weaker (RaisedBelow rest) (RaisedBelow (raised_above e.raised rest)) (λ x h r is. BoundLe-trans r rest (raised_above e.raised rest) (h r is) (raised_second e.raised rest)) es (raised_in start es))

-- ---- a worker that left the bounds apart spent its budget, or did its rounds

raise_above : (upper z : Bound) (i : JournalItem) → BoundLe upper z → IsItemAbove z i → IsItemAbove upper i
raise_above upper z (Learnt clause below) le h = BoundLe-trans upper z below le h
raise_above upper z (Drop i) le h = tt

-- what spent its budget and is of a complete kind did its part
part_of_complete : (kind : WorkerKind) (m : CpModel) (conflicts : ℕ) (upper : Bound) (e : Ending) → IsComplete kind → SpentItsBudget m conflicts upper e → DidItsPartAs kind m conflicts upper e
part_of_complete kinds.Fixed m conflicts upper e complete h = h
part_of_complete kinds.Activity m conflicts upper e complete h = h
part_of_complete kinds.CoreGuided m conflicts upper e complete h = h
part_of_complete kinds.Near m conflicts upper e complete h = absurd complete

spent_apart : (m : CpModel) (gap conflicts : ℕ) (upper lower : Bound) (e : Ending) → EndedWithin m gap conflicts upper lower e → RaisedBelow lower e → is_closed lower upper gap ≡ false → DidItsPart m conflicts upper e
spent_apart m gap conflicts upper lower e h raised apart = go e.end refl w.why
  where
    w : IsHonestEnding m gap conflicts h.part e
    w = h.ended

    up : BoundLe upper w.z
    up = BoundLe-trans upper h.part.saw_upper w.z h.above w.least

    above : All (IsItemAbove upper) e.journal
    above = All-weaker (IsItemAbove w.z) (IsItemAbove upper) (λ i k. raise_above upper w.z i up k) e.journal w.above

    go : (end : End) → e.end ≡ end → IsWhy w.instance gap conflicts w.z h.part e end → DidItsPart m conflicts upper e
    go ends.Exhausted is why =
        absurd (let met = meet lower upper gap (BoundLe-trans upper why.0 lower (BoundLe-trans upper w.z why.0 up why.2) (raised why.0 why.1)) in cc)
    go ends.SawClosed is why =
        let low : BoundLe why.lower lower = subst (λ (o : Option Bound). IsNoLower o lower) why.saw_lower h.below in
        let high : BoundLe upper why.upper = subst (λ (b : Bound). BoundLe upper b) why.saw_upper h.above in
        absurd (let met = better_meet why.lower why.upper lower upper gap low high why.closed in cc)
    go (ends.Spent clause below) is why = part_of_complete e.kind m conflicts upper e why.3 (record {
      tally = why.0;
      learnt = sym w.counted ∙ why.0;
      clause = clause;
      below = below;
      end = is;
      instance = w.instance;
      is_instance = w.is_instance;
      model = w.model;
      sums = w.defs;
      honest = why.2;
      above = All-push (IsItemAbove upper) e.journal (Learnt clause below) above (BoundLe-trans upper w.z below up why.1);
    })
    go ends.RoundsDone is why = subst (λ (kind : WorkerKind). DidItsPartAs kind m conflicts upper e) (sym why.0) (record {
      end = is;
      learnt = (let most = why.1 in omega (arith, most, w.counted));
      instance = w.instance;
      is_instance = w.is_instance;
      model = w.model;
      sums = w.defs;
      honest = w.journal;
      above = above;
    })

-- ---- the core

-- what holds of a worker's core where it is the one that counts
pub core_by : (P : List ℤ → Type 0) (end : End) (raised : Option Bound) (core other : List ℤ) → ((end ≡ ends.Exhausted) × (raised ≡ Some Infinite) → P core) → (((end ≡ ends.Exhausted) × (raised ≡ Some Infinite) → ⊥) → P other) → P (core_if end raised core other)
core_by P ends.Exhausted (Some Infinite) core other counts passes = counts (refl, refl)
core_by P ends.Exhausted (Some (At v)) core other counts passes = passes (λ h. absurd (let bad : Some (At v) ≡ Some Infinite = h.1 in cc))
core_by P ends.Exhausted None core other counts passes = passes (λ h. absurd (let bad : None ≡ Some Infinite = h.1 in cc))
core_by P ends.SawClosed raised core other counts passes = passes (λ h. absurd (let bad : ends.SawClosed ≡ ends.Exhausted = h.0 in cc))
core_by P (ends.Spent clause below) raised core other counts passes = passes (λ h. absurd (let bad : ends.Spent clause below ≡ ends.Exhausted = h.0 in cc))
core_by P ends.RoundsDone raised core other counts passes = passes (λ h. absurd (let bad : ends.RoundsDone ≡ ends.Exhausted = h.0 in cc))

infinite_or_less : (raised : Option Bound) (rest : Bound) → raised_above raised rest ≡ Infinite → (raised ≡ Some Infinite) ⊎ (rest ≡ Infinite)
infinite_or_less None rest e = inr e
infinite_or_less (Some Infinite) rest e = inl refl
infinite_or_less (Some (At v)) Infinite e = inr refl
infinite_or_less (Some (At v)) (At w) e = absurd (greater_finite v w e)
  where
    greater_finite : (v w : ℤ) → raised_above (Some (At v)) (At w) ≡ Infinite → ⊥
    greater_finite v w e = cc

-- where a worker raised the lower bound to `Infinite`, the core that counts is sufficient
core_sufficient : (m : CpModel) (start : ℤ) (es : List Ending) → All (HasCore m) es → greatest_raised (At start) es ≡ Infinite → IsSufficient m (core_of es)
core_sufficient m start [] h e = absurd (let bad : At start ≡ Infinite = e in cc)
core_sufficient m start (e ∷ es) h top =
    let here = All-head (HasCore m) e es h in
    let rest = All-tail (HasCore m) e es h in
    core_by (IsSufficient m) e.end e.raised e.core (core_of es) (λ nothing. here.sufficient nothing) (λ some. elim (infinite_or_less e.raised (greatest_raised (At start) es) top) [
      | inl this ↦ absurd (some (here.only_there this, this))
      | inr later ↦ core_sufficient m start es rest later
    ])

infeasible_top : (upper lower : Bound) (gap : ℕ) → status_of upper lower gap ≡ Infeasible → lower ≡ Infinite
infeasible_top Infinite Infinite gap e = refl
infeasible_top Infinite (At v) gap e = absurd (let bad : status_of Infinite (At v) gap ≡ Infeasible = e in cc)
infeasible_top (At u) lower gap e = absurd (not_infeasible (is_closed lower (At u) gap) e)
  where
    not_infeasible : (met : Bool) → (if met then Optimal else Feasible) ≡ Infeasible → ⊥
    not_infeasible true e = cc
    not_infeasible false e = cc

-- ---- the outcome

pub all_found : (m : CpModel) (options : Options) (upper lower : Bound) (es : List Ending) → CameTo m options upper lower es → All (λ (e : Ending). IfSome e.best (IsSolution m)) es
all_found m options upper lower es h = All-weaker (EndedWithin m options.gap options.conflicts upper lower) (λ (e : Ending). IfSome e.best (IsSolution m)) (λ e k. k.ended.best) es h.each

pub apart_parts : (m : CpModel) (options : Options) (o : Outcome) → CameTo m options o.upper o.lower o.ends → is_closed o.lower o.upper options.gap ≡ false → All (DidItsPart m options.conflicts o.upper) o.ends
apart_parts m options o h apart i d l =
    let raised = subst (λ (b : Bound). All (RaisedBelow b) o.ends) (sym h.lower_is) (raised_in (At (objective_start m)) o.ends) in
    spent_apart m options.gap options.conflicts o.upper o.lower _ (h.each i d l) (raised i d l) apart

pub good_outcome : (m : CpModel) (options : Options) (o : Outcome) → CameTo m options o.upper o.lower o.ends → o.status ≡ status_of o.upper o.lower options.gap → o.solution ≡ best_of m o.ends → o.core ≡ core_of o.ends
    → 1 ≤ options.workers → is_some (log_of o.ends) ≡ options.log → IfSome (log_of o.ends) (IsLogOfOutcome m o) → IsGoodOutcome m options o
good_outcome m options o h status solution core some logged log = record {
  workers = h.kinds;
  sums = All-weaker (EndedWithin m options.gap options.conflicts o.upper o.lower) (λ (e : Ending). HasSums e.kind m e.defs) (λ e k. k.sums) o.ends h.each;
  branchers = h.goes;
  status = status;
  found = all_found m options o.upper o.lower o.ends h;
  solution = solution;
  upper = h.upper_is ∙ ap (best_bound m) (sym solution);
  lower = h.lower_is;
  floor = floor_of m o.lower h.floor;
  core = core;
  sufficient = λ infeasible. subst (IsSufficient m) (sym core)
      (core_sufficient m (objective_start m) o.ends (All-weaker (EndedWithin m options.gap options.conflicts o.upper o.lower) (HasCore m) (λ e k. k.ended.core) o.ends h.each)
      (sym h.lower_is ∙ infeasible_top o.upper o.lower options.gap (sym status ∙ infeasible)));
  spent = apart_parts m options o h;
  decides = decides m options o some h.kinds
      (All-weaker (EndedWithin m options.gap options.conflicts o.upper o.lower) (λ (e : Ending). HasSums e.kind m e.defs) (λ e k. k.sums) o.ends h.each)
      h.goes status (apart_parts m options o h);
  logged = logged;
  log = log;
}

-- ---- the first of the best solutions

best_same : (m : CpModel) (b : Option (List ℤ)) → better m None b ≡ b
best_same m b = refl

-- a solution whose objective is the best one's is the first of the best
pub better_here : (m : CpModel) (a : List ℤ) (o : Option (List ℤ)) → At (objective_value m a) ≡ best_bound m (better m (Some a) o) → better m (Some a) o ≡ Some a
better_here m a None e = refl
better_here m a (Some b) e = go (int_lt (objective_value m b) (objective_value m a)) refl e
  where
    go : (t : Bool) → int_lt (objective_value m b) (objective_value m a) ≡ t → At (objective_value m a) ≡ best_bound m (if t then Some b else Some a) → (if t then Some b else Some a) ≡ Some a
    go true less same = absurd (let q : objective_value m a ≡ objective_value m b = cc in grind (arith, ints))
    go false less same = refl

-- and one whose objective is another is not
pub better_there : (m : CpModel) (a : List ℤ) (o : Option (List ℤ)) → At (objective_value m a) ≢ best_bound m (better m (Some a) o) → better m (Some a) o ≡ o
better_there m a None e = absurd (e refl)
better_there m a (Some b) e = go (int_lt (objective_value m b) (objective_value m a)) e
  where
    go : (t : Bool) → At (objective_value m a) ≢ best_bound m (if t then Some b else Some a) → (if t then Some b else Some a) ≡ Some b
    go true same = refl
    go false same = absurd (same refl)
