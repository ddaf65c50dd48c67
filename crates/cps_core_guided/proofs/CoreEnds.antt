-- What a core-guided worker's run says of it once it has ended.
use Rattle.std.specs.Prelude.{IfSome, if◌then◌else◌}
use Rattle.std.proofs.Common.{ℕ, ◌≤◌, ℤ, ◌≡◌, ◌∙◌, inl, inr, Bool, true, false, Option, Some, None, List, [], refl, sym, ap, subst, arith}
use Rattle.cps_model.specs.declared.bound.Bound.{Bound}
use Rattle.cps_model.specs.declared.bound.Bound.TheVariants.{At, Infinite}
use Rattle.cps_model.specs.declared.model.CpModel.{CpModel}
use Rattle.cps_literal.specs.declared.atom.Atom.{Atom}
use Rattle.cps_instance.specs.Problem.{Problem}
use Rattle.cps_trail.specs.Trail.{Trail}
use Rattle.cps_trail.proofs.Falls.{bool_cases}
use Rattle.cps_port.specs.declared.part.BoundsPart.{BoundsPart}
use Rattle.cps_port.specs.declared.part.Part.{Part}
use Rattle.cps_port.specs.Incumbents.{IsLowerBound}
use Rattle.cps_port.specs.Order.{BoundLe, greater_of, lesser}
use Rattle.cps_port.proofs.BoundLaws.{BoundLe-refl, greater_is}
use Rattle.cps_search.specs.declared.end.End.{End}
use Rattle.cps_search.specs.declared.end.End.TheVariants as ends
use Rattle.cps_search.specs.declared.end.Phase.{Phase}
use Rattle.cps_search.specs.declared.end.Phase.TheVariants.{Deciding, Stepping, Over}
use Rattle.cps_search.specs.declared.end.WorkerKind.TheVariants.{CoreGuided}
use Rattle.cps_search.specs.Ends.{EndsBy, HasCore, IsHonestEnding, IsWhy, LastSawMet, RaisedToZ, ending}
use Rattle.cps_search.specs.Following.{MovesWith, best_bound}
use Rattle.cps_search.specs.Logged.{Log, IsLogAt}
use Rattle.cps_search.specs.Moves.{fresh}
use Rattle.cps_search.specs.Assumptions.{IsCoreBelow, IsSufficient}
use Rattle.cps_search.specs.Searches.{IsFound, IsSoundSearch, NoneBelow, IsInPhase, Search}
use Rattle.cps_search.proofs.RunEnds.{honest_by}
use Rattle.cps_core_guided.specs.CoreTurns.{BeginsCore, HasCoreAt, HasNoCore, RunsCoreTo, RunsInCoreTurns, core_ending}
use Rattle.cps_core_guided.specs.Reforming.{CoreSearch, IsSoundCore, core_seen, phase_of, whole, whole_core}
use Rattle.cps_core_guided.proofs.CoreRuns.{core-of-frame, core-of-own, core-turns-run, whole-core-below}
use Rattle.cps_core_guided.proofs.CoreTurnCauses.{phase-search}

-- ---- the search as it is seen is sound
found-whole : (s : CoreSearch) (best : Option (List ℤ)) → IfSome best (IsFound s.search) → IfSome best (IsFound (whole s))
found-whole s None h = tt
found-whole s (Some a) h = record { solution = h.solution; reached = h.reached }

raised-whole : (m : CpModel) (a r : Option Bound) → IfSome a (IsLowerBound m) → IfSome r (IsLowerBound m) → IfSome (greater_of a r) (IsLowerBound m)
raised-whole m a None h k = h
raised-whole m None (Some r) h k = k
raised-whole m (Some a) (Some r) h k = greater_is (IsLowerBound m) a r h k

phase-whole : (s : CoreSearch) (x : Phase) → s.ended ≡ false → IsInPhase s.search x → IsInPhase (whole s) x
phase-whole s Stepping off h = tt
phase-whole s Deciding off h = (record { tasks = h.0.tasks; clauses = h.0.clauses; rested = h.0.rested }, h.1)
phase-whole s (Over ends.Exhausted) off h = (h.0, subst (λ (c : List ℤ). IsCoreBelow s.search.instance.model s.search.z c) (sym (core-of-frame s off)) h.1)
phase-whole s (Over ends.SawClosed) off h = tt
phase-whole s (Over (ends.Spent clause below)) off h = h
phase-whole s (Over ends.RoundsDone) off h = tt

exhausted-so : (s : CoreSearch) → s.ended ≡ true → NoneBelow s.search.instance.model s.search.z × (s.core ≡ whole_core s.search.instance.model s.search.z) → IsInPhase (whole s) (Over ends.Exhausted)
exhausted-so s on h = (h.0, subst (λ (c : List ℤ). IsCoreBelow s.search.instance.model s.search.z c) (sym (core-of-own s on ∙ h.1)) (whole-core-below s.search.instance.model s.search.z h.0))

in-phase : (s : CoreSearch) → IsSoundCore s → IsInPhase (whole s) (phase_of s)
in-phase s h = elim (bool_cases s.ended) [
  | inl on ↦ subst (λ (x : Phase). IsInPhase (whole s) x) (sym (ap (λ (b : Bool). if b then Over ends.Exhausted else s.search.phase) on)) (exhausted-so s on (h.ended on))
  | inr off ↦ subst (λ (x : Phase). IsInPhase (whole s) x) (sym (phase-search s off)) (phase-whole s s.search.phase off h.search.phase)
]

pub sound-whole : (s : CoreSearch) → IsSoundCore s → IsSoundSearch (whole s)
sound-whole s h =
    let k = h.search in
    record {
      instance = k.instance;
      incumbent = k.incumbent;
      domains = k.domains;
      tasks = k.tasks;
      first = k.first;
      given = k.given;
      clauses = k.clauses;
      subjects = k.subjects;
      base = k.base;
      quiet = k.quiet;
      rested = k.rested;
      journal = k.journal;
      none_since = k.none_since;
      above = k.above;
      counted = k.counted;
      within_budget = k.within_budget;
      count = k.count;
      best = found-whole s s.search.best k.best;
      raised = raised-whole s.search.instance.model s.search.raised s.raised k.raised h.raised;
      phase = in-phase s h;
      logged = subst (λ (l : Option Log). IfSome l (IsLogAt s.search.instance s.search.z (core_seen s) s.search.base.journal (phase_of s))) (sym h.no_log) tt;
    }

-- ---- it is honest
-- a search that began alike, over the same model, moved alike
moves-begun : (a b t : Search) (p q : Part) → b.z ≡ a.z → b.instance.model ≡ a.instance.model → b.best ≡ a.best → b.raised ≡ a.raised → b.imported ≡ a.imported → MovesWith a t p q → MovesWith b t p q
moves-begun a b t p q z model best raised imported h = record {
  falls = subst (λ (x : Bound). BoundLe t.z x) (sym z) h.falls;
  follows = λ above. h.follows (subst (λ (x : Bound). BoundLe p.bounds.saw_upper x) z above);
  offers = λ before was. h.offers before (was ∙ ap (λ (m : CpModel). lesser before (best_bound m b.best)) model ∙ ap (λ (o : Option (List ℤ)). lesser before (best_bound a.instance.model o)) best);
  raises = λ before was. h.raises before (was ∙ ap (λ (o : Option Bound). greater_of before o) raised);
  imports = λ few. h.imports (omega (arith, few, imported));
}

-- ---- its core
none-infinite : (r : Option Bound) → r ≡ None → r ≡ Some Infinite → ⊥
none-infinite r e h = absurd (cc)

top-only : (b : Bound) → BoundLe Infinite b → b ≡ Infinite
top-only (At v) h = absurd h
top-only Infinite h = refl

core-at : (m : CpModel) (z : Bound) (core : List ℤ) → z ≡ Infinite → IsCoreBelow m z core → IsSufficient m core
core-at m z core top h = subst (λ (x : Bound). IsCoreBelow m x core) top h

-- where something is left, an exhausted worker has none
exhausted-empty : (m : CpModel) (t : Search) (z : Bound) → t.z ≡ z → RaisedToZ t → IsCoreBelow m z t.core → ((t.raised ≡ Some Infinite) → ⊥) → t.core ≡ []
exhausted-empty m t (At v) is h core some = core
exhausted-empty m t Infinite is h core some = absurd (some (h.raised ∙ ap (λ (b : Bound). Some b) (top-only h.raise (subst (λ (x : Bound). BoundLe x h.raise) is h.at_least))))

pub has-core : (m : CpModel) (end : End) (t : Search) (q : BoundsPart) → HasCoreAt end t → t.instance.model ≡ m → EndsBy t q end → HasCore m (ending CoreGuided None end t)
has-core m ends.Exhausted t q at model h =
    let core = subst (λ (k : CpModel). IsCoreBelow k t.z t.core) model h.core in
    record {
      sufficient = λ nothing. core-at m t.z t.core (at.only_there nothing.1).1 core;
      empty = λ some. exhausted-empty m t t.z refl h core (λ inf. some (refl, inf));
      only_there = λ inf. refl;
    }
has-core m ends.SawClosed t q at model h = record { sufficient = λ nothing. absurd (cc nothing.0); empty = λ some. at.none (λ e. absurd (cc e)); only_there = λ inf. (at.only_there inf).0 }
has-core m (ends.Spent clause below) t q at model h = record { sufficient = λ nothing. absurd (cc nothing.0); empty = λ some. at.none (λ e. absurd (cc e)); only_there = λ inf. (at.only_there inf).0 }
has-core m ends.RoundsDone t q at model h = absurd h

some-is : (a b : ℕ) → Some a ≡ Some b → a ≡ b
some-is a b e = cc

within-some : (budget : Option ℕ) (b tally : ℕ) → budget ≡ Some b → IfSome budget (λ n. tally ≤ n) → tally ≤ b
within-some budget b tally e h = subst (λ (o : Option ℕ). IfSome o (λ n. tally ≤ n)) e h

why-of : (t : Search) (gap budget : ℕ) (q : BoundsPart) (end last : End) → t.gap ≡ gap → t.budget ≡ Some budget → EndsBy t q end → IsWhy t.instance gap budget t.z q (ending CoreGuided None last t) end
why-of t gap budget q ends.Exhausted last e b h = (h.raise, h.raised, h.at_least)
why-of t gap budget q ends.SawClosed last e b h = subst (λ (n : ℕ). LastSawMet n q) e h
why-of t gap budget q (ends.Spent clause below) last e b h = (some-is t.tally budget (sym h.budget ∙ b), subst (λ (z : Bound). BoundLe t.z z) (sym h.below_is) (BoundLe-refl t.z), h.honest, tt)
why-of t gap budget q ends.RoundsDone last e b h = absurd h

pub core-honest : {B : Type 0} (chooses : B → Trail → Option Atom → Type 0) (hears : B → List Atom → Bool → B → Type 0) (stays : B → B → Type 0) (p : Problem) (gap budget rows : ℕ) (s t : CoreSearch × B) (part q : Part) (end : End)
    → BeginsCore p gap budget s.0 → (h : RunsInCoreTurns chooses hears stays rows s t part q end) → IsSoundCore h.before.0 → IsSoundCore t.0 → part.bounds.offered ≡ Infinite → part.bounds.raised ≡ None
    → IsHonestEnding p.model gap budget q.bounds (core_ending end t.0)
core-honest chooses hears stays p gap budget rows s t part q end begins h before sound offered raised =
    let runs : RunsCoreTo s.0 t.0 part q end = core-turns-run chooses hears stays rows s t part q end h before in
    let g = t.0.search.instance in
    let new = fresh g gap (Some budget) in
    let was = begins.search in
    let none : HasNoCore s.0 = record {
      frame = λ e. none-infinite s.0.search.raised (ap (λ (x : Search). x.raised) was) e;
      own = λ e. none-infinite s.0.raised begins.raised e;
      core = ap (λ (x : Search). x.core) was;
    } in
    let capped : t.0.search.budget ≡ Some budget = runs.setting.budget ∙ ap (λ (x : Search). x.budget) was in
    let moves : MovesWith new (whole t.0) part q =
    moves-begun (whole s.0) new (whole t.0) part q (sym (ap (λ (x : Search). x.z) was)) runs.setting.model (sym (ap (λ (x : Search). x.best) was))
    (sym (ap (λ (o : Option Bound). greater_of s.0.search.raised o) begins.raised ∙ ap (λ (x : Search). x.raised) was)) (sym (ap (λ (x : Search). x.imported) was)) runs.moves in
    subst (λ (m : CpModel). IsHonestEnding m gap budget q.bounds (core_ending end t.0)) (runs.setting.model ∙ begins.instance)
    (honest_by g gap budget (Some budget) (whole t.0) part q CoreGuided None end refl (has-core g.model end (whole t.0) q.bounds (runs.core none) refl runs.why) moves (sound-whole t.0 sound) offered raised (within-some t.0.search.budget budget t.0.search.tally capped sound.search.within_budget) runs.phase
    (why-of (whole t.0) gap budget q.bounds end end (runs.setting.gap ∙ ap (λ (x : Search). x.gap) was) capped runs.why))
