-- What the turns of a core-guided worker come to.
use Rattle.std.specs.Prelude.{if◌then◌else◌}
use Rattle.std.proofs.Common.{ℕ, ℤ, ◌≡◌, ◌∙◌, ◌⊎◌, inl, inr, Bool, true, false, List, Option, Some, None, refl, sym, ap, subst}
use Rattle.cps_model.specs.declared.bound.Bound.{Bound}
use Rattle.cps_model.specs.declared.bound.Bound.TheVariants.{At, Infinite}
use Rattle.cps_model.specs.declared.model.CpModel.{CpModel}
use Rattle.cps_literal.specs.declared.atom.Atom.{Atom}
use Rattle.cps_trail.specs.Trail.{Trail}
use Rattle.cps_port.specs.declared.part.Part.{Part}
use Rattle.cps_port.specs.Order.{BoundLe, greater, greater_of, raised_to}
use Rattle.cps_port.proofs.BoundLaws.{BoundLe-refl, BoundLe-trans, greater-first}
use Rattle.cps_search.specs.declared.end.End.{End}
use Rattle.cps_search.specs.declared.end.End.TheVariants as ends
use Rattle.cps_search.specs.declared.turn.Turn.{Turn}
use Rattle.cps_search.specs.declared.turn.Turn.TheVariants as turns
use Rattle.cps_search.specs.Ends.{BrancherTurn, DecidedBy, EndsAs, EndsBy, HeardOne, RaisedToZ, SpentWhole, end_of}
use Rattle.cps_search.specs.Following.{MovesWith}
use Rattle.cps_search.specs.Assumptions.{IsCoreBelow}
use Rattle.cps_search.specs.Searches.{NoneBelow, Search}
use Rattle.cps_search.proofs.Bounds.{greater-second}
use Rattle.cps_search.proofs.Cores.{core_all}
use Rattle.cps_search.proofs.TurnMoves.{ends_by, moves_more, moves_same}
use Rattle.cps_core_guided.specs.CoreTurns.{CoreCaused, HasCoreAt, HasNoCore, OneCoreTurn, RunsCoreTo, RunsInCoreTurns, SameCoreSetting, TakesCoreTurn, TakesCoreTurns, no_turn, one_turn_more}
use Rattle.cps_core_guided.specs.Reforming.{CoreSearch, IsSoundCore, core_seen, whole, whole_core}
use Rattle.cps_core_guided.proofs.CoreTurnCauses.{setting-core}

-- ---- the greater of two raises is at least each of them
most-first : (b : Bound) (r : Option Bound) (z : Bound) → BoundLe z b → (c : Bound) × (greater_of (Some b) r ≡ Some c) × BoundLe z c
most-first b None z h = (b, refl, h)
most-first b (Some r) z h = (greater b r, refl, BoundLe-trans z b (greater b r) h (greater-first b r))

most-second : (a : Option Bound) (b z : Bound) → BoundLe z b → (c : Bound) × (greater_of a (Some b) ≡ Some c) × BoundLe z c
most-second None b z h = (b, refl, h)
most-second (Some a) b z h = (greater a b, refl, BoundLe-trans z b (greater a b) h (greater-second a b))

raised-most : (raised : Option Bound) (z : Bound) → (b : Bound) × (raised_to raised z ≡ Some b) × BoundLe z b
raised-most None z = (z, refl, BoundLe-refl z)
raised-most (Some a) z = (greater a z, refl, greater-second a z)

-- the core of a worker is its frame's, or its own
pub core-of-frame : (t : CoreSearch) → t.ended ≡ false → core_seen t ≡ t.search.core
core-of-frame t off = ap (λ (b : Bool). if b then t.core else t.search.core) off

pub core-of-own : (t : CoreSearch) → t.ended ≡ true → core_seen t ≡ t.core
core-of-own t on = ap (λ (b : Bool). if b then t.core else t.search.core) on

-- all assumptions are enough where no solution is below z
pub whole-core-below : (m : CpModel) (z : Bound) → NoneBelow m z → IsCoreBelow m z (whole_core m z)
whole-core-below m (At v) none = refl
whole-core-below m Infinite none = core_all m none

-- what the frame raised to z, the worker did
frame-raised : (t : CoreSearch) → t.ended ≡ false → RaisedToZ t.search → RaisedToZ (whole t)
frame-raised t off h =
    let most = most-first h.raise t.raised t.search.z h.at_least in
    record {
      none_below = h.none_below;
      raise = most.0;
      raised = ap (λ (o : Option Bound). greater_of o t.raised) h.raised ∙ most.1;
      at_least = most.2;
      core = subst (λ (c : List ℤ). IsCoreBelow t.search.instance.model t.search.z c) (sym (core-of-frame t off)) h.core;
    }

own-raised : (m t : CoreSearch) → NoneBelow t.search.instance.model t.search.z → t.raised ≡ raised_to m.raised t.search.z → t.ended ≡ true → t.core ≡ whole_core t.search.instance.model t.search.z → RaisedToZ (whole t)
own-raised m t none raised on core =
    let own = raised-most m.raised t.search.z in
    let most = most-second t.search.raised own.0 t.search.z own.2 in
    record {
      none_below = none;
      raise = most.0;
      raised = ap (λ (o : Option Bound). greater_of t.search.raised o) (raised ∙ own.1) ∙ most.1;
      at_least = most.2;
      core = subst (λ (c : List ℤ). IsCoreBelow t.search.instance.model t.search.z c) (sym (core-of-own t on ∙ core)) (whole-core-below t.search.instance.model t.search.z none);
    }

-- ---- why a worker's last turn ended its run
ends-exhausted : (chooses : Trail → Option Atom → Type 0) (s t : CoreSearch) (rows : ℕ) (p q : Part) → s.ended ≡ false → IsSoundCore s → CoreCaused chooses s t rows p q turns.Exhausted → EndsBy (whole t) q.bounds ends.Exhausted
ends-exhausted chooses s t rows p q off sound h = elim h [
  | inl frame ↦ frame-raised t (ap (λ (c : CoreSearch). c.ended) frame.same ∙ off) (ends_by (λ x o. ⊥) s.search t.search rows p q turns.Exhausted ends.Exhausted sound.search frame.setting frame.caused refl)
  | inr due ↦ own-raised due.midway t (subst (λ (m : CpModel). NoneBelow m t.search.z) (sym due.on.fails.setting.model) due.on.none_below) due.on.raises.raised due.on.ended (due.on.core ∙ ap (λ (m : CpModel). whole_core m t.search.z) (sym due.on.fails.setting.model))
]

spent-whole : (t : CoreSearch) (clause : List Atom) (below : Bound) → SpentWhole t.search clause below → SpentWhole (whole t) clause below
spent-whole t clause below h = record { budget = h.budget; below_is = h.below_is; honest = h.honest }

end-is : (a b : End) → Some a ≡ Some b → a ≡ b
end-is a b e = cc

ends-core-by : (chooses : Trail → Option Atom → Type 0) (s t : CoreSearch) (rows : ℕ) (p q : Part) (turn : Turn) (end : End) → s.ended ≡ false → IsSoundCore s → CoreCaused chooses s t rows p q turn → end_of turn ≡ Some end → EndsBy (whole t) q.bounds end
ends-core-by chooses s t rows p q turns.Imported end off sound h e = absurd (cc e)
ends-core-by chooses s t rows p q turns.Decided end off sound h e = absurd (cc e)
ends-core-by chooses s t rows p q turns.Learnt end off sound h e = absurd (cc e)
ends-core-by chooses s t rows p q turns.Found end off sound h e = absurd (cc e)
ends-core-by chooses s t rows p q turns.Exhausted end off sound h e = subst (λ (x : End). EndsBy (whole t) q.bounds x) (end-is ends.Exhausted end e) (ends-exhausted chooses s t rows p q off sound h)
ends-core-by chooses s t rows p q turns.SawClosed end off sound h e =
    subst (λ (x : End). EndsBy (whole t) q.bounds x) (end-is ends.SawClosed end e) (ends_by (λ x o. ⊥) s.search t.search rows p q turns.SawClosed ends.SawClosed sound.search h.setting h.caused refl)
ends-core-by chooses s t rows p q (turns.Spent clause below) end off sound h e =
    subst (λ (x : End). EndsBy (whole t) q.bounds x) (end-is (ends.Spent clause below) end e)
    (spent-whole t clause below (ends_by (λ x o. ⊥) s.search t.search rows p q (turns.Spent clause below) (ends.Spent clause below) sound.search h.setting h.caused refl))
ends-core-by chooses s t rows p q turns.RoundsDone end off sound h e = absurd h
ends-core-by chooses s t rows p q (turns.Reformed base) end off sound h e = absurd (cc e)

-- ---- where it has a core
greater-infinite : (a b : Bound) → greater a b ≡ Infinite → (a ≡ Infinite) ⊎ (b ≡ Infinite)
greater-infinite (At x) (At y) e = absurd (cc e)
greater-infinite (At x) Infinite e = inr refl
greater-infinite Infinite b e = inl refl

some-bound : (a b : Bound) → Some a ≡ Some b → a ≡ b
some-bound a b e = cc

seen-infinite : (a r : Option Bound) → greater_of a r ≡ Some Infinite → (a ≡ Some Infinite) ⊎ (r ≡ Some Infinite)
seen-infinite a None e = inl e
seen-infinite None (Some b) e = inr e
seen-infinite (Some a) (Some b) e = elim (greater-infinite a b (some-bound (greater a b) Infinite e)) [ inl first ↦ inl (ap Some first) | inr second ↦ inr (ap Some second) ]

raised-infinite : (a : Option Bound) (b : Bound) → raised_to a b ≡ Some Infinite → (a ≡ Some Infinite) ⊎ (b ≡ Infinite)
raised-infinite None b e = inr (some-bound b Infinite e)
raised-infinite (Some a) b e = elim (greater-infinite a b (some-bound (greater a b) Infinite e)) [ inl first ↦ inl (ap Some first) | inr second ↦ inr second ]

-- a search that raised as much, and has the same core
no-core-same : (t u : CoreSearch) → u.search.raised ≡ t.search.raised → u.raised ≡ t.raised → u.search.core ≡ t.search.core → HasNoCore t → HasNoCore u
no-core-same t u frame own core none = record { frame = λ e. none.frame (sym frame ∙ e); own = λ e. none.own (sym own ∙ e); core = core ∙ none.core }

at-not : (v : ℤ) → At v ≡ Infinite → ⊥
at-not v e = absurd (cc e)

-- as long as it goes on it has none
no-core-on : (chooses : Trail → Option Atom → Type 0) (t u : CoreSearch) (rows : ℕ) (p q : Part) (turn : Turn) → end_of turn ≡ None → CoreCaused chooses t u rows p q turn → HasNoCore t → HasNoCore u
no-core-on chooses t u rows p q turns.Imported e h none = no-core-same t u h.caused.raised (ap (λ (c : CoreSearch). c.raised) h.same) h.caused.core none
no-core-on chooses t u rows p q turns.Decided e h none =
    let search = ap (λ (c : CoreSearch). c.search) h.on.is in
    no-core-same t u (ap (λ (x : Search). x.raised) search ∙ h.due.raised) (ap (λ (c : CoreSearch). c.raised) h.on.is ∙ ap (λ (c : CoreSearch). c.raised) h.same) (ap (λ (x : Search). x.core) search ∙ h.due.core) none
no-core-on chooses t u rows p q turns.Learnt e h none = no-core-same t u h.caused.raised (ap (λ (c : CoreSearch). c.raised) h.same) h.caused.core none
no-core-on chooses t u rows p q turns.Found e h none = no-core-same t u h.caused.raised (ap (λ (c : CoreSearch). c.raised) h.same) h.caused.core none
no-core-on chooses t u rows p q turns.Exhausted e h none = absurd (cc e)
no-core-on chooses t u rows p q turns.SawClosed e h none = absurd (cc e)
no-core-on chooses t u rows p q (turns.Spent clause below) e h none = absurd (cc e)
no-core-on chooses t u rows p q turns.RoundsDone e h none = absurd h
no-core-on chooses t u rows p q (turns.Reformed base) e h none = record {
  frame = λ inf. none.frame (sym (h.on.fails.search_raised ∙ h.due.raised) ∙ inf);
  own = λ inf. elim (raised-infinite h.midway.raised (At base) (sym h.on.raises.raised ∙ inf)) [
    | inl was ↦ none.own (sym (ap (λ (c : CoreSearch). c.raised) h.same) ∙ was)
    | inr bad ↦ at-not base bad
  ];
  core = h.on.fails.search_core ∙ h.due.core ∙ none.core;
}

-- and where it ends it has one only where it is exhausted
none-at : (end : End) (u : CoreSearch) → (end ≡ ends.Exhausted → ⊥) → u.ended ≡ false → HasNoCore u → HasCoreAt end (whole u)
none-at end u other off none = record {
  only_there = λ inf. absurd (elim (seen-infinite u.search.raised u.raised inf) [ inl frame ↦ none.frame frame | inr own ↦ none.own own ]);
  none = λ _. core-of-frame u off ∙ none.core;
}

exhausted-at : (t u : CoreSearch) (raises : ((u.search.raised ≡ raised_to t.search.raised u.search.z) × (u.raised ≡ t.raised)) ⊎ ((u.search.raised ≡ t.search.raised) × (u.raised ≡ raised_to t.raised u.search.z))) → HasNoCore t → HasCoreAt ends.Exhausted (whole u)
exhausted-at t u raises none = record {
  only_there = λ inf. (
    refl,
    elim (seen-infinite u.search.raised u.raised inf) [
      | inl frame ↦ elim raises [
        | inl by_frame ↦ elim (raised-infinite t.search.raised u.search.z (sym by_frame.0 ∙ frame)) [ inl was ↦ absurd (none.frame was) | inr z ↦ z ]
        | inr by_own ↦ absurd (none.frame (sym by_own.0 ∙ frame))
      ]
      | inr own ↦ elim raises [
        | inl by_frame ↦ absurd (none.own (sym by_frame.1 ∙ own))
        | inr by_own ↦ elim (raised-infinite t.raised u.search.z (sym by_own.1 ∙ own)) [ inl was ↦ absurd (none.own was) | inr z ↦ z ]
      ]
    ],
  );
  none = λ other. absurd (other refl);
}

has-core-at : (chooses : Trail → Option Atom → Type 0) (t u : CoreSearch) (rows : ℕ) (p q : Part) (turn : Turn) (end : End) → t.ended ≡ false → end_of turn ≡ Some end → CoreCaused chooses t u rows p q turn → HasNoCore t → HasCoreAt end (whole u)
has-core-at chooses t u rows p q turns.Imported end off e h none = absurd (cc e)
has-core-at chooses t u rows p q turns.Decided end off e h none = absurd (cc e)
has-core-at chooses t u rows p q turns.Learnt end off e h none = absurd (cc e)
has-core-at chooses t u rows p q turns.Found end off e h none = absurd (cc e)
has-core-at chooses t u rows p q turns.Exhausted end off e h none = subst (λ (x : End). HasCoreAt x (whole u)) (end-is ends.Exhausted end e) (exhausted-at t u (elim h [
  | inl frame ↦ inl (frame.caused.raised, ap (λ (c : CoreSearch). c.raised) frame.same)
  | inr due ↦ inr (due.on.fails.search_raised ∙ due.due.raised, due.on.raises.raised ∙ ap (λ (o : Option Bound). raised_to o u.search.z) (ap (λ (c : CoreSearch). c.raised) due.same))
]) none)
has-core-at chooses t u rows p q turns.SawClosed end off e h none =
    let search = h.caused.same in
    subst (λ (x : End). HasCoreAt x (whole u)) (end-is ends.SawClosed end e) (none-at ends.SawClosed u (λ x. absurd (cc x)) (ap (λ (c : CoreSearch). c.ended) h.same ∙ off)
    (no-core-same t u (ap (λ (x : Search). x.raised) search) (ap (λ (c : CoreSearch). c.raised) h.same) (ap (λ (x : Search). x.core) search) none))
has-core-at chooses t u rows p q (turns.Spent clause below) end off e h none =
    subst (λ (x : End). HasCoreAt x (whole u)) (end-is (ends.Spent clause below) end e) (none-at (ends.Spent clause below) u (λ x. absurd (cc x)) (ap (λ (c : CoreSearch). c.ended) h.same ∙ off)
    (no-core-same t u h.caused.raised (ap (λ (c : CoreSearch). c.raised) h.same) h.caused.core none))
has-core-at chooses t u rows p q turns.RoundsDone end off e h none = absurd h
has-core-at chooses t u rows p q (turns.Reformed base) end off e h none = absurd (cc e)

-- ---- turns one after another
-- what a run has done so far
pub record HasCoreRun (s t : CoreSearch) (p q : Part) : Type 0 where
  pub setting : SameCoreSetting s t
  pub moves : MovesWith (whole s) (whole t) p q
  pub core : HasNoCore s → HasNoCore t

pub core-begins : (s : CoreSearch) (p : Part) → HasCoreRun s s p p
core-begins s p = record { setting = record { model = refl; gap = refl; budget = refl; refused = refl; greatest = refl }; moves = moves_same (whole s) p; core = λ none. none }

pub core-goes-on : (chooses : Trail → Option Atom → Type 0) (s t u : CoreSearch) (rows : ℕ) (p m q : Part) (turn : Turn) → HasCoreRun s t p m → TakesCoreTurn chooses t u rows m q turn → end_of turn ≡ None → HasCoreRun s u p q
core-goes-on chooses s t u rows p m q turn h k e = record { setting = setting-core s t u h.setting k.setting; moves = moves_more (whole s) (whole t) (whole u) p m q h.moves k.moves; core = λ none. no-core-on chooses t u rows m q turn e k.cause (h.core none) }

-- and its end
pub core-ends : (chooses : Trail → Option Atom → Type 0) (s t u : CoreSearch) (rows : ℕ) (p m q : Part) (turn : Turn) (end : End) → IsSoundCore t → HasCoreRun s t p m → TakesCoreTurn chooses t u rows m q turn → end_of turn ≡ Some end → RunsCoreTo s u p q end
core-ends chooses s t u rows p m q turn end sound h k e = record {
  setting = setting-core s t u h.setting k.setting;
  moves = moves_more (whole s) (whole t) (whole u) p m q h.moves k.moves;
  phase = subst (λ (o : Option End). EndsAs o (whole u)) e k.ends;
  why = ends-core-by chooses t u rows m q turn end k.running sound k.cause e;
  core = λ none. has-core-at chooses t u rows m q turn end k.running e k.cause (h.core none);
}

-- a turn on a board that has as many rows as at first
pub one-core-turn : {B : Type 0} (chooses : B → Trail → Option Atom → Type 0) (hears : B → List Atom → Bool → B → Type 0) (stays : B → B → Type 0) (rows now : ℕ) (s t : CoreSearch × B) (p q : Part) (turn : Turn) → now ≡ rows → IsSoundCore s.0 × IsSoundCore t.0 → TakesCoreTurn (chooses s.1) s.0 t.0 now p q turn
    → BrancherTurn turn (HeardOne (λ clause restart. hears s.1 clause restart t.1) s.0.search t.0.search) (DecidedBy (stays s.1 t.1) (t.1 ≡ s.1)) (t.1 ≡ s.1) → OneCoreTurn chooses hears stays rows s t p q turn
one-core-turn chooses hears stays rows now s t p q turn same sound h brancher = record {
  before = sound.0;
  after = sound.1;
  search = subst (λ (n : ℕ). TakesCoreTurn (chooses s.1) s.0 t.0 n p q turn) same h;
  brancher = brancher;
}

has-core-run : {B : Type 0} (chooses : B → Trail → Option Atom → Type 0) (hears : B → List Atom → Bool → B → Type 0) (stays : B → B → Type 0) (rows : ℕ) (s : CoreSearch × B) (p : Part) (t : CoreSearch × B) (q : Part)
    → TakesCoreTurns chooses hears stays rows s p t q → HasCoreRun s.0 t.0 p q
has-core-run chooses hears stays rows s p t q no_turn = core-begins s.0 p
has-core-run chooses hears stays rows s p t q (one_turn_more m u n r turn before going one) =
    core-goes-on (chooses m.1) s.0 m.0 u.0 rows p n r turn (has-core-run chooses hears stays rows s p m n before) one.search going

pub core-turns-run : {B : Type 0} (chooses : B → Trail → Option Atom → Type 0) (hears : B → List Atom → Bool → B → Type 0) (stays : B → B → Type 0) (rows : ℕ) (s t : CoreSearch × B) (p q : Part) (end : End)
    → (h : RunsInCoreTurns chooses hears stays rows s t p q end) → IsSoundCore h.before.0 → RunsCoreTo s.0 t.0 p q end
core-turns-run chooses hears stays rows s t p q end h sound =
    core-ends (chooses h.before.1) s.0 h.before.0 t.0 rows p h.part q h.turn end sound (has-core-run chooses hears stays rows s p h.before h.part h.turns) h.last.search h.ended
