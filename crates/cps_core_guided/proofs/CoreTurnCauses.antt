-- What a turn of a core-guided worker does follows from its cause.
use Rattle.std.specs.Prelude.{IsSome, if◌then◌else◌}
use Rattle.std.proofs.Common.{◌≡◌, ◌⊎◌, inl, inr, ℕ, Bool, false, Option, Some, None, refl, sym, ◌∙◌, ap, subst, arith, ℤ, ◌<ℤ◌, ◌≤ℤ◌}
use Rattle.std.proofs.lemmas.Int.{ints}
use Rattle.cps_model.specs.declared.bound.Bound.{Bound}
use Rattle.cps_model.specs.declared.bound.Bound.TheVariants.{At}
use Rattle.cps_literal.specs.declared.atom.Atom.{Atom}
use Rattle.cps_instance.specs.Problem.{Problem}
use Rattle.cps_trail.specs.Trail.{Trail}
use Rattle.cps_trail.proofs.Falls.{bool_cases}
use Rattle.cps_port.specs.declared.part.BoardPart.{BoardPart}
use Rattle.cps_port.specs.declared.part.Part.{Part}
use Rattle.cps_port.specs.Order.{BoundLe}
use Rattle.cps_search.specs.declared.end.End.{End}
use Rattle.cps_search.specs.declared.end.End.TheVariants as ends
use Rattle.cps_search.specs.declared.end.Phase.{Phase}
use Rattle.cps_search.specs.declared.end.Phase.TheVariants.{Over}
use Rattle.cps_search.specs.declared.turn.Turn.{Turn}
use Rattle.cps_search.specs.declared.turn.Turn.TheVariants as turns
use Rattle.cps_search.specs.Ends.{Decides, EndsAs, IsDecidedNext, IsOver, Lowers, TakesTurn, TurnCaused, end_of, fewer_conflicts, lesser_z, fewer_rows, fewer_values}
use Rattle.cps_search.specs.Following.{MovesWith}
use Rattle.cps_search.specs.Moves.{moved, decided}
use Rattle.cps_search.specs.Searches.{Search, IsSoundSearch}
use Rattle.cps_search.specs.Turns.{Caused, SameSetting, Steps}
use Rattle.cps_search.proofs.TurnMoves.{moves_more}
use Rattle.cps_search.proofs.WorkerInvariants.{turn_decided}
use Rattle.cps_reform.specs.Forms.{Form}
use Rattle.cps_reform.specs.Floors.{past_greatest}
use Rattle.cps_core_guided.specs.Reforming.{CoreSearch, phase_of, whole}
use Rattle.cps_core_guided.specs.CoreTurns.{CoreCaused, DecidesFrom, DecidesOf, of_the_model, of_a_term, a_choice, ExhaustsFrom, FailsFrom, GoesOn, LowersCore, ReformsFrom, SameCoreSetting, TakesCoreTurn}
use Rattle.cps_core_guided.specs.CoreTurns.{fewer_conflicts as fewer_core_conflicts, lesser_z as lesser_core_z, higher_base, fewer_rows as fewer_core_rows, fewer_values as fewer_core_values}
use Rattle.cps_core_guided.proofs.Wholes.{moves-raised, moves-whole}

-- a worker that goes on did not end in place of a reform
pub not-ended : (s : CoreSearch) → (IsOver (whole s).phase → ⊥) → s.ended ≡ false
not-ended s h = elim (bool_cases s.ended) [
  | inl on ↦ absurd (h (subst (λ (x : Phase). IsOver x) (sym (ap (λ (b : Bool). if b then Over ends.Exhausted else s.search.phase) on)) tt))
  | inr off ↦ off
]

pub phase-search : (t : CoreSearch) → t.ended ≡ false → phase_of t ≡ t.search.phase
phase-search t off = ap (λ (b : Bool). if b then Over ends.Exhausted else t.search.phase) off

pub setting-core : (a b c : CoreSearch) → SameCoreSetting a b → SameCoreSetting b c → SameCoreSetting a c
setting-core a b c h k = record { model = k.model ∙ h.model; gap = k.gap ∙ h.gap; budget = k.budget ∙ h.budget; refused = k.refused ∙ h.refused; greatest = k.greatest ∙ h.greatest }

pub setting-frame : (s t : CoreSearch) → t ≡ record s { search = t.search } → SameSetting s.search t.search → SameCoreSetting s t
setting-frame s t is h = record { model = ap (λ (p : Problem). p.model) h.instance; gap = h.gap; budget = h.budget; refused = h.refused; greatest = ap (λ (x : CoreSearch). x.greatest) is }

-- a turn of the frame alone is no decision
pub frame-not-decided : (s t : Search) (rows : ℕ) (p q : Part) (turn : Turn) → Caused s t rows p q (Some turn) → turn ≡ turns.Decided → ⊥
frame-not-decided s t rows p q turn h e = subst (λ (x : Turn). Caused s t rows p q (Some x)) e h

core-caused : (chooses : Trail → Option Atom → Type 0) (s t : CoreSearch) (rows : ℕ) (p q : Part) (turn : Turn) → t ≡ record s { search = t.search } → SameSetting s.search t.search → (turn ≡ turns.Decided → ⊥) → TurnCaused chooses s.search t.search rows p q turn → CoreCaused chooses s t rows p q turn
core-caused chooses s t rows p q turns.Imported is setting not h = record { caused = h; setting = setting; same = is }
core-caused chooses s t rows p q turns.Decided is setting not h = absurd (not refl)
core-caused chooses s t rows p q turns.Learnt is setting not h = record { caused = h; setting = setting; same = is }
core-caused chooses s t rows p q turns.Found is setting not h = record { caused = h; setting = setting; same = is }
core-caused chooses s t rows p q turns.Exhausted is setting not h = inl (record { caused = h; setting = setting; same = is })
core-caused chooses s t rows p q turns.SawClosed is setting not h = record { caused = h; setting = setting; same = is }
core-caused chooses s t rows p q (turns.Spent clause below) is setting not h = record { caused = h; setting = setting; same = is }
core-caused chooses s t rows p q turns.RoundsDone is setting not h = absurd h
core-caused chooses s t rows p q (turns.Reformed base) is setting not h = absurd h

ends-core : (end : Option End) (t : CoreSearch) → t.ended ≡ false → EndsAs end t.search → EndsAs end (whole t)
ends-core None t off h = subst (λ (x : Phase). IsOver x → ⊥) (sym (phase-search t off)) h
ends-core (Some end) t off h = phase-search t off ∙ h

lowers-core : (s t : CoreSearch) (rows : ℕ) (p q : BoardPart) → t.form ≡ s.form → Lowers s.search t.search rows p q → LowersCore s t rows p q
lowers-core s t rows p q same (fewer_conflicts budget is left more) = fewer_core_conflicts budget is left more
lowers-core s t rows p q same (lesser_z tally less) = lesser_core_z tally less
lowers-core s t rows p q same (fewer_rows tally falls left more) = fewer_core_rows tally falls (ap (λ (f : Form). f.base) same) left more
lowers-core s t rows p q same (fewer_values tally falls taken less) = fewer_core_values tally falls (ap (λ (f : Form). f.base) same) taken less

-- a turn of the frame alone
pub turn-frame : (chooses : Trail → Option Atom → Type 0) (s t : CoreSearch) (rows : ℕ) (p q : Part) (turn : Turn) → s.ended ≡ false → t ≡ record s { search = t.search } → (turn ≡ turns.Decided → ⊥) → TakesTurn chooses s.search t.search rows p q turn
    → TakesCoreTurn chooses s t rows p q turn
turn-frame chooses s t rows p q turn off is not h = record {
  running = off;
  setting = setting-frame s t is h.setting;
  store = λ own. h.store not;
  cause = core-caused chooses s t rows p q turn is h.setting not h.cause;
  moves = moves-whole s t p q h.moves (ap (λ (x : CoreSearch). x.raised) is);
  ends = ends-core (end_of turn) t (ap (λ (x : CoreSearch). x.ended) is ∙ off) h.ends;
  lowers = λ going. lowers-core s t rows p.board q.board (ap (λ (x : CoreSearch). x.form) is) (h.lowers going);
}

-- a search that differs from another in its frame alone
same-but : (s m t : CoreSearch) (x : Search) → m ≡ record s { search = m.search } → t ≡ record m { search = x } → t ≡ record s { search = t.search }
same-but s m t x ms is = is ∙ ap (λ (c : CoreSearch). record c { search = x }) ms ∙ ap (λ (y : Search). record s { search = y }) (sym (ap (λ (c : CoreSearch). c.search) is))

-- what is decided next
next-of : (chooses : Trail → Option Atom → Type 0) (m : CoreSearch) (t : Atom) → DecidesOf chooses m m.search.store t → IsDecidedNext (λ c a. a ≡ Some t) m.search t
next-of chooses m t (of_the_model none_fails next) = inl next
next-of chooses m t (of_a_term none few none_fails place first is) = inr (none, refl)
next-of chooses m t (a_choice none assumed chosen) = inr (none, refl)

turn-decides : (chooses : Trail → Option Atom → Type 0) (s m t : CoreSearch) (rows : ℕ) (p o q : Part) → s.ended ≡ false → IsSome s.search.budget → IsSoundSearch s.search → Steps s.search m.search rows p o None → m ≡ record s { search = m.search }
    → DecidesFrom chooses m t o q → TakesCoreTurn chooses s t rows p q turns.Decided
turn-decides chooses s m t rows p o q off has sound steps ms d =
    let x = moved m.search (decided m.search.store d.atom) m.search.rested in
    let is = same-but s m t x ms d.is in
    let decides : Decides (λ c a. a ≡ Some d.atom) m.search t.search = record { atom = d.atom; undecided = d.undecided; next = next-of chooses m d.atom d.chosen; is = ap (λ (c : CoreSearch). c.search) d.is } in
    let h = turn_decided (λ c a. a ≡ Some d.atom) s.search m.search t.search rows p o has sound steps decides in
    record {
      running = off;
      setting = setting-frame s t is h.setting;
      store = λ own. absurd (own (inl refl));
      cause = record { midway = m; part = o; due = steps.cause; setting = steps.setting; same = ms; on = d };
      moves = subst (λ (r : Part). MovesWith (whole s) (whole t) p r) (sym d.part) (moves-whole s t p o h.moves (ap (λ (c : CoreSearch). c.raised) is));
      ends = ends-core None t (ap (λ (c : CoreSearch). c.ended) is ∙ off) h.ends;
      lowers = λ going. subst (λ (r : Part). LowersCore s t rows p.board r.board) (sym d.part) (lowers-core s t rows p.board o.board (ap (λ (c : CoreSearch). c.form) is) (h.lowers refl));
    }

at_most_or_over : (v w : ℤ) → (v ≤ℤ w) ⊎ (w <ℤ v)
at_most_or_over v w = grind (arith, ints)

-- the setting before a reform, and after it
failed-setting : (s m t : CoreSearch) (rows : ℕ) (p o : Part) (form : Form) (more : ℕ) → Steps s.search m.search rows p o None → m ≡ record s { search = m.search } → FailsFrom m t form more → SameCoreSetting s t
failed-setting s m t rows p o form more steps ms h = setting-core s m t (setting-frame s m ms steps.setting) h.setting

turn-reforms : (chooses : Trail → Option Atom → Type 0) (s m t : CoreSearch) (rows : ℕ) (p o q : Part) (base : ℤ) → s.ended ≡ false → Steps s.search m.search rows p o None → m ≡ record s { search = m.search } → ReformsFrom m t o q base
    → TakesCoreTurn chooses s t rows p q (turns.Reformed base)
turn-reforms chooses s m t rows p o q base off steps ms h =
    let f = h.fails in
    let moves = moves-raised m t o q (At base) h.raises f.setting.model f.z f.best f.imported f.search_raised in
    let most : t.form.base ≤ℤ t.greatest = elim (at_most_or_over t.form.base t.greatest) [
      | inl le ↦ le
      | inr over ↦ absurd (h.not_past (past_greatest over))
    ] in
    let before : m.form.base ≡ s.form.base = ap (λ (c : CoreSearch). c.form.base) ms in
    record {
      running = off;
      setting = failed-setting s m t rows p o t.form h.more steps ms f;
      store = λ own. absurd (own (inr (inr (base, refl))));
      cause = record { midway = m; part = o; due = steps.cause; setting = steps.setting; same = ms; on = h };
      moves = moves_more (whole s) (whole m) (whole t) p o q (moves-whole s m p o steps.moves (ap (λ (c : CoreSearch). c.raised) ms)) moves;
      ends = subst (λ (x : Phase). IsOver x → ⊥) (sym (phase-search t h.ended ∙ f.phase)) (λ x. x);
      lowers = λ going.
          higher_base (f.learnt.tally ∙ steps.cause.learnt.tally) (subst (λ (b : Bound). BoundLe b s.search.z) (sym f.z) steps.moves.falls)
          (subst (λ (v : ℤ). v <ℤ t.form.base) before (subst (λ (v : ℤ). m.form.base <ℤ v) (sym h.is) h.rises)) most;
    }

going : (end : End) → (Some end ≡ None) → ⊥
going end e = absurd (cc)

turn-exhausts : (chooses : Trail → Option Atom → Type 0) (s m t : CoreSearch) (rows : ℕ) (p o q : Part) → s.ended ≡ false → Steps s.search m.search rows p o None → m ≡ record s { search = m.search } → ExhaustsFrom m t o q → TakesCoreTurn chooses s t rows p q turns.Exhausted
turn-exhausts chooses s m t rows p o q off steps ms h =
    let f = h.fails in
    let moves = moves-raised m t o q t.search.z h.raises f.setting.model f.z f.best f.imported f.search_raised in
    record {
      running = off;
      setting = failed-setting s m t rows p o h.form h.more steps ms f;
      store = λ own. absurd (own (inr (inl refl)));
      cause = inr (record { midway = m; part = o; due = steps.cause; setting = steps.setting; same = ms; on = h });
      moves = moves_more (whole s) (whole m) (whole t) p o q (moves-whole s m p o steps.moves (ap (λ (c : CoreSearch). c.raised) ms)) moves;
      ends = ap (λ (b : Bool). if b then Over ends.Exhausted else t.search.phase) h.ended;
      lowers = λ on. absurd (going ends.Exhausted on);
    }

-- a turn that came to where a decision is due, and went on
pub turn-on : (chooses : Trail → Option Atom → Type 0) (s m t : CoreSearch) (rows : ℕ) (p o q : Part) (turn : Turn) → s.ended ≡ false → IsSome s.search.budget → IsSoundSearch s.search → Steps s.search m.search rows p o None
    → m ≡ record s { search = m.search } → GoesOn chooses m t o q turn → TakesCoreTurn chooses s t rows p q turn
turn-on chooses s m t rows p o q turns.Decided off has sound steps ms h = turn-decides chooses s m t rows p o q off has sound steps ms h
turn-on chooses s m t rows p o q (turns.Reformed base) off has sound steps ms h = turn-reforms chooses s m t rows p o q base off steps ms h
turn-on chooses s m t rows p o q turns.Exhausted off has sound steps ms h = turn-exhausts chooses s m t rows p o q off steps ms h
turn-on chooses s m t rows p o q turns.Imported off has sound steps ms h = absurd h
turn-on chooses s m t rows p o q turns.Learnt off has sound steps ms h = absurd h
turn-on chooses s m t rows p o q turns.Found off has sound steps ms h = absurd h
turn-on chooses s m t rows p o q turns.SawClosed off has sound steps ms h = absurd h
turn-on chooses s m t rows p o q (turns.Spent clause below) off has sound steps ms h = absurd h
turn-on chooses s m t rows p o q turns.RoundsDone off has sound steps ms h = absurd h
