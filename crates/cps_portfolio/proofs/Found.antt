-- What a worker has found.
use denote.Ref.{Bor}
use Rattle.std.specs.Prelude.{Bool, Option, Some, None, IfSome, IsNone, OnOk, ℤ}
use Rattle.std.proofs.Common.{◌≡◌, ◌∙◌, ◌⊎◌, ℕ, List, Result, Ok, Err, ap, refl, subst, inl, inr}
use Rattle.cps_model.specs.declared.model.CpModel.{CpModel}
use Rattle.cps_model.specs.Solutions.{IsSolution}
use Rattle.cps_literal.specs.declared.atom.Atom.{Atom}
use Rattle.cps_trail.specs.Trail.{Trail}
use Rattle.cps_port.specs.declared.part.Part.{Part}
use Rattle.cps_search.specs.declared.turn.Turn.{Turn}
use Rattle.cps_search.specs.declared.turn.Turn.TheVariants as turns
use Rattle.cps_search.specs.Searches.{Search, IsFound, IsSoundSearch}
use Rattle.cps_search.specs.Turns.{FoundOne, SameBest}
use Rattle.cps_search.specs.Ends.{TurnCaused}
use Rattle.cps_core_guided.specs.Reforming.{CoreSearch}
use Rattle.cps_core_guided.specs.CoreTurns.{CoreCaused}
use Rattle.cps_neighbourhood.specs.Nears.{Near, NearCaused}
use Rattle.cps_pool.specs.Pools.{with_pushed}
use Rattle.cps_crew.specs.Workers.{PutsFound, found_one, found_none}

-- what a sound search has found is a solution of its model
pub found_is : (m : CpModel) (s : Search) (o : Option (Bor (List ℤ))) → IsSoundSearch s → s.instance.model ≡ m → IfSome o (λ v. s.best ≡ Some v.now) → IfSome o (λ v. IsSolution m v.now)
found_is m s None sound model h = tt
found_is m s (Some v) sound model h =
    let found : IsFound s v.now = subst (λ (b : Option (List ℤ)). IfSome b (IsFound s)) h sound.best in
    subst (λ (x : CpModel). IsSolution x v.now) model found.solution

-- ---- a turn that finds nothing leaves the best solution

pub stays_best : (chooses : Trail → Option Atom → Type 0) (s t : Search) (rows : ℕ) (p q : Part) (turn : Turn) → (turn ≡ turns.Found → ⊥) → TurnCaused chooses s t rows p q turn → SameBest s t
stays_best chooses s t rows p q turns.Imported n h = h.best
stays_best chooses s t rows p q turns.Decided n h = ap (λ (x : Search). x.best) h.is ∙ h.due.best
stays_best chooses s t rows p q turns.Learnt n h = h.best
stays_best chooses s t rows p q turns.Found n h = absurd (n refl)
stays_best chooses s t rows p q turns.Exhausted n h = h.best
stays_best chooses s t rows p q turns.SawClosed n h = ap (λ (x : Search). x.best) h.same
stays_best chooses s t rows p q (turns.Spent clause below) n h = h.best
stays_best chooses s t rows p q turns.RoundsDone n h = absurd h
stays_best chooses s t rows p q (turns.Reformed base) n h = absurd h

pub stays_best_by_cores : (chooses : Trail → Option Atom → Type 0) (s t : CoreSearch) (rows : ℕ) (p q : Part) (turn : Turn) → (turn ≡ turns.Found → ⊥) → CoreCaused chooses s t rows p q turn → SameBest s.search t.search
stays_best_by_cores chooses s t rows p q turns.Imported n h = h.caused.best
stays_best_by_cores chooses s t rows p q turns.Decided n h = ap (λ (x : CoreSearch). x.search.best) h.on.is ∙ h.due.best
stays_best_by_cores chooses s t rows p q turns.Learnt n h = h.caused.best
stays_best_by_cores chooses s t rows p q turns.Found n h = absurd (n refl)
stays_best_by_cores chooses s t rows p q turns.Exhausted n (inl h) = h.caused.best
stays_best_by_cores chooses s t rows p q turns.Exhausted n (inr h) = h.on.fails.best ∙ h.due.best
stays_best_by_cores chooses s t rows p q turns.SawClosed n h = ap (λ (x : Search). x.best) h.caused.same
stays_best_by_cores chooses s t rows p q (turns.Spent clause below) n h = h.caused.best
stays_best_by_cores chooses s t rows p q turns.RoundsDone n h = absurd h
stays_best_by_cores chooses s t rows p q (turns.Reformed base) n h = h.on.fails.best ∙ h.due.best

pub stays_best_near : (s t : Near) (rows : ℕ) (p q : Part) (turn : Turn) → (turn ≡ turns.Found → ⊥) → NearCaused s t rows p q turn → SameBest s.search t.search
stays_best_near s t rows p q turns.Imported n h = h.1.best
stays_best_near s t rows p q turns.Decided n h = ap (λ (x : Search). x.best) h.1.one.is ∙ h.1.one.due.best
stays_best_near s t rows p q turns.Learnt n h = h.1.one.best
stays_best_near s t rows p q turns.Found n h = absurd (n refl)
stays_best_near s t rows p q turns.Exhausted n h = h.1.best
stays_best_near s t rows p q turns.SawClosed n h = ap (λ (x : Search). x.best) h.0.same
stays_best_near s t rows p q (turns.Spent clause below) n h = absurd h
stays_best_near s t rows p q turns.RoundsDone n h = ap (λ (x : Search). x.best) h.1.is
stays_best_near s t rows p q (turns.Reformed base) n h = absurd h

-- ---- what was found goes into the pool

-- what a turn that found a solution puts there
puts_one : (is_read : Bool) (before after : List (List ℤ)) (rows : ℕ) (s t : Search) (p q : Part) (best : Option (Bor (List ℤ))) → FoundOne s t rows p q → (IsNone best → IsNone t.best) → IfSome best (λ v. t.best ≡ Some v.now)
    → IfSome best (λ v. after ≡ with_pushed is_read before v.now) → PutsFound is_read before after rows s t p q
puts_one is_read before after rows s t p q None found none some pushed = absurd (cc (subst IsNone found.best (none refl)))
puts_one is_read before after rows s t p q (Some v) found none some pushed = found_one v.now found some pushed

has_found : (turn : Turn) → (turn ≡ turns.Found) ⊎ (turn ≡ turns.Found → ⊥)
has_found turns.Imported = inr (λ e. absurd (cc e))
has_found turns.Decided = inr (λ e. absurd (cc e))
has_found turns.Learnt = inr (λ e. absurd (cc e))
has_found turns.Found = inl refl
has_found turns.Exhausted = inr (λ e. absurd (cc e))
has_found turns.SawClosed = inr (λ e. absurd (cc e))
has_found (turns.Spent clause below) = inr (λ e. absurd (cc e))
has_found turns.RoundsDone = inr (λ e. absurd (cc e))
has_found (turns.Reformed base) = inr (λ e. absurd (cc e))

pub puts_found : {E : Type 0} (is_read : Bool) (before after : List (List ℤ)) (rows : ℕ) (s t : Search) (p q : Part) (turn : Turn) (best : Option (Bor (List ℤ))) (r : Result Bool E)
    → (turn ≡ turns.Found → FoundOne s t rows p q) → ((turn ≡ turns.Found → ⊥) → SameBest s t)
    → (IsNone best → IsNone t.best) → IfSome best (λ v. t.best ≡ Some v.now)
    → (turn ≡ turns.Found → OnOk r (IfSome best (λ v. after ≡ with_pushed is_read before v.now))) → ((turn ≡ turns.Found → ⊥) → after ≡ before)
    → OnOk r (PutsFound is_read before after rows s t p q)
puts_found is_read before after rows s t p q turn best (Err e) found same none some pushed others = tt
puts_found is_read before after rows s t p q turn best (Ok over) found same none some pushed others = go (has_found turn)
  where
    go : (turn ≡ turns.Found) ⊎ (turn ≡ turns.Found → ⊥) → PutsFound is_read before after rows s t p q
    go (inl e) = puts_one is_read before after rows s t p q best (found e) none some (pushed e)
    go (inr n) = found_none (same n) (others n)
