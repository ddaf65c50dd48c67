-- What steps on the two words are to those who share them: events of `cps_port`, one after another, each lawful where it
-- comes. The table shows the bounds of a shared state, in which a seat is the actor of its number.
use Rattle.std.specs.Prelude.{◌≡◌, ℕ, ◌-◌, ◌<◌, ◌^◌, min, max, List, [], ◌∷◌, map, length, slice_index}
use mathlib.Core.Option.{some, none}
use lib.ListN.{get_elem?}
use Rattle.atomic_table.specs.Table.{State, Me, Step, step, stepped, keeps}
use Rattle.cps_model.specs.declared.bound.Bound.{Bound}
use Rattle.cps_model.specs.declared.bound.Bound.TheVariants.{At}
use Rattle.cps_model.specs.declared.model.CpModel.{CpModel}
use Rattle.cps_model.specs.Validity.{IsValid}
use Rattle.cps_port.specs.declared.event.Event.{Event}
use Rattle.cps_port.specs.declared.event.Event.TheVariants.{Draw, Publish, Look, Offer, Raise, SeeUpper, SeeLower}
use Rattle.cps_port.specs.Order.{IsSmallBound}
use Rattle.cps_port.specs.Incumbents.{IsAttained, IsLowerBound}
use Rattle.cps_port.specs.Parts.{no_bounds}
use Rattle.cps_port.specs.Shared.{BoundsState, Shared, first_shared, actor_count}
use Rattle.cps_port.specs.Sound.{run, AreLawful}
use Rattle.cps_port.specs.Words.{word_of, bound_of}
use Rattle.cps_bounds.specs.declared.view.View.{View}
use Rattle.cps_bounds.specs.Rule.{KeptWords, upper_seen, lower_seen, value_offered, bound_raised}

-- the two words, and what each seat knows
abbrev pub TwoWords : Type 0
TwoWords = State (Unit {0}) View

-- the table shows these bounds: its words stand for them, and each seat knows what the actor of its number knows
pub record Shows (s : TwoWords) (b : BoundsState) : Type 0 where
  pub upper : bound_of (slice_index s.words 0) ≡ b.upper
  pub lower : bound_of (slice_index s.words 1) ≡ b.lower
  pub parts : map (λ (v : View). v.part) s.views ≡ b.parts

-- what the rule tells a seat of a step: the step, the seat before it, the word that was found, and the seat after it
abbrev pub Tells : Type 1
Tells = Step (Unit {0}) → Me (Unit {0}) View → ℕ → Me (Unit {0}) View → Type 0

-- One atomic operation by the seat `id`, with an operand: it makes `becomes` of the word in one place, and the seat then
-- knows what it was told. The rule holds after it, as after each operation on the table.
pub record IsStep (m : CpModel) (tells : Tells) (becomes : ℕ → ℕ) (place operand id : ℕ) (old : View) (s t : TwoWords)
    : Type 0 where
  pub new : View
  pub seat : get_elem? s.views id ≡ some old
  pub told : tells (step (length s.homes) place operand 0 none) (old, []) (slice_index s.words place) (new, [])
  pub state : t ≡ stepped s place (becomes (slice_index s.words place)) id [] new keeps
  pub kept : KeptWords m t

-- A load of the upper bound, and one of the lower bound. The count of such loads is below the last value that a plain
-- state can store.
abbrev pub LoadsUpper : CpModel → TwoWords → ℕ → TwoWords → Type 0
LoadsUpper m s id t = (old : View) × IsStep m upper_seen (λ n. n) 0 0 id old s t
    × (old.part.upper_loads < 2 ^ 64 - 1)

abbrev pub LoadsLower : CpModel → TwoWords → ℕ → TwoWords → Type 0
LoadsLower m s id t = (old : View) × IsStep m lower_seen (λ n. n) 1 0 id old s t
    × (old.part.lower_loads < 2 ^ 64 - 1)

-- the least of the upper word and an offered one
abbrev pub Offers : CpModel → TwoWords → ℕ → Bound → TwoWords → Type 0
Offers m s id value t = (old : View)
    × IsStep m value_offered (λ n. min n (word_of value)) 0 (word_of value) id old s t

-- the greatest of the lower word and a raised one
abbrev pub Raises : CpModel → TwoWords → ℕ → Bound → TwoWords → Type 0
Raises m s id bound t = (old : View)
    × IsStep m bound_raised (λ n. max n (word_of bound)) 1 (word_of bound) id old s t

-- the operation of an event, with what its caller owes
abbrev pub Makes : CpModel → TwoWords → ℕ → Event → TwoWords → Type 0
Makes m s id SeeUpper t = LoadsUpper m s id t
Makes m s id SeeLower t = LoadsLower m s id t
Makes m s id (Offer v) t = IsAttained m v × Offers m s id (At v) t
Makes m s id (Raise l) t = IsLowerBound m l × IsSmallBound l × Raises m s id l t
Makes m s id Draw t = ⊥
Makes m s id (Publish e) t = ⊥
Makes m s id Look t = ⊥

-- operations of seats, one after another
abbrev pub MakesAll : CpModel → TwoWords → List (ℕ × Event) → TwoWords → Type 0
MakesAll m s [] t = t ≡ s
MakesAll m s (e ∷ es) t = (u : TwoWords) × Makes m s e.0 e.1 u × MakesAll m u es t

-- the events are lawful, the table shows what they make of the bounds, and they leave the board
pub record AreEvents (c : Shared) (events : List (ℕ × Event)) (t : TwoWords) : Type 0 where
  pub lawful : AreLawful c events
  pub shown : Shows t (run c events).bounds
  pub board : (run c events).board ≡ c.board

-- Between two splits or joins of seats, whatever seats do and in whatever order is lawful events of the state that the
-- table shows.
abbrev pub StepsAreEvents : Type 0
StepsAreEvents = (c : Shared) (s t : TwoWords) (events : List (ℕ × Event)) → IsValid c.model → KeptWords c.model s
    → Shows s c.bounds → actor_count c ≡ length s.views → MakesAll c.model s events t → AreEvents c events t

-- while no seat has done anything, the table shows the first state, of as many actors
abbrev pub ShowsFirst : Type 0
ShowsFirst = (m : CpModel) (s : TwoWords) (rows : ℕ) → KeptWords m s
    → ((i : ℕ) (v : View) → get_elem? s.views i ≡ some v → v.part ≡ no_bounds)
    → Shows s (first_shared m (length s.views) rows).bounds
