-- The rule of the two words, and what each step tells. Word 0 is the upper bound, word 1 the lower one.
use Rattle.std.specs.Prelude.{◌≡◌, ℕ, ◌+◌, ◌-◌, ◌/◌, ◌<◌, ◌≤◌, List, [], ◌∷◌, min, max, Some, None}
use mathlib.Core.Option.{some}
use lib.ListN.{get_elem?}
use Rattle.atomic_table.specs.Table.{State, Me, Step}
use Rattle.cps_model.specs.declared.bound.Bound.TheVariants.{At, Infinite}
use Rattle.cps_model.specs.declared.model.CpModel.{CpModel}
use Rattle.cps_model.specs.Start.{objective_start}
use Rattle.cps_port.specs.declared.part.BoundsPart.{BoundsPart}
use Rattle.cps_port.specs.Order.{BoundLe, IsNoLower, lesser, greater_of}
use Rattle.cps_port.specs.Incumbents.{IsIncumbent, IsLowerBound}
use Rattle.cps_port.specs.Parts.{no_bounds, after_upper, after_lower, after_offer, after_raise}
use Rattle.cps_port.specs.Totals.{total}
use Rattle.cps_bounds.specs.declared.view.View.{View}
use Rattle.cps_port.specs.Words.{top, value_word, word_of, raise_word, bound_of, HasWord, HasWords}

-- all splits of a table
abbrev pub all_splits : ℕ
all_splits = 4294967296

module _ {A : Type 0} where
  -- t where there is none
  abbrev pub least : ℕ → (A → ℕ) → List A → ℕ
  least t f [] = t
  least t f (x ∷ xs) = min (f x) (least t f xs)

  -- at least b
  abbrev pub greatest : ℕ → (A → ℕ) → List A → ℕ
  greatest b f [] = b
  greatest b f (x ∷ xs) = max (f x) (greatest b f xs)

-- what a seat knows of the two words
pub record FitsWords (m : CpModel) (u l : ℕ) (v : View) : Type 0 where
  pub model : 0 < v.splits → v.model ≡ Some m
  -- a seat without splits has offered and raised nothing
  pub idle : v.splits ≡ 0 → (v.part.offered ≡ Infinite) × (v.part.raised ≡ None)
  pub offered : HasWord v.part.offered
  pub raised : HasWords v.part.raised
  pub upper : BoundLe (bound_of u) v.part.saw_upper
  pub lower : IsNoLower v.part.saw_lower (bound_of l)

pub record KeptWords {S : Type 0} (m : CpModel) (s : State S View) : Type 0 where
  pub upper : ℕ
  pub lower : ℕ
  pub words : s.words ≡ upper ∷ lower ∷ []
  pub upper_fits : upper ≤ top
  pub lower_fits : lower ≤ top
  pub start : HasWord (At (objective_start m))
  pub splits : total (λ (v : View). v.splits) s.views ≡ all_splits
  -- the upper bound is the least offer, and the lower bound the greatest raise
  pub least_is : upper ≡ least top (λ (v : View). word_of v.part.offered) s.views
  pub greatest_is : lower ≡ greatest (value_word (objective_start m)) (λ (v : View). raise_word v.part.raised) s.views
  pub each : (i : ℕ) (v : View) → get_elem? s.views i ≡ some v → FitsWords m upper lower v
  pub shown : IsIncumbent m (bound_of upper)
  pub floor : IsLowerBound m (bound_of lower)

abbrev pub first_view : CpModel → View
first_view m = record { model = Some m; splits = all_splits; part = no_bounds }

-- what a join leaves of the other seat
abbrev pub spent : View
spent = record { model = None; splits = 0; part = no_bounds }

abbrev pub kept_half : View → View
kept_half v = record v { splits = v.splits - v.splits / 2 }

-- a new seat knows what the old one saw, and has offered and raised nothing
abbrev pub newly : BoundsPart → BoundsPart
newly p = record p { offered = Infinite; raised = None }

abbrev pub given_half : View → View
given_half v = record v { splits = v.splits / 2; part = newly v.part }

-- what two seats know together; the counts of loads are the first one's
abbrev pub both_parts : BoundsPart → BoundsPart → BoundsPart
both_parts p q = record p {
  saw_upper = lesser p.saw_upper q.saw_upper;
  offered = lesser p.offered q.offered;
  saw_lower = greater_of p.saw_lower q.saw_lower;
  raised = greater_of p.raised q.raised;
}

-- the splits of two seats are never more than all: the rule knows so, and a seat alone does not
abbrev pub joined : View → View → View
joined v w = record v { splits = min (v.splits + w.splits) all_splits; part = both_parts v.part w.part }

abbrev pub with_part : View → BoundsPart → View
with_part v p = record v { part = p }

-- of the model of a view
abbrev pub OfModel : View → (CpModel → Type 0) → Type 0
OfModel v fact = (m : CpModel) → v.model ≡ Some m → fact m

module _ {S : Type 0} where
  abbrev pub upper_seen : Step S → Me S View → ℕ → Me S View → Type 0
  upper_seen st me word me' =
      (me' ≡ (with_part me.0 (after_upper me.0.part (bound_of word) (me.0.part.upper_loads + 1)), me.1))
      × BoundLe (bound_of word) me.0.part.saw_upper × OfModel me.0 (λ m. IsIncumbent m (bound_of word))

  abbrev pub lower_seen : Step S → Me S View → ℕ → Me S View → Type 0
  lower_seen st me word me' =
      (me' ≡ (with_part me.0 (after_lower me.0.part (bound_of word) (me.0.part.lower_loads + 1)), me.1))
      × IsNoLower me.0.part.saw_lower (bound_of word) × OfModel me.0 (λ m. IsLowerBound m (bound_of word))

  abbrev pub value_offered : Step S → Me S View → ℕ → Me S View → Type 0
  value_offered st me word me' =
      (me' ≡ (with_part me.0 (after_offer me.0.part (bound_of st.first) (bound_of (min word st.first))), me.1))
      × BoundLe (bound_of word) me.0.part.saw_upper × OfModel me.0 (λ m. IsIncumbent m (bound_of word))

  abbrev pub bound_raised : Step S → Me S View → ℕ → Me S View → Type 0
  bound_raised st me word me' =
      (me' ≡ (with_part me.0 (after_raise me.0.part (bound_of st.first) (bound_of (max word st.first))), me.1))
      × IsNoLower me.0.part.saw_lower (bound_of word) × OfModel me.0 (λ m. IsLowerBound m (bound_of word))
