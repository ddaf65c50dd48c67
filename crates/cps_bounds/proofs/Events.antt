-- Steps of the two words are events of the bounds that they show.
use Rattle.std.proofs.Common.{◌≡◌, ℕ, zero, suc, ◌+◌, ◌<◌, min, max, ℤ, List, [], ◌∷◌, map, length, replicate, get_or, set, refl, sym, ap, ◌∙◌, subst, arith, length-set}
use lib.Seq.{map-set}
use mathlib.Core.Option.{some, some-injective, some-ne-none}
use lib.ListN.{get_elem?}
use Rattle.atomic_table.specs.Table.{Me, stepped, keeps}
use Rattle.cps_model.specs.declared.bound.Bound.{Bound}
use Rattle.cps_model.specs.declared.bound.Bound.TheVariants.{At}
use Rattle.cps_model.specs.Start.{objective_start}
use Rattle.cps_model.specs.Validity.{IsValid}
use Rattle.cps_port.specs.declared.event.Event.{Event}
use Rattle.cps_port.specs.declared.event.Event.TheVariants.{Draw, Publish, Look, Offer, Raise, SeeUpper, SeeLower}
use Rattle.cps_port.specs.declared.part.BoundsPart.{BoundsPart}
use Rattle.cps_port.specs.Order.{IsSmallBound, lesser, greater}
use Rattle.cps_port.specs.Incumbents.{IsAttained, IsLowerBound}
use Rattle.cps_port.specs.Parts.{no_bounds, after_upper, after_lower, after_offer, after_raise}
use Rattle.cps_port.specs.Shared.{BoardState, BoundsState, Shared, bounds_part, board_part, actor_count, counted, board_after, bounds_after, after, IsLawful}
use Rattle.cps_port.specs.Words.{top, value_word, word_of, raise_word, bound_of}
use Rattle.cps_port.proofs.PortEvents.{counted_rises, may_raise}
use Rattle.cps_bounds.specs.declared.view.View.{View}
use Rattle.cps_bounds.specs.Rule.{KeptWords, upper_seen, lower_seen, value_offered, bound_raised}
use Rattle.cps_bounds.specs.Events.{TwoWords, Shows, Tells, IsStep, LoadsUpper, LoadsLower, Offers, Raises, Makes, StepsAreEvents, ShowsFirst}
use Rattle.cps_bounds.proofs.Folds.{least_top, below_least, greatest_base, greatest_below}
use Rattle.cps_bounds.proofs.Offers.{handed_value, handed_bound, bound_of-min, bound_of-max}

abbrev part_in : View → BoundsPart
part_in v = v.part

abbrev Token : Type 0
Token = Me (Unit {0}) View

part_at_seat : (vs : List View) (id : ℕ) (v : View) → get_elem? vs id ≡ some v → get_or (map part_in vs) id no_bounds ≡ v.part
part_at_seat [] id v e = absurd (some-ne-none v (sym e))
part_at_seat (x ∷ xs) zero v e = ap part_in (some-injective x v e)
part_at_seat (x ∷ xs) (suc id) v e = part_at_seat xs id v e

seat_below : (vs : List View) (id : ℕ) (v : View) → get_elem? vs id ≡ some v → id < length vs
seat_below [] id v e = absurd (some-ne-none v (sym e))
seat_below (x ∷ xs) zero v e = omega arith
seat_below (x ∷ xs) (suc id) v e = let h = seat_below xs id v e in omega arith

-- after a step on one word, by a seat that then knows p
shows_after : (s t : TwoWords) (b : BoundsState) (id place n : ℕ) (w : View) (p : BoundsPart) (u l : Bound) → Shows s b → t ≡ stepped s place n id [] w keeps → w.part ≡ p
    → bound_of (get_or (set s.words place n) 0 0) ≡ u → bound_of (get_or (set s.words place n) 1 0) ≡ l → Shows t (let after_it : BoundsState = record { upper = u; lower = l; parts = set b.parts id p } in after_it)
shows_after s t b id place n w p u l shows state knows up low =
    subst (λ (z : TwoWords). Shows z (let after_it : BoundsState = record { upper = u; lower = l; parts = set b.parts id p } in after_it)) (sym state) (record {
      upper = up;
      lower = low;
      parts = map-set part_in s.views id w ∙ (ap (λ (ps : List BoundsPart). set ps id w.part) shows.parts ∙ ap (set b.parts id) knows);
    })

-- two words, of which one changes
module _ (ws : List ℕ) (a b n : ℕ) (two : ws ≡ a ∷ b ∷ []) where
  first_here : get_or (set ws 0 n) 0 0 ≡ n
  first_here = ap (λ (l : List ℕ). get_or (set l 0 n) 0 0) two

  first_else : get_or (set ws 0 n) 1 0 ≡ get_or ws 1 0
  first_else = ap (λ (l : List ℕ). get_or (set l 0 n) 1 0) two ∙ sym (ap (λ (l : List ℕ). get_or l 1 0) two)

  second_here : get_or (set ws 1 n) 1 0 ≡ n
  second_here = ap (λ (l : List ℕ). get_or (set l 1 n) 1 0) two

  second_else : get_or (set ws 1 n) 0 0 ≡ get_or ws 0 0
  second_else = ap (λ (l : List ℕ). get_or (set l 1 n) 0 0) two ∙ sym (ap (λ (l : List ℕ). get_or l 0 0) two)

-- one step is one event
record IsOneEvent (c : Shared) (id : ℕ) (e : Event) (t : TwoWords) : Type 0 where
  actor : id < actor_count c
  lawful : IsLawful c id e
  shown : Shows t (bounds_after c.bounds id e)
  board : board_after c.board id e ≡ c.board
  kept : KeptWords c.model t
  seats : actor_count c ≡ length t.views

module _ (c : Shared) (s : TwoWords) (id : ℕ) (valid : IsValid c.model) (k : KeptWords c.model s) (shows : Shows s c.bounds) (count : actor_count c ≡ length s.views) where
  abbrev P : BoundsPart
  P = bounds_part c.bounds id

  module _ (tells : Tells) (becomes : ℕ → ℕ) (place operand : ℕ) (old : View) (t : TwoWords) (made : IsStep c.model tells becomes place operand id old s t) where
    knew : P ≡ old.part
    knew = sym (ap (λ (ps : List BoundsPart). get_or ps id no_bounds) shows.parts) ∙ part_at_seat s.views id old made.seat

    among : id < actor_count c
    among = let h = seat_below s.views id old made.seat in omega arith

    as_many : actor_count c ≡ length t.views
    as_many = count ∙ (sym (length-set s.views id made.new) ∙ sym (ap (λ (z : TwoWords). length z.views) made.state))

    of_event : (e : Event) → IsLawful c id e → Shows t (bounds_after c.bounds id e) → board_after c.board id e ≡ c.board → IsOneEvent c id e t
    of_event e lawful shown board = record { actor = among; lawful = lawful; shown = shown; board = board; kept = made.kept; seats = as_many }

  sees_upper : (t : TwoWords) → LoadsUpper c.model s id t → IsOneEvent c id SeeUpper t
  sees_upper t made =
      let old = made.0 in let st = made.1 in let n : ℕ = get_or s.words 0 0 in
      let was = knew upper_seen (λ n. n) 0 0 old t st in
      let rose = (counted_rises old.part.upper_loads).rose made.2 in
      let part : st.new.part ≡ after_upper P c.bounds.upper (counted P.upper_loads) = ap (λ (z : Token). z.0.part) st.told.0
      ∙ (ap (λ (u : Bound). after_upper old.part u (old.part.upper_loads + 1)) shows.upper ∙ (ap (after_upper old.part c.bounds.upper) (sym rose)
      ∙ ap (λ (p : BoundsPart). after_upper p c.bounds.upper (counted p.upper_loads)) (sym was))) in
      of_event upper_seen (λ n. n) 0 0 old t st SeeUpper tt
      (shows_after s t c.bounds id 0 n st.new (after_upper P c.bounds.upper (counted P.upper_loads)) c.bounds.upper c.bounds.lower shows st.state part
      (ap bound_of (first_here s.words k.upper k.lower n k.words) ∙ shows.upper) (ap bound_of (first_else s.words k.upper k.lower n k.words) ∙ shows.lower)) refl

  sees_lower : (t : TwoWords) → LoadsLower c.model s id t → IsOneEvent c id SeeLower t
  sees_lower t made =
      let old = made.0 in let st = made.1 in let n : ℕ = get_or s.words 1 0 in
      let was = knew lower_seen (λ n. n) 1 0 old t st in
      let rose = (counted_rises old.part.lower_loads).rose made.2 in
      let part : st.new.part ≡ after_lower P c.bounds.lower (counted P.lower_loads) = ap (λ (z : Token). z.0.part) st.told.0
      ∙ (ap (λ (l : Bound). after_lower old.part l (old.part.lower_loads + 1)) shows.lower ∙ (ap (after_lower old.part c.bounds.lower) (sym rose)
      ∙ ap (λ (p : BoundsPart). after_lower p c.bounds.lower (counted p.lower_loads)) (sym was))) in
      of_event lower_seen (λ n. n) 1 0 old t st SeeLower tt
      (shows_after s t c.bounds id 1 n st.new (after_lower P c.bounds.lower (counted P.lower_loads)) c.bounds.upper c.bounds.lower shows st.state part
      (ap bound_of (second_else s.words k.upper k.lower n k.words) ∙ shows.upper) (ap bound_of (second_here s.words k.upper k.lower n k.words) ∙ shows.lower)) refl

  offers : (v : ℤ) (t : TwoWords) → IsAttained c.model v → Offers c.model s id (At v) t → IsOneEvent c id (Offer v) t
  offers v t shown made =
      let old = made.0 in let st = made.1 in let n : ℕ = get_or s.words 0 0 in let w : ℕ = word_of (At v) in let u : Bound = lesser c.bounds.upper (At v) in
      let is : n ≡ k.upper = ap (λ (ws : List ℕ). get_or ws 0 0) k.words in let high = k.upper_fits in
      let h = handed_value c.model v w valid shown refl in
      let was = knew value_offered (λ n. min n w) 0 w old t st in
      let answer : bound_of (min n w) ≡ u = bound_of-min n w (omega arith) h.fits ∙ (ap (lesser (bound_of n)) h.back ∙ ap (λ (b : Bound). lesser b (At v)) shows.upper) in
      let part : st.new.part ≡ after_offer P (At v) u = ap (λ (z : Token). z.0.part) st.told.0
      ∙ (ap (λ (b : Bound). after_offer old.part b (bound_of (min n w))) h.back ∙ (ap (after_offer old.part (At v)) answer ∙ ap (λ (p : BoundsPart). after_offer p (At v) u) (sym was))) in
      of_event value_offered (λ n. min n w) 0 w old t st (Offer v) shown
      (shows_after s t c.bounds id 0 (min n w) st.new (after_offer P (At v) u) u c.bounds.lower shows st.state part
      (ap bound_of (first_here s.words k.upper k.lower (min n w) k.words) ∙ answer) (ap bound_of (first_else s.words k.upper k.lower (min n w) k.words) ∙ shows.lower)) refl

  raises : (l : Bound) (t : TwoWords) → IsLowerBound c.model l → IsSmallBound l → Raises c.model s id l t → IsOneEvent c id (Raise l) t
  raises l t floor small made =
      let old = made.0 in let st = made.1 in let n : ℕ = get_or s.words 1 0 in let w : ℕ = word_of l in let g : Bound = greater c.bounds.lower l in
      let is : n ≡ k.lower = ap (λ (ws : List ℕ). get_or ws 1 0) k.words in let high = k.lower_fits in
      let h = handed_bound l w small refl in
      let was = knew bound_raised (λ n. max n w) 1 w old t st in
      let answer : bound_of (max n w) ≡ g = bound_of-max n w (omega arith) h.fits ∙ (ap (greater (bound_of n)) h.back ∙ ap (λ (b : Bound). greater b l) shows.lower) in
      let part : st.new.part ≡ after_raise P l g = ap (λ (z : Token). z.0.part) st.told.0
      ∙ (ap (λ (b : Bound). after_raise old.part b (bound_of (max n w))) h.back ∙ (ap (after_raise old.part l) answer ∙ ap (λ (p : BoundsPart). after_raise p l g) (sym was))) in
      of_event bound_raised (λ n. max n w) 1 w old t st (Raise l) (may_raise c.model (board_part c.board id) l floor)
      (shows_after s t c.bounds id 1 (max n w) st.new (after_raise P l g) c.bounds.upper g shows st.state part
      (ap bound_of (second_else s.words k.upper k.lower (max n w) k.words) ∙ shows.upper) (ap bound_of (second_here s.words k.upper k.lower (max n w) k.words) ∙ answer)) refl

  one_event : (e : Event) (t : TwoWords) → Makes c.model s id e t → IsOneEvent c id e t
  one_event SeeUpper t made = sees_upper t made
  one_event SeeLower t made = sees_lower t made
  one_event (Offer v) t made = offers v t made.0 made.1
  one_event (Raise l) t made = raises l t made.0 made.1 made.2
  one_event Draw t made = absurd made
  one_event (Publish e) t made = absurd made
  one_event Look t made = absurd made

pub steps_are_events : StepsAreEvents
steps_are_events c s t [] valid k shows count made = record { lawful = tt; shown = subst (λ (z : TwoWords). Shows z c.bounds) (sym made) shows; board = refl }
steps_are_events c s t (e ∷ es) valid k shows count made =
    let one = one_event c s e.0 valid k shows count e.1 made.0 made.1 in
    let same = ap (λ (b : BoardState). length b.parts) one.board in
    let rest = steps_are_events (after c e.0 e.1) made.0 t es valid one.kept one.shown (same ∙ one.seats) made.2 in
    record { lawful = (one.actor, one.lawful, rest.lawful); shown = rest.shown; board = rest.board ∙ one.board }

idle_parts : (vs : List View) → ((i : ℕ) (v : View) → get_elem? vs i ≡ some v → v.part ≡ no_bounds) → map part_in vs ≡ replicate (length vs) no_bounds
idle_parts [] idle = refl
idle_parts (x ∷ xs) idle =
    ap (λ (p : BoundsPart). p ∷ map part_in xs) (idle 0 x refl) ∙ ap (λ (ps : List BoundsPart). no_bounds ∷ ps) (idle_parts xs (λ i v e. idle (suc i) v e))

pub shows_first : ShowsFirst
shows_first m s rows k idle =
    let start : ℕ = value_word (objective_start m) in
    let offer_of : View → ℕ = λ v. word_of v.part.offered in
    let raise_of : View → ℕ = λ v. raise_word v.part.raised in
    let above = least_top offer_of top s.views in
    let below = below_least offer_of top s.views top (omega arith) (λ i v e. let q : word_of v.part.offered ≡ top = ap (λ (p : BoundsPart). word_of p.offered) (idle i v e) in omega arith) in
    let base = greatest_base raise_of start s.views in
    let most = greatest_below raise_of start s.views start (omega arith) (λ i v e. let q : raise_word v.part.raised ≡ 0 = ap (λ (p : BoundsPart). raise_word p.raised) (idle i v e) in omega arith) in
    let least_is = k.least_is in let greatest_is = k.greatest_is in
    let upper : k.upper ≡ top = omega arith in
    let lower : k.lower ≡ start = omega arith in
    record {
      upper = ap (λ (ws : List ℕ). bound_of (get_or ws 0 0)) k.words ∙ ap bound_of upper;
      lower = ap (λ (ws : List ℕ). bound_of (get_or ws 1 0)) k.words ∙ (ap bound_of lower ∙ k.start.back);
      parts = idle_parts s.views idle;
    }
