-- An actor that loaded the upper bound saw the bound that stood: its own offers have not lowered it meanwhile.
use Rattle.std.proofs.Common.{◌≡◌, ℕ, zero, suc, ◌<◌, ◌⊎◌, inl, inr, ⊎_elim, ℤ, ◌≤ℤ◌, Some, List, [], ◌∷◌, length, get_or, set, sym, refl, ap, ◌∙◌, subst, arith, get_or-set_same}
use Rattle.std.proofs.lemmas.Int.{ints}
use Rattle.cps_model.specs.declared.bound.Bound.{Bound}
use Rattle.cps_model.specs.declared.bound.Bound.TheVariants.{At, Infinite}
use Rattle.cps_port.specs.declared.event.Event.{Event}
use Rattle.cps_port.specs.declared.event.Event.TheVariants.{Draw, Publish, Look, Offer, Raise, SeeUpper, SeeLower}
use Rattle.cps_port.specs.declared.part.BoundsPart.{BoundsPart}
use Rattle.cps_port.specs.Order.{BoundLe, lesser, greater}
use Rattle.cps_port.specs.Parts.{no_bounds, after_upper, after_lower, after_offer, after_raise}
use Rattle.cps_port.specs.Shared.{BoundsState, Shared, bounds_part, counted, bounds_after, after}
use Rattle.cps_port.specs.Sound.{least_offer, run}
use Rattle.cps_port.specs.Others.{by}
use Rattle.cps_port.specs.Causes.{SawTheUpper}
use Rattle.cps_port.proofs.BoundLaws.{BoundLe-refl, BoundLe-trans, lesser-first, lesser-second, lesser_is}
use Rattle.cps_port.proofs.SoundShared.{same_parts}

same_number : (x y : ℤ) → x ≤ℤ y → y ≤ℤ x → x ≡ y
same_number x y p q = omega (arith, ints)

same_bound : (a b : Bound) → BoundLe a b → BoundLe b a → a ≡ b
same_bound (At x) (At y) p q = ap At (same_number x y p q)
same_bound (At x) Infinite p q = absurd q
same_bound Infinite (At y) p q = absurd p
same_bound Infinite Infinite p q = refl

same_some : {X : Type 0} (x y : X) → Some x ≡ Some y → x ≡ y
same_some x y e = cc

-- the lesser of two bounds is the first where that is no greater
lesser_same : (a b : Bound) → BoundLe a b → lesser a b ≡ a
lesser_same a b h = same_bound (lesser a b) a (lesser-first a b) (lesser_is (λ (x : Bound). BoundLe a x) a b (BoundLe-refl a) h)

least_le : (ps : List BoundsPart) (i : ℕ) → BoundLe (least_offer ps) (get_or ps i no_bounds).offered
least_le [] i = tt
least_le (p ∷ ps) zero = lesser-first p.offered (least_offer ps)
least_le (p ∷ ps) (suc i) = BoundLe-trans (lesser p.offered (least_offer ps)) (least_offer ps) (get_or ps i no_bounds).offered (lesser-second p.offered (least_offer ps)) (least_le ps i)

-- the actor's part after its event
own : (s : BoundsState) (i : ℕ) (q : BoundsPart) → i < length s.parts → get_or (set s.parts i q) i no_bounds ≡ q
own s i q h = get_or-set_same s.parts i q no_bounds h

abbrev offered : BoundsState → ℕ → Bound
offered s i = (bounds_part s i).offered

alike : (p q : BoundsPart) (b : Bound) → p ≡ q → q.offered ≡ b → BoundLe p.offered b
alike p q b e f = subst (λ (x : Bound). BoundLe x b) (sym (ap (λ (r : BoundsPart). r.offered) e ∙ f)) (BoundLe-refl b)

offer_falls : (s : BoundsState) (i : ℕ) (e : Event) → i < length s.parts → BoundLe (offered (bounds_after s i e) i) (offered s i)
offer_falls s i Draw h = BoundLe-refl (offered s i)
offer_falls s i (Publish e) h = BoundLe-refl (offered s i)
offer_falls s i Look h = BoundLe-refl (offered s i)
offer_falls s i (Offer v) h =
    let q : BoundsPart = after_offer (bounds_part s i) (At v) (lesser s.upper (At v)) in
    subst (λ (r : BoundsPart). BoundLe r.offered (offered s i)) (sym (own s i q h)) (lesser-first (offered s i) (At v))
offer_falls s i (Raise l) h = alike _ (after_raise (bounds_part s i) l (greater s.lower l)) (offered s i) (own s i _ h) refl
offer_falls s i SeeUpper h = alike _ (after_upper (bounds_part s i) s.upper (counted (bounds_part s i).upper_loads)) (offered s i) (own s i _ h) refl
offer_falls s i SeeLower h = alike _ (after_lower (bounds_part s i) s.lower (counted (bounds_part s i).lower_loads)) (offered s i) (own s i _ h) refl

among : (s : BoundsState) (i : ℕ) (e : Event) → i < length s.parts → i < length (bounds_after s i e).parts
among s i e h = let n = same_parts s i e in omega arith

offers_fall : (c : Shared) (i : ℕ) (es : List Event) → i < length c.bounds.parts → BoundLe (offered (run c (by i es)).bounds i) (offered c.bounds i)
offers_fall c i [] h = BoundLe-refl (offered c.bounds i)
offers_fall c i (e ∷ es) h =
    BoundLe-trans (offered (run (after c i e) (by i es)).bounds i) (offered (after c i e).bounds i) (offered c.bounds i) (offers_fall (after c i e) i es (among c.bounds i e h)) (offer_falls c.bounds i e h)

-- the actor saw the bound b or loaded none, by what it knew before and after
abbrev SawOnly : Bound → BoundsPart → BoundsPart → Type 0
SawOnly b p q = (q.upper_last ≡ Some b) ⊎ ((q.upper_last ≡ p.upper_last) × (q.upper_loads ≡ p.upper_loads))

-- the upper bound stands, and so do the actor's offers
record Stands (s t : BoundsState) (i : ℕ) : Type 0 where
  upper : t.upper ≡ s.upper
  offers : offered t i ≡ offered s i
  saw : SawOnly s.upper (bounds_part s i) (bounds_part t i)

-- no event but an offer moves it
stands : (s t : BoundsState) (i : ℕ) (q : BoundsPart) → t.upper ≡ s.upper → bounds_part t i ≡ q → q.offered ≡ offered s i → SawOnly s.upper (bounds_part s i) q → Stands s t i
stands s t i q upper is offers saw = record {
  upper = upper;
  offers = ap (λ (p : BoundsPart). p.offered) is ∙ offers;
  saw = subst (SawOnly s.upper (bounds_part s i)) (sym is) saw;
}

stands_offer : (s : BoundsState) (i : ℕ) (v : ℤ) → i < length s.parts → BoundLe s.upper (offered s i) → BoundLe (offered s i) (lesser (offered s i) (At v)) → Stands s (bounds_after s i (Offer v)) i
stands_offer s i v h above still =
    let p : BoundsPart = bounds_part s i in
    let low : BoundLe p.offered (At v) = BoundLe-trans p.offered (lesser p.offered (At v)) (At v) still (lesser-second p.offered (At v)) in
    let upper : lesser s.upper (At v) ≡ s.upper = lesser_same s.upper (At v) (BoundLe-trans s.upper p.offered (At v) above low) in
    stands s (bounds_after s i (Offer v)) i (after_offer p (At v) (lesser s.upper (At v))) upper (own s i _ h) (lesser_same p.offered (At v) low) (inr (refl, refl))

stands_once : (s : BoundsState) (i : ℕ) (e : Event) → i < length s.parts → BoundLe s.upper (offered s i) → BoundLe (offered s i) (offered (bounds_after s i e) i) → Stands s (bounds_after s i e) i
stands_once s i Draw h above still = stands s s i (bounds_part s i) refl refl refl (inr (refl, refl))
stands_once s i (Publish e) h above still = stands s s i (bounds_part s i) refl refl refl (inr (refl, refl))
stands_once s i Look h above still = stands s s i (bounds_part s i) refl refl refl (inr (refl, refl))
stands_once s i (Offer v) h above still =
    let q : BoundsPart = after_offer (bounds_part s i) (At v) (lesser s.upper (At v)) in
    stands_offer s i v h above (subst (λ (r : BoundsPart). BoundLe (offered s i) r.offered) (own s i q h) still)
stands_once s i (Raise l) h above still =
    stands s (bounds_after s i (Raise l)) i (after_raise (bounds_part s i) l (greater s.lower l)) refl (own s i _ h) refl (inr (refl, refl))
stands_once s i SeeUpper h above still =
    stands s (bounds_after s i SeeUpper) i (after_upper (bounds_part s i) s.upper (counted (bounds_part s i).upper_loads)) refl (own s i _ h) refl (inl refl)
stands_once s i SeeLower h above still =
    stands s (bounds_after s i SeeLower) i (after_lower (bounds_part s i) s.lower (counted (bounds_part s i).lower_loads)) refl (own s i _ h) refl (inr (refl, refl))

saw_then : (b c : Bound) (p q r : BoundsPart) → c ≡ b → SawOnly b p q → SawOnly c q r → SawOnly b p r
saw_then b c p q r same first rest =
    ⊎_elim (λ (e : r.upper_last ≡ Some c). inl (e ∙ ap Some same))
    (λ (g : (r.upper_last ≡ q.upper_last) × (r.upper_loads ≡ q.upper_loads)). ⊎_elim (λ (e : q.upper_last ≡ Some b). inl (g.0 ∙ e))
    (λ (f : (q.upper_last ≡ p.upper_last) × (q.upper_loads ≡ p.upper_loads)). inr (g.0 ∙ f.0, g.1 ∙ f.1)) first) rest

stands_on : (c : Shared) (i : ℕ) (es : List Event) → i < length c.bounds.parts → BoundLe c.bounds.upper (offered c.bounds i) → BoundLe (offered c.bounds i) (offered (run c (by i es)).bounds i)
    → Stands c.bounds (run c (by i es)).bounds i
stands_on c i [] h above still = stands c.bounds c.bounds i (bounds_part c.bounds i) refl refl refl (inr (refl, refl))
stands_on c i (e ∷ es) h above still =
    let d : Shared = after c i e in
    let end : BoundsState = (run d (by i es)).bounds in
    let k = among c.bounds i e h in
    let fall = offers_fall d i es k in
    let first = stands_once c.bounds i e h above (BoundLe-trans (offered c.bounds i) (offered end i) (offered d.bounds i) still fall) in
    let here : BoundLe d.bounds.upper (offered d.bounds i) =
    subst (λ (x : Bound). BoundLe x (offered d.bounds i)) (sym first.upper) (subst (λ (x : Bound). BoundLe c.bounds.upper x) (sym first.offers) above) in
    let rest = stands_on d i es k here (subst (λ (x : Bound). BoundLe x (offered end i)) (sym first.offers) still) in
    record {
      upper = rest.upper ∙ first.upper;
      offers = rest.offers ∙ first.offers;
      saw = saw_then c.bounds.upper d.bounds.upper (bounds_part c.bounds i) (bounds_part d.bounds i) (bounds_part end i) first.upper first.saw rest.saw;
    }

pub saw_the_upper : SawTheUpper
saw_the_upper i loads c d seen sound known h part count =
    let p : BoundsPart = bounds_part c.bounds i in
    let end : BoundsState = (run c (by i h.events)).bounds in
    let is : bounds_part end i ≡ after_upper p seen loads = sym (ap (λ (x : Shared). bounds_part x.bounds i) h.reaches) ∙ part in
    let both = sound.both in
    let above : BoundLe c.bounds.upper p.offered = subst (λ (b : Bound). BoundLe b p.offered) (sym sound.bounds.upper) (least_le c.bounds.parts i) in
    let still : BoundLe p.offered (offered end i) = subst (λ (b : Bound). BoundLe p.offered b) (sym (ap (λ (q : BoundsPart). q.offered) is)) (BoundLe-refl p.offered) in
    let s = stands_on c i h.events (omega arith) above still in
    ⊎_elim (λ (e : (bounds_part end i).upper_last ≡ Some c.bounds.upper). same_some seen c.bounds.upper (sym (ap (λ (q : BoundsPart). q.upper_last) is) ∙ e))
    (λ (g : ((bounds_part end i).upper_last ≡ p.upper_last) × ((bounds_part end i).upper_loads ≡ p.upper_loads)).
    let loaded = ap (λ (q : BoundsPart). q.upper_loads) is in let n = g.1 in absurd (omega arith)) s.saw
