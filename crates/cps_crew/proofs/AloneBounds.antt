-- What an actor alone saw last of the two bounds is what they are.
use Rattle.std.specs.Prelude.{Some}
use Rattle.std.proofs.Common.{◌≡◌, refl, sym, ap, subst, ◌∙◌, ℕ, ◌<◌, List, [], ◌∷◌, length, get_or, set, arith, length-set}
use Rattle.cps_model.specs.declared.bound.Bound.{Bound}
use Rattle.cps_model.specs.declared.bound.Bound.TheVariants.{At}
use Rattle.cps_model.specs.declared.model.CpModel.{CpModel}
use Rattle.cps_port.specs.declared.event.Event.{Event}
use Rattle.cps_port.specs.declared.event.Event.TheVariants.{Draw, Publish, Look, Offer, Raise, SeeUpper, SeeLower}
use Rattle.cps_port.specs.declared.part.BoundsPart.{BoundsPart}
use Rattle.cps_port.specs.Order.{lesser, greater}
use Rattle.cps_port.specs.Parts.{no_bounds, after_upper, after_lower, after_offer, after_raise}
use Rattle.cps_port.specs.Shared.{Shared, BoundsState, bounds_part, bounds_after, after, counted, first_shared}
use Rattle.cps_port.specs.Sound.{run}
use Rattle.cps_port.specs.Others.{ActsAlone, by}

-- what the first actor saw last is what the bounds are
pub record SeesAll (s : BoundsState) : Type 0 where
  pub some : 0 < length s.parts
  pub upper : (bounds_part s 0).saw_upper ≡ s.upper
  pub lower : (seen : Bound) → (bounds_part s 0).saw_lower ≡ Some seen → s.lower ≡ seen

pub first_sees : (m : CpModel) (actors rows : ℕ) → actors ≡ 1 → SeesAll (first_shared m actors rows).bounds
first_sees m actors rows one = subst (λ (n : ℕ). SeesAll (first_shared m n rows).bounds) (sym one) (record { some = omega arith; upper = refl; lower = λ seen e. absurd (cc e) })

-- ---- its events

read_set : {A : Type 0} (xs : List A) (x d : A) → 0 < length xs → get_or (set xs 0 x) 0 d ≡ x
read_set [] x d l = absurd (omega (arith, l))
read_set (y ∷ ys) x d l = refl

some_is : (a b : Bound) → Some a ≡ Some b → a ≡ b
some_is a b e = cc

with_part : (s t : BoundsState) (p : BoundsPart) → SeesAll s → t.parts ≡ set s.parts 0 p → p.saw_upper ≡ t.upper → ((seen : Bound) → p.saw_lower ≡ Some seen → t.lower ≡ seen) → SeesAll t
with_part s t p h parts upper lower =
    let is : bounds_part t 0 ≡ p = ap (λ (xs : List BoundsPart). get_or xs 0 no_bounds) parts ∙ read_set s.parts p no_bounds h.some in
    record {
      some = subst (λ (n : ℕ). 0 < n) (sym (ap (λ (xs : List BoundsPart). length xs) parts ∙ length-set s.parts 0 p)) h.some;
      upper = ap (λ (x : BoundsPart). x.saw_upper) is ∙ upper;
      lower = λ seen e. lower seen (sym (ap (λ (x : BoundsPart). x.saw_lower) is) ∙ e);
    }

sees_after : (s : BoundsState) (e : Event) → SeesAll s → SeesAll (bounds_after s 0 e)
sees_after s Draw h = h
sees_after s (Publish entry) h = h
sees_after s Look h = h
sees_after s (Offer v) h = with_part s (bounds_after s 0 (Offer v)) (after_offer (bounds_part s 0) (At v) (lesser s.upper (At v))) h refl refl (λ seen e. h.lower seen e)
sees_after s (Raise l) h = with_part s (bounds_after s 0 (Raise l)) (after_raise (bounds_part s 0) l (greater s.lower l)) h refl h.upper (λ seen e. some_is (greater s.lower l) seen e)
sees_after s SeeUpper h = with_part s (bounds_after s 0 SeeUpper) (after_upper (bounds_part s 0) s.upper (counted (bounds_part s 0).upper_loads)) h refl refl (λ seen e. h.lower seen e)
sees_after s SeeLower h = with_part s (bounds_after s 0 SeeLower) (after_lower (bounds_part s 0) s.lower (counted (bounds_part s 0).lower_loads)) h refl h.upper (λ seen e. some_is s.lower seen e)

sees_run : (c : Shared) (es : List Event) → SeesAll c.bounds → SeesAll (run c (by 0 es)).bounds
sees_run c [] h = h
sees_run c (e ∷ es) h = sees_run (after c 0 e) es (sees_after c.bounds e h)

pub sees_alone : (c d : Shared) → ActsAlone 0 0 c d → SeesAll c.bounds → SeesAll d.bounds
sees_alone c d acts h = subst (λ (x : Shared). SeesAll x.bounds) (sym acts.reaches) (sees_run c acts.events h)
