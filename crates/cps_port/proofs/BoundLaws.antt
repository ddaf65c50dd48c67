-- Laws of bounds, and that events on the bounds keep them.
use Rattle.std.proofs.Common.{◌≡◌, ◌≢◌, ℕ, zero, suc, ◌<◌, ℤ, ◌≤ℤ◌, Option, Some, None, List, [], ◌∷◌, length, get_or, set, sym, refl, ap, ◌∙◌, subst, arith, get_or-set_same, get_or-set_other}
use Rattle.std.specs.Prelude.{Bool, true, false, cond, int_lt}
use Rattle.std.specs.Int.{int_min, int_max}
use Rattle.std.proofs.lemmas.Int.{ints, int_min_is, int_max_is}
use mathlib.Core.Logic.{dite}
use native.Mathlib.Decide.{ℕ_discrete}
use Rattle.cps_model.specs.declared.bound.Bound.{Bound}
use Rattle.cps_model.specs.declared.bound.Bound.TheVariants.{At, Infinite}
use Rattle.cps_model.specs.declared.model.CpModel.{CpModel}
use Rattle.cps_model.specs.Start.{objective_start}
use Rattle.cps_port.specs.declared.event.Event.TheVariants.{Offer, Raise, SeeUpper, SeeLower}
use Rattle.cps_port.specs.declared.part.BoundsPart.{BoundsPart}
use Rattle.cps_port.specs.Order.{BoundLe, lesser, greater, raised_to, raised_above, IsNoLower}
use Rattle.cps_port.specs.Incumbents.{IsAttained, IsIncumbent, IsLowerBound}
use Rattle.cps_port.specs.Parts.{no_bounds, after_upper, after_lower, after_offer, after_raise}
use Rattle.cps_port.specs.Shared.{BoundsState, bounds_part, counted, bounds_after}
use Rattle.cps_port.specs.Sound.{least_offer, greatest_raise, IsSoundBounds}

same_int : (x y : ℤ) → x ≤ℤ y → y ≤ℤ x → x ≡ y
same_int x y p q = omega (arith, ints)

pub BoundLe-refl : (b : Bound) → BoundLe b b
BoundLe-refl (At x) = omega (arith, ints)
BoundLe-refl Infinite = tt

pub BoundLe-trans : (a b c : Bound) → BoundLe a b → BoundLe b c → BoundLe a c
BoundLe-trans (At x) (At y) (At z) p q = omega (arith, ints)
BoundLe-trans (At x) (At y) Infinite p q = tt
BoundLe-trans (At x) Infinite (At z) p q = absurd q
BoundLe-trans (At x) Infinite Infinite p q = tt
BoundLe-trans Infinite (At y) c p q = absurd p
BoundLe-trans Infinite Infinite c p q = q

pub lesser-first : (a b : Bound) → BoundLe (lesser a b) a
lesser-first (At x) (At y) = omega (arith, ints, int_min_is)
lesser-first (At x) Infinite = omega (arith, ints)
lesser-first Infinite (At y) = tt
lesser-first Infinite Infinite = tt

pub lesser-second : (a b : Bound) → BoundLe (lesser a b) b
lesser-second (At x) (At y) = omega (arith, ints, int_min_is)
lesser-second (At x) Infinite = tt
lesser-second Infinite b = BoundLe-refl b

pub greater-first : (a b : Bound) → BoundLe a (greater a b)
greater-first (At x) (At y) = omega (arith, ints, int_max_is)
greater-first (At x) Infinite = tt
greater-first Infinite b = tt

int_min-assoc : (x y z : ℤ) → int_min x (int_min y z) ≡ int_min (int_min x y) z
int_min-assoc x y z = same_int _ _ (omega (arith, ints, int_min_is)) (omega (arith, ints, int_min_is))

int_min-exchange : (x y z : ℤ) → int_min (int_min x y) z ≡ int_min (int_min x z) y
int_min-exchange x y z = same_int _ _ (omega (arith, ints, int_min_is)) (omega (arith, ints, int_min_is))

int_max-assoc : (x y z : ℤ) → int_max x (int_max y z) ≡ int_max (int_max x y) z
int_max-assoc x y z = same_int _ _ (omega (arith, ints, int_max_is)) (omega (arith, ints, int_max_is))

int_max-exchange : (x y z : ℤ) → int_max (int_max x y) z ≡ int_max (int_max x z) y
int_max-exchange x y z = same_int _ _ (omega (arith, ints, int_max_is)) (omega (arith, ints, int_max_is))

pub lesser-assoc : (a b c : Bound) → lesser a (lesser b c) ≡ lesser (lesser a b) c
lesser-assoc (At x) (At y) (At z) = ap At (int_min-assoc x y z)
lesser-assoc (At x) (At y) Infinite = refl
lesser-assoc (At x) Infinite c = refl
lesser-assoc Infinite b c = refl

pub lesser-exchange : (a b c : Bound) → lesser (lesser a b) c ≡ lesser (lesser a c) b
lesser-exchange (At x) (At y) (At z) = ap At (int_min-exchange x y z)
lesser-exchange (At x) (At y) Infinite = refl
lesser-exchange (At x) Infinite (At z) = refl
lesser-exchange (At x) Infinite Infinite = refl
lesser-exchange Infinite (At y) (At z) = ap At (same_int (int_min y z) (int_min z y) (omega (arith, ints, int_min_is)) (omega (arith, ints, int_min_is)))
lesser-exchange Infinite (At y) Infinite = refl
lesser-exchange Infinite Infinite (At z) = refl
lesser-exchange Infinite Infinite Infinite = refl

pub greater-assoc : (a b c : Bound) → greater a (greater b c) ≡ greater (greater a b) c
greater-assoc (At x) (At y) (At z) = ap At (int_max-assoc x y z)
greater-assoc (At x) (At y) Infinite = refl
greater-assoc (At x) Infinite c = refl
greater-assoc Infinite b c = refl

pub greater-exchange : (a b c : Bound) → greater (greater a b) c ≡ greater (greater a c) b
greater-exchange (At x) (At y) (At z) = ap At (int_max-exchange x y z)
greater-exchange (At x) (At y) Infinite = refl
greater-exchange (At x) Infinite (At z) = refl
greater-exchange (At x) Infinite Infinite = refl
greater-exchange Infinite b c = refl

greater-swap : (a b : Bound) → greater a b ≡ greater b a
greater-swap (At x) (At y) = ap At (same_int (int_max x y) (int_max y x) (omega (arith, ints, int_max_is)) (omega (arith, ints, int_max_is)))
greater-swap (At x) Infinite = refl
greater-swap Infinite (At y) = refl
greater-swap Infinite Infinite = refl

-- the lesser of two is one of them, and so is the greater
pub lesser_is : (P : Bound → Type 0) (a b : Bound) → P a → P b → P (lesser a b)
lesser_is P (At x) (At y) p q = elim (int_lt y x) as (λ (t : Bool). P (At (cond t y x))) [ true ↦ q | false ↦ p ]
lesser_is P (At x) Infinite p q = p
lesser_is P Infinite b p q = q

pub greater_is : (P : Bound → Type 0) (a b : Bound) → P a → P b → P (greater a b)
greater_is P (At x) (At y) p q = elim (int_lt y x) as (λ (t : Bool). P (At (cond t x y))) [ true ↦ p | false ↦ q ]
greater_is P (At x) Infinite p q = q
greater_is P Infinite b p q = p

pub IsNoLower-trans : (o : Option Bound) (b c : Bound) → IsNoLower o b → BoundLe b c → IsNoLower o c
IsNoLower-trans None b c p q = tt
IsNoLower-trans (Some a) b c p q = BoundLe-trans a b c p q

-- The least offer, where one actor offers the lesser of what it did and v.
pub least_offer-set : (ps : List BoundsPart) (i : ℕ) (p : BoundsPart) (v : Bound) → i < length ps → p.offered ≡ lesser (get_or ps i no_bounds).offered v → least_offer (set ps i p) ≡ lesser (least_offer ps) v
least_offer-set [] i p v h e = absurd (omega arith)
least_offer-set (x ∷ xs) zero p v h e = ap (λ (o : Bound). lesser o (least_offer xs)) e ∙ lesser-exchange x.offered v (least_offer xs)
least_offer-set (x ∷ xs) (suc i) p v h e = ap (lesser x.offered) (least_offer-set xs i p v (omega arith) e) ∙ lesser-assoc x.offered (least_offer xs) v

pub least_offer-same : (ps : List BoundsPart) (i : ℕ) (p : BoundsPart) → p.offered ≡ (get_or ps i no_bounds).offered → least_offer (set ps i p) ≡ least_offer ps
least_offer-same [] i p e = refl
least_offer-same (x ∷ xs) zero p e = ap (λ (o : Bound). lesser o (least_offer xs)) e
least_offer-same (x ∷ xs) (suc i) p e = ap (lesser x.offered) (least_offer-same xs i p e)

raised_above-raised : (o : Option Bound) (v b : Bound) → raised_above (raised_to o v) b ≡ greater (raised_above o b) v
raised_above-raised None v b = greater-swap v b
raised_above-raised (Some a) v b = greater-exchange a v b

raised_above-greater : (o : Option Bound) (b v : Bound) → raised_above o (greater b v) ≡ greater (raised_above o b) v
raised_above-greater None b v = refl
raised_above-greater (Some a) b v = greater-assoc a b v

pub greatest_raise-set : (start : Bound) (ps : List BoundsPart) (i : ℕ) (p : BoundsPart) (v : Bound) → i < length ps → p.raised ≡ raised_to (get_or ps i no_bounds).raised v → greatest_raise start (set ps i p) ≡ greater (greatest_raise start ps) v
greatest_raise-set start [] i p v h e = absurd (omega arith)
greatest_raise-set start (x ∷ xs) zero p v h e = ap (λ (o : Option Bound). raised_above o (greatest_raise start xs)) e ∙ raised_above-raised x.raised v (greatest_raise start xs)
greatest_raise-set start (x ∷ xs) (suc i) p v h e = ap (raised_above x.raised) (greatest_raise-set start xs i p v (omega arith) e) ∙ raised_above-greater x.raised (greatest_raise start xs) v

pub greatest_raise-same : (start : Bound) (ps : List BoundsPart) (i : ℕ) (p : BoundsPart) → p.raised ≡ (get_or ps i no_bounds).raised → greatest_raise start (set ps i p) ≡ greatest_raise start ps
greatest_raise-same start [] i p e = refl
greatest_raise-same start (x ∷ xs) zero p e = ap (λ (o : Option Bound). raised_above o (greatest_raise start xs)) e
greatest_raise-same start (x ∷ xs) (suc i) p e = ap (raised_above x.raised) (greatest_raise-same start xs i p e)

-- A step of one actor on the bounds, which never rise above what an actor saw, or fall below it.
moved : (m : CpModel) (s : BoundsState) (i : ℕ) (p : BoundsPart) (u l : Bound) → IsSoundBounds m s → i < length s.parts → u ≡ least_offer (set s.parts i p) → l ≡ greatest_raise (At (objective_start m)) (set s.parts i p)
    → BoundLe u s.upper → BoundLe s.lower l → BoundLe u p.saw_upper → IsNoLower p.saw_lower l → IsIncumbent m u → IsLowerBound m l → IsSoundBounds m record { upper = u; lower = l; parts = set s.parts i p }
moved m s i p u l k h offers raises down up saw_u saw_l shown floor =
    let mine : (j : ℕ) → j ≡ i → get_or (set s.parts i p) j no_bounds ≡ p = λ j e. ap (λ (n : ℕ). get_or (set s.parts i p) n no_bounds) e ∙ get_or-set_same s.parts i p no_bounds h in
    let others : (j : ℕ) → j ≢ i → get_or (set s.parts i p) j no_bounds ≡ get_or s.parts j no_bounds = λ j n. get_or-set_other s.parts i j p no_bounds n in record {
      upper = offers;
      shown = shown;
      lower = raises;
      floor = floor;
      saw_upper = λ j. dite (ℕ_discrete j i) (λ e. subst (λ (q : BoundsPart). BoundLe u q.saw_upper) (sym (mine j e)) saw_u)
          (λ n. subst (λ (q : BoundsPart). BoundLe u q.saw_upper) (sym (others j n)) (BoundLe-trans u s.upper (bounds_part s j).saw_upper down (k.saw_upper j)));
      saw_lower = λ j. dite (ℕ_discrete j i) (λ e. subst (λ (q : BoundsPart). IsNoLower q.saw_lower l) (sym (mine j e)) saw_l)
          (λ n. subst (λ (q : BoundsPart). IsNoLower q.saw_lower l) (sym (others j n)) (IsNoLower-trans (bounds_part s j).saw_lower s.lower l (k.saw_lower j) up));
    }

pub attained_shown : (m : CpModel) (v : ℤ) → IsAttained m v → IsIncumbent m (At v)
unfolding IsIncumbent
attained_shown m v h = h

module _ (m : CpModel) (s : BoundsState) (i : ℕ) (k : IsSoundBounds m s) (h : i < length s.parts) where
  pub keeps_offer : (v : ℤ) → IsAttained m v → IsSoundBounds m (bounds_after s i (Offer v))
  keeps_offer v shown =
      let p : BoundsPart = after_offer (bounds_part s i) (At v) (lesser s.upper (At v)) in
      moved m s i p (lesser s.upper (At v)) s.lower k h (ap (λ (b : Bound). lesser b (At v)) k.upper ∙ sym (least_offer-set s.parts i p (At v) h refl)) (k.lower ∙ sym (greatest_raise-same (At (objective_start m)) s.parts i p refl))
      (lesser-first s.upper (At v)) (BoundLe-refl s.lower) (BoundLe-refl (lesser s.upper (At v))) (k.saw_lower i) (lesser_is (IsIncumbent m) s.upper (At v) k.shown (attained_shown m v shown)) k.floor

  pub keeps_raise : (l : Bound) → IsLowerBound m l → IsSoundBounds m (bounds_after s i (Raise l))
  keeps_raise l floor =
      let p : BoundsPart = after_raise (bounds_part s i) l (greater s.lower l) in
      moved m s i p s.upper (greater s.lower l) k h (k.upper ∙ sym (least_offer-same s.parts i p refl)) (ap (λ (b : Bound). greater b l) k.lower ∙ sym (greatest_raise-set (At (objective_start m)) s.parts i p l h refl))
      (BoundLe-refl s.upper) (greater-first s.lower l) (k.saw_upper i) (BoundLe-refl (greater s.lower l)) k.shown (greater_is (IsLowerBound m) s.lower l k.floor floor)

  pub keeps_upper : IsSoundBounds m (bounds_after s i SeeUpper)
  keeps_upper =
      let p : BoundsPart = after_upper (bounds_part s i) s.upper (counted (bounds_part s i).upper_loads) in
      moved m s i p s.upper s.lower k h (k.upper ∙ sym (least_offer-same s.parts i p refl)) (k.lower ∙ sym (greatest_raise-same (At (objective_start m)) s.parts i p refl))
      (BoundLe-refl s.upper) (BoundLe-refl s.lower) (BoundLe-refl s.upper) (k.saw_lower i) k.shown k.floor

  pub keeps_lower : IsSoundBounds m (bounds_after s i SeeLower)
  keeps_lower =
      let p : BoundsPart = after_lower (bounds_part s i) s.lower (counted (bounds_part s i).lower_loads) in
      moved m s i p s.upper s.lower k h (k.upper ∙ sym (least_offer-same s.parts i p refl)) (k.lower ∙ sym (greatest_raise-same (At (objective_start m)) s.parts i p refl))
      (BoundLe-refl s.upper) (BoundLe-refl s.lower) (k.saw_upper i) (BoundLe-refl s.lower) k.shown k.floor
