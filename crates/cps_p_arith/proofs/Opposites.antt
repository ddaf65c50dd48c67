-- Products of numbers by their signs.
use Rattle.std.proofs.Common.{zero, suc, ℤ, pos, negsuc, neg_ℤ, ◌*ℤ◌, ◌≤ℤ◌, ◌<ℤ◌, ◌≡◌, ◌≢◌, ◌⊎◌, inl, inr, refl, ◌∙◌, ap, subst, arith, List, [], ◌∷◌, length, get_or}
use Rattle.std.proofs.lemmas.Int.{ints}
use Rattle.std.proofs.Math.IntN.{*ℤ_comm}
use Rattle.cps_domain.proofs.Products.{times_grows}
use Rattle.cps_model.specs.Arithmetic.{product, IsProduct}
use Rattle.cps_p_arith.specs.declared.ends.Ends.{Ends}
use Rattle.cps_p_arith.specs.Ranges.{IsBetween, IsIn, AreIn}

pub product_below : (x y a b t : ℤ) → pos 0 ≤ℤ x → x ≤ℤ a → y ≤ℤ b → pos 0 ≤ℤ b → (a *ℤ b) <ℤ t → (x *ℤ y) <ℤ t
product_below x y a b t px xa yb pb short =
    let one = times_grows x y b px yb in
    let other = times_grows b x a pb xa in
    let cx = *ℤ_comm x b in
    let ca = *ℤ_comm a b in
    omega (arith, ints)

pub product_above : (x y a b t : ℤ) → pos 0 ≤ℤ x → a ≤ℤ x → b ≤ℤ y → pos 1 ≤ℤ b → t <ℤ (a *ℤ b) → t <ℤ (x *ℤ y)
product_above x y a b t px ax over pb past =
    let one = times_grows x b y px over in
    let other = times_grows b a x (omega (arith, ints)) ax in
    let cx = *ℤ_comm x b in
    let ca = *ℤ_comm a b in
    omega (arith, ints)

pub not_positive : (x : ℤ) → x ≤ℤ pos 0 → x ≢ pos 0 → pos 1 ≤ℤ neg_ℤ x
not_positive (pos zero) h n = absurd (n refl)
not_positive (pos (suc a)) h n = absurd (omega (arith, ints))
not_positive (negsuc a) h n = omega (arith, ints)

turned_times : (x y : ℤ) → (neg_ℤ x *ℤ y) ≡ neg_ℤ (x *ℤ y)
turned_times (pos a) (pos b) = grind (arith, ints)
turned_times (pos a) (negsuc b) = grind (arith, ints)
turned_times (negsuc a) (pos b) = grind (arith, ints)
turned_times (negsuc a) (negsuc b) = grind (arith, ints)

pub turned_left : (l h tl th x y : ℤ) → tl ≡ neg_ℤ h → th ≡ neg_ℤ l → IsBetween l h (x *ℤ y) → IsBetween tl th (neg_ℤ x *ℤ y)
turned_left l h tl th x y el eh b =
    let e = turned_times x y in
    let from = b.from in
    let to = b.to in
    record { from = omega (arith, ints); to = omega (arith, ints) }

pub turned_right : (l h tl th x y : ℤ) → tl ≡ neg_ℤ h → th ≡ neg_ℤ l → IsBetween l h (x *ℤ y) → IsBetween tl th (x *ℤ neg_ℤ y)
turned_right l h tl th x y el eh b =
    let e = turned_times y x in
    let cy = *ℤ_comm y x in
    let cx = *ℤ_comm x (neg_ℤ y) in
    let from = b.from in
    let to = b.to in
    record { from = omega (arith, ints); to = omega (arith, ints) }

-- the factors of a product that is not 0
no_zero : (l h z : ℤ) → (pos 0 <ℤ l) ⊎ (h <ℤ pos 0) → IsBetween l h z → z ≢ pos 0
no_zero l h z (inl o) b e = let from = b.from in absurd (omega (arith, ints))
no_zero l h z (inr o) b e = let to = b.to in absurd (omega (arith, ints))

pub left_nonzero : (l h x y : ℤ) → (pos 0 <ℤ l) ⊎ (h <ℤ pos 0) → IsBetween l h (x *ℤ y) → x ≢ pos 0
left_nonzero l h x y o b e = no_zero l h (x *ℤ y) o b (ap (λ (a : ℤ). a *ℤ y) e ∙ (let z : (pos 0 *ℤ y) ≡ pos 0 = omega (arith, ints) in z))

pub right_nonzero : (l h x y : ℤ) → (pos 0 <ℤ l) ⊎ (h <ℤ pos 0) → IsBetween l h (x *ℤ y) → y ≢ pos 0
right_nonzero l h x y o b e = no_zero l h (x *ℤ y) o b (ap (λ (a : ℤ). x *ℤ a) e ∙ (let z : (x *ℤ pos 0) ≡ pos 0 = omega (arith, ints) in z))

product_two : (x y : ℤ) → product (x ∷ y ∷ []) ≡ x *ℤ y
product_two x y = ap (λ (a : ℤ). x *ℤ a) (let one : (y *ℤ pos 1) ≡ y = omega (arith, ints) in one)

pub of_two_factors : (es : List Ends) (ns : List ℤ) (v : ℤ) (t a b : Ends) → length es ≡ 2 → IsIn t v → AreIn es ns → IsProduct v ns
    → ((x y : ℤ) → IsIn (get_or es 0 a) x → IsIn (get_or es 1 b) y → IsIn t (x *ℤ y) → ⊥) → ⊥
of_two_factors [] ns v t a b l i h p k = absurd (omega arith)
of_two_factors (e ∷ []) ns v t a b l i h p k = absurd (omega arith)
of_two_factors (e ∷ f ∷ []) [] v t a b l i h p k = absurd h
of_two_factors (e ∷ f ∷ []) (x ∷ []) v t a b l i h p k = absurd h.1
of_two_factors (e ∷ f ∷ []) (x ∷ y ∷ []) v t a b l i h p k = k x y h.0 h.1.0 (subst (IsIn t) (p ∙ product_two x y) i)
of_two_factors (e ∷ f ∷ []) (x ∷ y ∷ z ∷ ns) v t a b l i h p k = absurd h.1.1
of_two_factors (e ∷ f ∷ g ∷ es) ns v t a b l i h p k = absurd (omega arith)
