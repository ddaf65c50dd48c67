-- Products of numbers that lie between others.
use Rattle.std.proofs.Common.{◌+◌, ◌^◌, ◌≤◌, ℤ, pos, negsuc, ◌-ℤ◌, ◌*ℤ◌, ◌≤ℤ◌, ◌≡◌, ◌⊎◌, inl, inr, refl, ◌∙◌, ap, arith, FitsSigned, w64}
use Rattle.std.specs.Prelude.{unsigned_abs}
use Rattle.std.proofs.lemmas.Int.{ints, by_lt_z, fits_signed_mul, fits_signed_from_abs}
use Rattle.std.proofs.Math.IntN.{*ℤ_comm}
use mir.Syntax.{w128}
use Rattle.cps_domain.proofs.Products.{times_grows, times_shrinks}
use Rattle.cps_p_arith.specs.declared.ends.Ends.{Ends}
use Rattle.cps_p_arith.specs.declared.range.Range.{Range}
use Rattle.cps_p_arith.specs.Products.{IsCorner}
use Rattle.cps_p_arith.specs.Ranges.{IsBetween, IsBoth}

pub number_size : (n : ℤ) → FitsSigned w64 n → unsigned_abs n ≤ 2 ^ 63
number_size (pos n) f = let g = f.sfits in omega (arith, ints)
number_size (negsuc n) f = let g = f.sfits in omega (arith, ints)

pub fits_wider : (n : ℤ) → FitsSigned w64 n → FitsSigned w128 n
fits_wider n f = fits_signed_from_abs w128 n (let s = number_size n f in omega arith)

pub opposite_fits : (n : ℤ) → FitsSigned w64 n → FitsSigned w128 (pos 0 -ℤ n)
opposite_fits n f = fits_signed_from_abs w128 (pos 0 -ℤ n) (let s = number_size n f in omega (arith, ints))

pub scaled_fits : (n l : ℤ) → FitsSigned w64 n → unsigned_abs l ≤ 2 ^ 63 + 8 → FitsSigned w128 (n *ℤ l)
scaled_fits n l f h = fits_signed_mul w128 n l (2 ^ 63) (2 ^ 63 + 8) (number_size n f) h (omega arith)

pub scaled_up : (n l h y : ℤ) → pos 0 ≤ℤ n → IsBetween l h y → IsBetween (n *ℤ l) (n *ℤ h) (n *ℤ y)
scaled_up n l h y p b = record { from = times_grows n l y p b.from; to = times_grows n y h p b.to }

pub scaled_down : (n l h y : ℤ) → n ≤ℤ pos 0 → IsBetween l h y → IsBetween (n *ℤ h) (n *ℤ l) (n *ℤ y)
scaled_down n l h y p b = record { from = times_shrinks n y h p b.to; to = times_shrinks n l y p b.from }

pub scaled_both : (n l h y : ℤ) → IsBoth l h y → IsBoth (n *ℤ l) (n *ℤ h) (n *ℤ y)
scaled_both n l h y b = record { from = ap (λ z. n *ℤ z) b.from; to = ap (λ z. n *ℤ z) b.to }

pub scaled_back : (n l h y : ℤ) → IsBoth l h y → IsBoth (n *ℤ h) (n *ℤ l) (n *ℤ y)
scaled_back n l h y b = record { from = ap (λ z. n *ℤ z) b.to; to = ap (λ z. n *ℤ z) b.from }

-- a product lies between those of the ends of one factor
pub times_between : (a b x y al ah bl bh l h : ℤ) → IsBetween a b x → IsBetween al ah (a *ℤ y) → IsBetween bl bh (b *ℤ y)
    → l ≤ℤ al → ah ≤ℤ h → l ≤ℤ bl → bh ≤ℤ h → IsBetween l h (x *ℤ y)
times_between a b x y al ah bl bh l h i p q al' ah' bl' bh' =
    let ca = *ℤ_comm a y in
    let cb = *ℤ_comm b y in
    let cx = *ℤ_comm x y in
    let pf = p.from in
    let pt = p.to in
    let qf = q.from in
    let qt = q.to in
    by_lt_z y (pos 0)
    (λ less.
    let g = times_shrinks y a x (omega (arith, ints)) i.from in
    let k = times_shrinks y x b (omega (arith, ints)) i.to in
    record { from = omega (arith, ints); to = omega (arith, ints) })
    (λ more.
    let g = times_grows y a x more i.from in
    let k = times_grows y x b more i.to in
    record { from = omega (arith, ints); to = omega (arith, ints) })

pub times_both : (a b x y : ℤ) → IsBoth a b x → (n : ℤ) → n ≡ a → n *ℤ y ≡ x *ℤ y
times_both a b x y i n e = ap (λ z. z *ℤ y) (e ∙ i.from)

pub fits_between : (l h v : ℤ) → FitsSigned w64 l → FitsSigned w64 h → IsBetween l h v → FitsSigned w64 v
fits_between l h v fl fh b =
    let sl = number_size l fl in
    let from = b.from in
    let to = b.to in
    fits_between' l h v fl fh from to
  where
    fits_between' : (a b v : ℤ) → FitsSigned w64 a → FitsSigned w64 b → a ≤ℤ v → v ≤ℤ b → FitsSigned w64 v
    fits_between' a (pos b) (pos v) fa fb p q = fits_signed_from_abs w64 (pos v) (let g = fb.sfits in omega (arith, ints))
    fits_between' a (negsuc b) (pos v) fa fb p q = absurd (omega (arith, ints))
    fits_between' (pos a) b (negsuc v) fa fb p q = absurd (omega (arith, ints))
    fits_between' (negsuc a) b (negsuc v) fa fb p q = record { sfits = (let g = fa.sfits in omega (arith, ints)) }

-- the least and the greatest of the products of ends are products of ends
pub corner : (e : Ends) (r : Range) (z a b : ℤ) → (z ≡ a) ⊎ (z ≡ b) → (a ≡ e.low *ℤ r.low) ⊎ (a ≡ e.low *ℤ r.high) → (b ≡ e.high *ℤ r.low) ⊎ (b ≡ e.high *ℤ r.high) → IsCorner e r z
corner e r z a b (inl p) (inl q) k = record { x = e.low; y = r.low; of_factor = inl refl; of_range = inl refl; is = p ∙ q }
corner e r z a b (inl p) (inr q) k = record { x = e.low; y = r.high; of_factor = inl refl; of_range = inr refl; is = p ∙ q }
corner e r z a b (inr p) q (inl k) = record { x = e.high; y = r.low; of_factor = inr refl; of_range = inl refl; is = p ∙ k }
corner e r z a b (inr p) q (inr k) = record { x = e.high; y = r.high; of_factor = inr refl; of_range = inr refl; is = p ∙ k }
