-- What division leaves.
use Rattle.std.proofs.Common.{◌+◌, ◌^◌, ◌≤◌, ℕ, ℤ, pos, negsuc, ◌+ℤ◌, ◌-ℤ◌, ◌*ℤ◌, ◌≤ℤ◌, ◌<ℤ◌, ◌≡◌, ◌≢◌, ◌∙◌, refl, sym, arith, List, [], ◌∷◌, length, get_or, FitsSigned, w64}
use Rattle.std.specs.Prelude.{unsigned_abs, int_div, int_rem}
use Rattle.std.proofs.lemmas.Int.{ints, by_lt_z, quot-rem, fits_signed_from_abs}
use Rattle.std.proofs.Math.IntN.{*ℤ_comm}
use Rattle.std.proofs.Math.Nat.{div-le_self}
use mir.Syntax.{w128}
use Rattle.cps_domain.proofs.Products.{times_grows, next_times, size_div}
use Rattle.cps_model.specs.Arithmetic.{IsQuotient, IsRemainder}
use Rattle.cps_model.proofs.Division.{rest_is, rest_less, rest_positive}
use Rattle.cps_p_arith.specs.declared.ends.Ends.{Ends}
use Rattle.cps_p_arith.specs.Ranges.{IsIn, IsAt, AreIn, AreAt}
use Rattle.cps_p_arith.specs.Divisions.{IsDivided}
use Rattle.cps_p_arith.proofs.Scaling.{number_size}
use Rattle.cps_p_arith.proofs.Dividing.{below}
use Rattle.cps_p_arith.proofs.Pairs.{not_two}

-- a number that reaches a multiple of each divisor has no lesser quotient
pub not_below : (k low most n d q r : ℤ) → pos 0 ≤ℤ k → pos 1 ≤ℤ d → d ≤ℤ most → (k *ℤ most) ≤ℤ low → low ≤ℤ n → IsDivided n d q r → k ≤ℤ q
not_below k low most n d q r pk pd dm reach ln h =
    let grown = times_grows k d most pk dm in
    let less = below r d pd h.less in
    let sum = h.sum in
    by_lt_z q k
    (λ short.
    let g = times_grows d (q +ℤ pos 1) k (omega (arith, ints)) (omega (arith, ints)) in
    let cq = *ℤ_comm d (q +ℤ pos 1) in
    let ck = *ℤ_comm d k in
    let next = next_times q d in
    absurd (omega (arith, ints)))
    (λ past. past)

-- and one that does not reach the next multiple and a rest has no greater one
pub not_past : (k least rest high n d q r : ℤ) → pos 0 ≤ℤ k → pos 1 ≤ℤ d → least ≤ℤ d → (high -ℤ rest) <ℤ ((k +ℤ pos 1) *ℤ least) → n ≤ℤ high → rest ≤ℤ r → IsDivided n d q r → q ≤ℤ k
not_past k least rest high n d q r pk pd ld short nh rr h =
    let grown = times_grows (k +ℤ pos 1) least d (omega (arith, ints)) ld in
    let sum = h.sum in
    by_lt_z k q
    (λ past.
    let g = times_grows d (k +ℤ pos 1) q (omega (arith, ints)) (omega (arith, ints)) in
    let ck = *ℤ_comm d (k +ℤ pos 1) in
    let cq = *ℤ_comm d q in
    absurd (omega (arith, ints)))
    (λ less. less)

-- a quotient needs more than there is, or leaves more than there may be
pub needs_more : (k least rest high n d r : ℤ) → pos 0 ≤ℤ k → least ≤ℤ d → (high -ℤ rest) <ℤ (k *ℤ least) → n ≤ℤ high → rest ≤ℤ r → IsDivided n d k r → ⊥
needs_more k least rest high n d r pk ld short nh rr h =
    let grown = times_grows k least d pk ld in
    let sum = h.sum in
    omega (arith, ints)

pub leaves_more : (k most rest low n d r : ℤ) → pos 0 ≤ℤ k → d ≤ℤ most → (k *ℤ most) <ℤ (low -ℤ rest) → low ≤ℤ n → r ≤ℤ rest → IsDivided n d k r → ⊥
leaves_more k most rest low n d r pk dm short ln rr h =
    let grown = times_grows k d most pk dm in
    let sum = h.sum in
    omega (arith, ints)

pub same_quotient : (k q : ℤ) → k ≤ℤ q → q ≤ℤ k → q ≡ k
same_quotient k q a b = omega (arith, ints)

-- the quotient of a number that is not negative by a positive one
pub quotient_from : (n d : ℤ) → pos 0 ≤ℤ n → pos 1 ≤ℤ d → pos 0 ≤ℤ int_div n d
quotient_from (pos a) (pos b) p q = omega (arith, ints)
quotient_from (pos a) (negsuc b) p q = absurd (omega (arith, ints))
quotient_from (negsuc a) d p q = absurd (omega (arith, ints))

pub quotient_reached : (n d : ℤ) → pos 0 ≤ℤ n → (int_div n d *ℤ d) ≤ℤ n
quotient_reached n d p = let sum = quot-rem n d in let rest = rest_positive n d p in omega (arith, ints)

pub quotient_next : (n d : ℤ) → pos 1 ≤ℤ d → n <ℤ ((int_div n d +ℤ pos 1) *ℤ d)
quotient_next n d p =
    let sum = quot-rem n d in
    let less = below (int_rem n d) d p (rest_less n d (λ e. absurd (omega (arith, ints)))) in
    let next = next_times (int_div n d) d in
    omega (arith, ints)

pub quotient_size : (n d : ℤ) (m : ℕ) → unsigned_abs n ≤ m → unsigned_abs (int_div n d) ≤ m
quotient_size n d m h = let e = size_div n d in let l = div-le_self (unsigned_abs n) (unsigned_abs d) in omega arith

pub small_fits : (n : ℤ) → unsigned_abs n ≤ 2 ^ 63 + 8 → FitsSigned w128 n
small_fits n h = fits_signed_from_abs w128 n (omega arith)

pub gap_fits : (a b : ℤ) → unsigned_abs a ≤ 2 ^ 63 + 8 → unsigned_abs b ≤ 2 ^ 63 + 8 → FitsSigned w128 (a -ℤ b)
gap_fits a b p q = fits_signed_from_abs w128 (a -ℤ b) (omega (arith, ints))

pub rest_fits : (n d : ℤ) → FitsSigned w64 d → d ≢ pos 0 → FitsSigned w128 (int_rem n d)
rest_fits n d f h = fits_signed_from_abs w128 (int_rem n d) (let l = rest_less n d h in let s = number_size d f in omega arith)

-- lists of two
quotient_beside : (v : ℤ) (ns : List ℤ) → IsRemainder v ns → ((q : ℤ) × IsQuotient q ns)
quotient_beside v [] h = absurd h
quotient_beside v (n ∷ []) h = absurd h
quotient_beside v (n ∷ d ∷ []) h = (int_div n d, (h.0, refl))
quotient_beside v (n ∷ d ∷ m ∷ ns) h = absurd h

pub not_two_left : (es : List Ends) (ns : List ℤ) (v : ℤ) → (length es ≡ 2 → ⊥) → AreIn es ns → IsRemainder v ns → ⊥
not_two_left es ns v l h r = let q = quotient_beside v ns r in not_two es ns q.0 l h q.1

pub of_two_left : (es : List Ends) (ns : List ℤ) (v : ℤ) (a b : Ends) → length es ≡ 2 → AreIn es ns → IsRemainder v ns
    → ((n d : ℤ) → IsIn (get_or es 0 a) n → IsIn (get_or es 1 b) d → d ≢ pos 0 → v ≡ int_rem n d → ⊥) → ⊥
of_two_left [] ns v a b l h q k = absurd (omega arith)
of_two_left (e ∷ []) ns v a b l h q k = absurd (omega arith)
of_two_left (e ∷ f ∷ []) [] v a b l h q k = absurd h
of_two_left (e ∷ f ∷ []) (n ∷ []) v a b l h q k = absurd q
of_two_left (e ∷ f ∷ []) (n ∷ d ∷ []) v a b l h q k = k n d h.0 h.1.0 q.0 (q.1 ∙ rest_is n d)
of_two_left (e ∷ f ∷ []) (n ∷ d ∷ m ∷ ns) v a b l h q k = absurd q
of_two_left (e ∷ f ∷ g ∷ es) ns v a b l h q k = absurd (omega arith)

pub at_two_left : (es : List Ends) (ns : List ℤ) (v : ℤ) (a b : Ends) → length es ≡ 2 → AreAt es ns
    → ((n d : ℤ) → IsAt (get_or es 0 a) n → IsAt (get_or es 1 b) d → (d ≢ pos 0) × (v ≡ int_rem n d)) → IsRemainder v ns
at_two_left [] ns v a b l h k = absurd (omega arith)
at_two_left (e ∷ []) ns v a b l h k = absurd (omega arith)
at_two_left (e ∷ f ∷ []) [] v a b l h k = absurd h
at_two_left (e ∷ f ∷ []) (n ∷ []) v a b l h k = absurd h.1
at_two_left (e ∷ f ∷ []) (n ∷ d ∷ []) v a b l h k = let w = k n d h.0 h.1.0 in (w.0, w.1 ∙ sym (rest_is n d))
at_two_left (e ∷ f ∷ []) (n ∷ d ∷ m ∷ ns) v a b l h k = absurd h.1.1
at_two_left (e ∷ f ∷ g ∷ es) ns v a b l h k = absurd (omega arith)
