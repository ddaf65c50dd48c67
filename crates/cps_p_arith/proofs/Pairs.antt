-- Quotients between ends.
use Rattle.std.proofs.Common.{zero, suc, ◌+◌, ◌^◌, ◌≤◌, ℤ, pos, negsuc, neg_ℤ, ◌+ℤ◌, ◌*ℤ◌, ◌<ℤ◌, ◌≡◌, ◌≢◌, refl, arith, List, [], ◌∷◌, length, get_or, FitsSigned, w64, All}
use Rattle.std.specs.Prelude.{unsigned_abs, int_div}
use Rattle.std.proofs.lemmas.Int.{ints, by_lt_z, fits_signed_mul, fits_signed_from_abs}
use Rattle.std.proofs.Math.Nat.{div-le_self}
use mir.Syntax.{w128}
use Rattle.cps_domain.proofs.Products.{size_div}
use Rattle.cps_model.specs.Arithmetic.{IsQuotient}
use Rattle.cps_p_arith.specs.declared.ends.Ends.{Ends}
use Rattle.cps_propagate.specs.Arithmetic.{MayDivide}
use Rattle.cps_p_arith.specs.Demands.{MayDivideEach}
use Rattle.cps_p_arith.specs.Ranges.{IsBetween, IsIn, IsAt, AreIn, AreAt, IsOrdered}
use Rattle.cps_p_arith.specs.Divisions.{IsDivided}
use Rattle.cps_p_arith.proofs.Scaling.{number_size}

pub product_fits : (a b : ℤ) → unsigned_abs a ≤ 2 ^ 63 + 9 → unsigned_abs b ≤ 2 ^ 63 + 8 → FitsSigned w128 (a *ℤ b)
product_fits a b p q = fits_signed_mul w128 a b (2 ^ 63 + 9) (2 ^ 63 + 8) p q (omega arith)

pub quotient_fits : (n d : ℤ) → FitsSigned w64 n → FitsSigned w128 (int_div n d)
quotient_fits n d f = fits_signed_from_abs w128 (int_div n d) (let s = number_size n f in let e = size_div n d in let l = div-le_self (unsigned_abs n) (unsigned_abs d) in omega arith)

-- none of either sign
pub missed : (n d q r : ℤ) (e f g h : ℤ) → ((p : pos 0 <ℤ d) → ⊥) → ((p : pos 0 <ℤ neg_ℤ d) → ⊥) → IsDivided n d q r → ⊥
missed n d q r e f g h a b k =
    by_lt_z (pos 0) d a (λ low. by_lt_z d (pos 0) (λ l. b (omega (arith, ints)))
    (λ high. let z : d ≡ pos 0 = omega (arith, ints) in let less = rw z at k.less in absurd (omega arith)))

pub of_two : (es : List Ends) (ns : List ℤ) (v : ℤ) (a b : Ends) → length es ≡ 2 → AreIn es ns → IsQuotient v ns
    → ((n d : ℤ) → IsIn (get_or es 0 a) n → IsIn (get_or es 1 b) d → d ≢ pos 0 → v ≡ int_div n d → ⊥) → ⊥
of_two [] ns v a b l h q k = absurd (omega arith)
of_two (e ∷ []) ns v a b l h q k = absurd (omega arith)
of_two (e ∷ f ∷ []) [] v a b l h q k = absurd h
of_two (e ∷ f ∷ []) (n ∷ []) v a b l h q k = absurd q
of_two (e ∷ f ∷ []) (n ∷ d ∷ []) v a b l h q k = k n d h.0 h.1.0 q.0 q.1
of_two (e ∷ f ∷ []) (n ∷ d ∷ m ∷ ns) v a b l h q k = absurd q
of_two (e ∷ f ∷ g ∷ es) ns v a b l h q k = absurd (omega arith)

pub not_two : (es : List Ends) (ns : List ℤ) (v : ℤ) → (length es ≡ 2 → ⊥) → AreIn es ns → IsQuotient v ns → ⊥
not_two [] [] v l h q = q
not_two [] (n ∷ ns) v l h q = absurd h
not_two (e ∷ es) [] v l h q = q
not_two (e ∷ []) (n ∷ []) v l h q = q
not_two (e ∷ []) (n ∷ m ∷ ns) v l h q = absurd h.1
not_two (e ∷ f ∷ es) (n ∷ []) v l h q = q
not_two (e ∷ f ∷ []) (n ∷ d ∷ ns) v l h q = absurd (l refl)
not_two (e ∷ f ∷ g ∷ es) (n ∷ d ∷ []) v l h q = absurd h.1.1
not_two (e ∷ f ∷ g ∷ es) (n ∷ d ∷ m ∷ ns) v l h q = q

pub at_two : (es : List Ends) (ns : List ℤ) (v : ℤ) (a b : Ends) → length es ≡ 2 → AreAt es ns
    → ((n d : ℤ) → IsAt (get_or es 0 a) n → IsAt (get_or es 1 b) d → (d ≢ pos 0) × (v ≡ int_div n d)) → IsQuotient v ns
at_two [] ns v a b l h k = absurd (omega arith)
at_two (e ∷ []) ns v a b l h k = absurd (omega arith)
at_two (e ∷ f ∷ []) [] v a b l h k = absurd h
at_two (e ∷ f ∷ []) (n ∷ []) v a b l h k = absurd h.1
at_two (e ∷ f ∷ []) (n ∷ d ∷ []) v a b l h k = k n d h.0 h.1.0
at_two (e ∷ f ∷ []) (n ∷ d ∷ m ∷ ns) v a b l h k = absurd h.1.1
at_two (e ∷ f ∷ g ∷ es) ns v a b l h k = absurd (omega arith)

pub one_value : (l h n : ℤ) → l ≡ h → IsBetween l h n → n ≡ l
one_value l h n e b = let f = b.from in let t = b.to in omega (arith, ints)

pub next_size : (t : ℤ) → unsigned_abs t ≤ 2 ^ 63 + 8 → unsigned_abs (t +ℤ pos 1) ≤ 2 ^ 63 + 9
next_size (pos n) h = omega (arith, ints)
next_size (negsuc zero) h = omega (arith, ints)
next_size (negsuc (suc n)) h = omega (arith, ints)

pub next_fits : (t : ℤ) → unsigned_abs t ≤ 2 ^ 63 + 8 → FitsSigned w128 (t +ℤ pos 1)
next_fits t h = fits_signed_from_abs w128 (t +ℤ pos 1) (let s = next_size t h in omega arith)

pub divide_two : (es : List Ends) (t a b : Ends) → length es ≡ 2 → (IsOrdered (get_or es 0 a) → MayDivide (IsIn (get_or es 0 a)) (IsIn (get_or es 1 b)) (IsIn t)) → All IsOrdered es → MayDivideEach t es
divide_two [] t a b l h o = absurd (omega arith)
divide_two (e ∷ []) t a b l h o = absurd (omega arith)
divide_two (e ∷ f ∷ []) t a b l h o = h (o 0 a (omega arith))
divide_two (e ∷ f ∷ g ∷ es) t a b l h o = absurd (omega arith)
