-- Lists of two numbers, of which the first is divided by the second.
use Rattle.std.specs.Prelude.{◌↔◌, int_div, IsTrue}
use Rattle.std.proofs.Common.{◌≡◌, ◌≢◌, ℤ, pos, ◌-ℤ◌, ◌*ℤ◌, Bool, false, List, [], ◌∷◌, length, get_or, arith}
use Rattle.cps_model.specs.Arithmetic.{IsQuotient, IsRemainder}

pub quotient_of_two : (q : ℤ) (ns : List ℤ) (b : Bool) → length ns ≡ 2 → IsTrue b ↔ ((get_or ns 1 (pos 0) ≢ pos 0) × (q ≡ int_div (get_or ns 0 (pos 0)) (get_or ns 1 (pos 0)))) → IsTrue b ↔ IsQuotient q ns
quotient_of_two q [] b l h = absurd (omega arith)
quotient_of_two q (n ∷ []) b l h = absurd (omega arith)
quotient_of_two q (n ∷ d ∷ []) b l h = h
quotient_of_two q (n ∷ d ∷ m ∷ ns) b l h = absurd (omega arith)

pub remainder_of_two : (r : ℤ) (ns : List ℤ) (b : Bool) → length ns ≡ 2 → IsTrue b ↔ ((get_or ns 1 (pos 0) ≢ pos 0) × (r ≡ get_or ns 0 (pos 0) -ℤ get_or ns 1 (pos 0) *ℤ int_div (get_or ns 0 (pos 0)) (get_or ns 1 (pos 0)))) → IsTrue b ↔ IsRemainder r ns
remainder_of_two r [] b l h = absurd (omega arith)
remainder_of_two r (n ∷ []) b l h = absurd (omega arith)
remainder_of_two r (n ∷ d ∷ []) b l h = h
remainder_of_two r (n ∷ d ∷ m ∷ ns) b l h = absurd (omega arith)

-- other lists have none
pub remainder_of_others : (r : ℤ) (ns : List ℤ) → length ns ≢ 2 → IsTrue false ↔ IsRemainder r ns
remainder_of_others r [] l = (λ t. cc, λ h. absurd h)
remainder_of_others r (n ∷ []) l = (λ t. cc, λ h. absurd h)
remainder_of_others r (n ∷ d ∷ []) l = absurd (omega arith)
remainder_of_others r (n ∷ d ∷ m ∷ ns) l = (λ t. cc, λ h. absurd h)
