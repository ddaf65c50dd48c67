-- What is handed to a step on the words, and what its answer is.
use Rattle.std.proofs.Common.{◌≡◌, ℕ, ◌≤◌, min, max, ℤ, arith, sym, ap, ◌∙◌, subst}
use Rattle.cps_model.specs.declared.bound.Bound.{Bound}
use Rattle.cps_model.specs.declared.bound.Bound.TheVariants.{At}
use Rattle.cps_model.specs.declared.model.CpModel.{CpModel}
use Rattle.cps_model.specs.Validity.{IsValid}
use Rattle.cps_port.specs.Order.{IsSmallBound, lesser, greater}
use Rattle.cps_port.specs.Incumbents.{IsAttained, IsIncumbent, IsLowerBound}
use Rattle.cps_port.specs.Words.{top, word_of, bound_of, HasWord}
use Rattle.cps_port.proofs.Attained.{attained_small}
use Rattle.cps_port.proofs.BoundLaws.{attained_shown, lesser_is, greater_is}
use Rattle.cps_port.proofs.InOrder.{word_of-bound_of, word_of-lesser, word_of-greater, has_word_at, has_word_small, has_word_of, same_word}

-- a bound, as the word that a step is handed
pub record Handed (b : Bound) (k : ℕ) : Type 0 where
  pub fits : k ≤ top
  pub back : bound_of k ≡ b

handed : (b : Bound) (k : ℕ) → HasWord b → k ≡ word_of b → Handed b k
handed b k h e = let f = h.fits in record { fits = omega arith; back = ap bound_of e ∙ h.back }

pub handed_value : (m : CpModel) (v : ℤ) (k : ℕ) → IsValid m → IsAttained m v → k ≡ word_of (At v) → Handed (At v) k
handed_value m v k valid shown e = handed (At v) k (has_word_at v (attained_small m v valid shown)) e

pub handed_bound : (b : Bound) (k : ℕ) → IsSmallBound b → k ≡ word_of b → Handed b k
handed_bound b k small e = handed b k (has_word_small b small) e

pub shown_word : (m : CpModel) (v : ℤ) (k : ℕ) → Handed (At v) k → IsAttained m v → IsIncumbent m (bound_of k)
shown_word m v k h shown = subst (IsIncumbent m) (sym h.back) (attained_shown m v shown)

pub floor_word : (m : CpModel) (b : Bound) (k : ℕ) → Handed b k → IsLowerBound m b → IsLowerBound m (bound_of k)
floor_word m b k h floor = subst (IsLowerBound m) (sym h.back) floor

pub bound_of-min : (n k : ℕ) → n ≤ top → k ≤ top → bound_of (min n k) ≡ lesser (bound_of n) (bound_of k)
bound_of-min n k p q =
    let a = word_of-bound_of n p in
    let b = word_of-bound_of k q in
    let c = word_of-bound_of (min n k) (omega arith) in
    let l = word_of-lesser (bound_of n) (bound_of k) (omega arith) (omega arith) in
    same_word (bound_of (min n k)) (lesser (bound_of n) (bound_of k)) (has_word_of (min n k) (omega arith)) (lesser_is HasWord (bound_of n) (bound_of k) (has_word_of n p) (has_word_of k q)) (omega arith)

pub bound_of-max : (n k : ℕ) → n ≤ top → k ≤ top → bound_of (max n k) ≡ greater (bound_of n) (bound_of k)
bound_of-max n k p q =
    let a = word_of-bound_of n p in
    let b = word_of-bound_of k q in
    let c = word_of-bound_of (max n k) (omega arith) in
    let l = word_of-greater (bound_of n) (bound_of k) (omega arith) (omega arith) in
    same_word (bound_of (max n k)) (greater (bound_of n) (bound_of k)) (has_word_of (max n k) (omega arith)) (greater_is HasWord (bound_of n) (bound_of k) (has_word_of n p) (has_word_of k q)) (omega arith)
