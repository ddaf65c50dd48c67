-- How many values subjects have at most.
use Rattle.std.specs.Prelude.{All, if◌then◌else◌}
use Rattle.std.proofs.Common.{ℕ, zero, suc, ◌-◌, ◌*◌, ◌<◌, ◌≤◌, ◌^◌, Bool, true, false, List, [], ◌∷◌, length, arith, ℤ, pos, negsuc, ◌+ℤ◌, ◌-ℤ◌, ◌≤ℤ◌}
use Rattle.std.proofs.lemmas.Int.{ints}
use Rattle.std.proofs.lemmas.List.Elements.{All-get_or}
use Rattle.cps_domain.specs.Window.{RisesFrom, width}
use Rattle.cps_instance.specs.Terms.{AreIntervals, Domains, Intervals}
use Rattle.cps_trail.specs.Trail.{Entry, admits, count_from, count_in, first_of, open_values, total}

one_most : (b : Bool) → (if b then 1 else 0) ≤ 1
one_most true = omega arith
one_most false = omega arith

count_from-most : (test : ℤ → Bool) (low : ℤ) (n : ℕ) → count_from test low n ≤ n
unfolding count_from
count_from-most test low zero = omega arith
count_from-most test low (suc n) = (let here = one_most (test low) in let rest = count_from-most test (low +ℤ pos 1) n in omega (arith, here, rest))

-- intervals that rise from a number on have no more values than there are up to the greatest that a value can be
count_in-most : (test : ℤ → Bool) (low : ℤ) (ps : Intervals) → RisesFrom low ps → low ≤ℤ pos (2 ^ 62) → pos (count_in test ps) ≤ℤ (pos (2 ^ 62) -ℤ low)
count_in-most test low [] h l = omega (arith, ints, l)
count_in-most test low (p ∷ ps) h l =
    let above = h.0 in
    let ordered = h.1 in
    let under = h.2 in
    let here = count_from-most test p.0 (width p) in
    let rest = count_in-most test (p.1 +ℤ pos 1) ps h.3 (omega (arith, ints, under)) in
    omega (arith, ints, above, ordered, here, rest)

pub domain-most : (test : ℤ → Bool) (ps : Intervals) → AreIntervals ps → count_in test ps ≤ 2 ^ 63
domain-most test ps h = (let most = count_in-most test (negsuc (2 ^ 62 - 1)) ps h.rising (omega (arith, ints)) in omega (arith, ints, most))

total-most : (f : ℕ → ℕ) (n : ℕ) → ((i : ℕ) → i < n → f i ≤ 2 ^ 63) → total f n ≤ n * 2 ^ 63
total-most f zero h = omega arith
total-most f (suc n) h = (let here = h n (omega arith) in let rest = total-most f n (λ i l. h i (omega (arith, l))) in omega (arith, here, rest))

-- so many values are open at most
pub open-most : (first : Domains) (es : List Entry) → All AreIntervals first → length first ≤ 2 ^ 31 → open_values first es ≤ 2 ^ 94
unfolding open_values
open-most first es sound few =
    let most = total-most (λ i. count_in (admits first es i) (first_of first i)) (length first) (λ i l. domain-most (admits first es i) (first_of first i) (All-get_or AreIntervals first i [] l sound)) in
    omega (arith, most, few)
