-- Intervals with and without a number in common.
use Rattle.std.specs.Prelude.{int_le, ◌&&◌, ◌||◌}
use Rattle.std.specs.Int.{int_min, int_max}
use Rattle.std.proofs.Common.{◌≡◌, ◌-◌, ◌≤◌, List, [], ◌∷◌, length, take, drop, get_or, Bool, true, false, refl, arith, ℤ, pos, ◌≤ℤ◌}
use lib.Signed.{lt_z}
use Rattle.std.proofs.lemmas.Int.{ints}
use Rattle.std.proofs.lemmas.List.{take_rest}
use Rattle.cps_model.specs.Within.{is_within}
use Rattle.cps_model.proofs.Tests.{and_true}
use Rattle.cps_log.specs.Boxes.{NoneBetween}
use Rattle.cps_cert.specs.Intervals.{AreApart}

-- the greater of the lower ends lies in both intervals, if any number does
pub apart_if : (l g a b m n : ℤ) → m ≡ int_max l a → n ≡ int_min g b → lt_z n m ≡ true → AreApart l g a b
apart_if l g a b m n e f h x p q r s = absurd (let low : lt_z (int_min g b) (int_max l a) ≡ true = rw (← e, ← f) h in grind (arith, ints))

at_least_both : (l g a b m n : ℤ) → m ≡ int_max l a → n ≡ int_min g b → m ≤ℤ n → AreApart l g a b → ⊥
at_least_both l g a b m n e f h apart = apart m (grind (arith, ints)) (grind (arith, ints)) (grind (arith, ints)) (grind (arith, ints))

test_cases : (n m : ℤ) (v : Bool) → lt_z n m ≡ v → (m ≤ℤ n → ⊥) → lt_z n m ≡ true
test_cases n m true e h = e
test_cases n m false e h = absurd (h (grind (arith, ints)))

pub apart_only : (l g a b m n : ℤ) → m ≡ int_max l a → n ≡ int_min g b → AreApart l g a b → lt_z n m ≡ true
apart_only l g a b m n e f apart = test_cases n m (lt_z n m) refl (λ h. at_least_both l g a b m n e f h apart)

-- ---- of a list of bounds

inside : (l g a b : ℤ) (bs : List ℤ) → ((x : ℤ) → a ≤ℤ x → x ≤ℤ b → is_within (l ∷ g ∷ bs) x ≡ false) → AreApart l g a b
inside l g a b bs none x p q r s =
    let out = none x r s in
    let here : (int_le l x && int_le x g) ≡ true = grind (arith, ints) in
    let there : is_within (l ∷ g ∷ bs) x ≡ true = rw here refl in
    cc

outside : (l g x : ℤ) (v : Bool) → (int_le l x && int_le x g) ≡ v → (l ≤ℤ x → x ≤ℤ g → ⊥) → (int_le l x && int_le x g) ≡ false
outside l g x false e h = e
outside l g x true e h =
    let both = and_true (int_le l x) (int_le x g) e in
    let first = both.0 in
    let second = both.1 in
    absurd (h (grind (arith, ints)) (grind (arith, ints)))

or_right : (p q : Bool) → (p || q) ≡ false → q ≡ false
or_right true q e = cc
or_right false q e = e

pub rest_if : (a b : ℤ) (bs : List ℤ) → 2 ≤ length bs → AreApart (get_or bs 0 (pos 0)) (get_or bs 1 (pos 0)) a b → NoneBetween a b (is_within (take (length bs - 2) (drop 2 bs))) → NoneBetween a b (is_within bs)
rest_if a b [] h apart none = absurd (omega arith)
rest_if a b (l ∷ []) h apart none = absurd (omega arith)
rest_if a b (l ∷ g ∷ bs) h apart none = λ x p q.
    (let rest : is_within bs x ≡ false = rw (take_rest (l ∷ g ∷ bs) 2) at (none x p q) in
    rw (outside l g x (int_le l x && int_le x g) refl (λ r s. apart x r s p q)) rest)

pub rest_only : (a b : ℤ) (bs : List ℤ) → 2 ≤ length bs → NoneBetween a b (is_within bs) → NoneBetween a b (is_within (take (length bs - 2) (drop 2 bs)))
rest_only a b [] h none = absurd (omega arith)
rest_only a b (l ∷ []) h none = absurd (omega arith)
rest_only a b (l ∷ g ∷ bs) h none = λ x p q. rw (take_rest (l ∷ g ∷ bs) 2) (or_right (int_le l x && int_le x g) (is_within bs x) (none x p q))

pub first_apart : (a b : ℤ) (bs : List ℤ) → 2 ≤ length bs → NoneBetween a b (is_within bs) → AreApart (get_or bs 0 (pos 0)) (get_or bs 1 (pos 0)) a b
first_apart a b [] h none = absurd (omega arith)
first_apart a b (l ∷ []) h none = absurd (omega arith)
first_apart a b (l ∷ g ∷ bs) h none = inside l g a b bs none
