-- What a sample has: as many numbers as are wanted, which rise.
use Rattle.std.specs.Prelude.{All}
use Rattle.std.proofs.Common.{ℕ, zero, suc, ◌+◌, ◌-◌, ◌≤◌, ◌<◌, ◌%◌, ◌≡◌, ◌∙◌, ◌⊎◌, inl, inr, Bool, true, false, cond, List, [], ◌∷◌, ◌++◌, length, get_or, refl, sym, ap, subst, arith, append_assoc}
use Rattle.std.proofs.lemmas.Bool.{ltb-true, ltb-false}
use Rattle.std.proofs.lemmas.List.Elements.{All-nil, All-cons, All-weaker}
use Rattle.rand_pcg.specs.Lcg.{Lcg}
use Rattle.cps_neighbourhood.specs.Drawing.{next_word, after_word, after_words, is_taken, sampled, sample, AscendsStrictly}

pub one_of : (b : Bool) → (b ≡ true) ⊎ (b ≡ false)
one_of true = inl refl
one_of false = inr refl

if_true : {X : Type 0} (b : Bool) (x y : X) → b ≡ true → cond b x y ≡ x
if_true b x y e = ap (λ (c : Bool). cond c x y) e

if_false : {X : Type 0} (b : Bool) (x y : X) → b ≡ false → cond b x y ≡ y
if_false b x y e = ap (λ (c : Bool). cond c x y) e

-- the sample where the first number is taken, and where it is not
taken : (left first wanted : ℕ) (g : Lcg) → is_taken (suc left) wanted g ≡ true → sampled (suc left) first wanted g ≡ first ∷ sampled left (first + 1) (wanted - 1) (after_word g)
taken left first wanted g e = if_true (is_taken (suc left) wanted g) (first ∷ sampled left (first + 1) (wanted - 1) (after_word g)) (sampled left (first + 1) wanted (after_word g)) e

passed : (left first wanted : ℕ) (g : Lcg) → is_taken (suc left) wanted g ≡ false → sampled (suc left) first wanted g ≡ sampled left (first + 1) wanted (after_word g)
passed left first wanted g e = if_false (is_taken (suc left) wanted g) (first ∷ sampled left (first + 1) (wanted - 1) (after_word g)) (sampled left (first + 1) wanted (after_word g)) e

some_wanted : (left wanted : ℕ) (g : Lcg) → is_taken left wanted g ≡ true → 0 < wanted
some_wanted left wanted g e = omega (arith, ltb-true (next_word g % left) wanted e)

few_wanted : (left wanted : ℕ) (g : Lcg) → is_taken (suc left) wanted g ≡ false → wanted ≤ left
few_wanted left wanted g e = omega (arith, ltb-false (next_word g % suc left) wanted e)

pub sampled_length : (left first wanted : ℕ) (g : Lcg) → wanted ≤ left → length (sampled left first wanted g) ≡ wanted
sampled_length zero first wanted g l = omega arith
sampled_length (suc left) first wanted g l = elim (one_of (is_taken (suc left) wanted g)) [
  | inl e ↦ ap (λ (xs : List ℕ). length xs) (taken left first wanted g e) ∙ omega (arith, some_wanted (suc left) wanted g e, sampled_length left (first + 1) (wanted - 1) (after_word g) (omega (arith, l)))
  | inr e ↦ ap (λ (xs : List ℕ). length xs) (passed left first wanted g e) ∙ sampled_length left (first + 1) wanted (after_word g) (few_wanted left wanted g e)
]

from_later : (first : ℕ) (xs : List ℕ) → All (λ i. first + 1 ≤ i) xs → All (λ i. first ≤ i) xs
from_later first xs h = All-weaker (λ (i : ℕ). first + 1 ≤ i) (λ (i : ℕ). first ≤ i) (λ i l. omega (arith, l)) xs h

pub sampled_from : (left first wanted : ℕ) (g : Lcg) → All (λ i. first ≤ i) (sampled left first wanted g)
sampled_from zero first wanted g = All-nil (λ (i : ℕ). first ≤ i)
sampled_from (suc left) first wanted g = elim (one_of (is_taken (suc left) wanted g)) [
  | inl e ↦ subst (λ (xs : List ℕ). All (λ i. first ≤ i) xs) (sym (taken left first wanted g e))
      (All-cons (λ (i : ℕ). first ≤ i) first (sampled left (first + 1) (wanted - 1) (after_word g)) (omega arith) (from_later first _ (sampled_from left (first + 1) (wanted - 1) (after_word g))))
  | inr e ↦ subst (λ (xs : List ℕ). All (λ i. first ≤ i) xs) (sym (passed left first wanted g e)) (from_later first _ (sampled_from left (first + 1) wanted (after_word g)))
]

below_later : (first left : ℕ) (xs : List ℕ) → All (λ i. i < (first + 1) + left) xs → All (λ i. i < first + suc left) xs
below_later first left xs h = All-weaker (λ (i : ℕ). i < (first + 1) + left) (λ (i : ℕ). i < first + suc left) (λ i l. omega (arith, l)) xs h

sampled_below : (left first wanted : ℕ) (g : Lcg) → All (λ i. i < first + left) (sampled left first wanted g)
sampled_below zero first wanted g = All-nil (λ (i : ℕ). i < first + 0)
sampled_below (suc left) first wanted g = elim (one_of (is_taken (suc left) wanted g)) [
  | inl e ↦ subst (λ (xs : List ℕ). All (λ i. i < first + suc left) xs) (sym (taken left first wanted g e))
      (All-cons (λ (i : ℕ). i < first + suc left) first (sampled left (first + 1) (wanted - 1) (after_word g)) (omega arith) (below_later first left _ (sampled_below left (first + 1) (wanted - 1) (after_word g))))
  | inr e ↦ subst (λ (xs : List ℕ). All (λ i. i < first + suc left) xs) (sym (passed left first wanted g e)) (below_later first left _ (sampled_below left (first + 1) wanted (after_word g)))
]

pub sampled_under : (n wanted : ℕ) (g : Lcg) → All (λ i. i < n) (sample n wanted g)
sampled_under n wanted g = All-weaker (λ (i : ℕ). i < 0 + n) (λ (i : ℕ). i < n) (λ i l. omega (arith, l)) (sample n wanted g) (sampled_below n 0 wanted g)

rising_cons : (x : ℕ) (xs : List ℕ) → All (λ i. x + 1 ≤ i) xs → AscendsStrictly xs → AscendsStrictly (x ∷ xs)
rising_cons x xs least rising zero zero l m = absurd (omega arith)
rising_cons x xs least rising zero (suc j) l m = let h : x + 1 ≤ get_or xs j 0 = least j 0 (omega (arith, m)) in omega (arith, h)
rising_cons x xs least rising (suc i) zero l m = absurd (omega arith)
rising_cons x xs least rising (suc i) (suc j) l m = rising i j (omega (arith, l)) (omega (arith, m))

pub sampled_rising : (left first wanted : ℕ) (g : Lcg) → AscendsStrictly (sampled left first wanted g)
sampled_rising zero first wanted g = λ i j l m. absurd (omega arith)
sampled_rising (suc left) first wanted g = elim (one_of (is_taken (suc left) wanted g)) [
  | inl e ↦ subst AscendsStrictly (sym (taken left first wanted g e))
      (rising_cons first (sampled left (first + 1) (wanted - 1) (after_word g)) (sampled_from left (first + 1) (wanted - 1) (after_word g)) (sampled_rising left (first + 1) (wanted - 1) (after_word g)))
  | inr e ↦ subst AscendsStrictly (sym (passed left first wanted g e)) (sampled_rising left (first + 1) wanted (after_word g))
]

-- a step of the sample where a number is taken, and where it is not
pub step_taken : (chosen more : List ℕ) (all : List ℕ) (left later first wanted : ℕ) (g h : Lcg) → left ≡ suc later → chosen ++ sampled left first wanted g ≡ all → true ≡ is_taken left wanted g → h ≡ after_word g → more ≡ chosen ++ first ∷ []
    → more ++ sampled later (first + 1) (wanted - 1) h ≡ all
step_taken chosen more all left later first wanted g h e is taken_now after pushed =
    let front : more ++ sampled later (first + 1) (wanted - 1) h ≡ chosen ++ (first ∷ sampled later (first + 1) (wanted - 1) (after_word g)) =
    ap (λ (xs : List ℕ). xs ++ sampled later (first + 1) (wanted - 1) h) pushed ∙ append_assoc chosen (first ∷ []) (sampled later (first + 1) (wanted - 1) h) ∙ ap (λ (d : Lcg). chosen ++ (first ∷ sampled later (first + 1) (wanted - 1) d)) after in
    front ∙ ap (λ (xs : List ℕ). chosen ++ xs) (sym (taken later first wanted g (ap (λ (n : ℕ). is_taken n wanted g) (sym e) ∙ sym taken_now)))
    ∙ ap (λ (n : ℕ). chosen ++ sampled n first wanted g) (sym e) ∙ is

pub step_passed : (chosen : List ℕ) (all : List ℕ) (left later first wanted : ℕ) (g h : Lcg) → left ≡ suc later → chosen ++ sampled left first wanted g ≡ all → false ≡ is_taken left wanted g → h ≡ after_word g → chosen ++ sampled later (first + 1) wanted h ≡ all
step_passed chosen all left later first wanted g h e is passed_now after =
    ap (λ (d : Lcg). chosen ++ sampled later (first + 1) wanted d) after ∙ ap (λ (xs : List ℕ). chosen ++ xs) (sym (passed later first wanted g (ap (λ (n : ℕ). is_taken n wanted g) (sym e) ∙ sym passed_now)))
    ∙ ap (λ (n : ℕ). chosen ++ sampled n first wanted g) (sym e) ∙ is

pub wanted_after : (left wanted : ℕ) (g : Lcg) → true ≡ is_taken left wanted g → 0 < wanted
wanted_after left wanted g e = some_wanted left wanted g (sym e)

pub room_after : (left later wanted : ℕ) (g : Lcg) → left ≡ suc later → false ≡ is_taken left wanted g → wanted ≤ later
room_after left later wanted g e passed_now = few_wanted later wanted g (ap (λ (n : ℕ). is_taken n wanted g) (sym e) ∙ sym passed_now)

pub words_after : (left later : ℕ) (g h all : Lcg) → left ≡ suc later → after_words left g ≡ all → h ≡ after_word g → after_words later h ≡ all
words_after left later g h all e is after = ap (λ (d : Lcg). after_words later d) after ∙ ap (λ (n : ℕ). after_words n g) (sym e) ∙ is

-- the words that are drawn
pub words_done : (left : ℕ) (g all : Lcg) → left ≡ 0 → after_words left g ≡ all → g ≡ all
words_done left g all e is = ap (λ (n : ℕ). after_words n g) (sym e) ∙ is

-- a sample that is drawn
pub none_left : (chosen : List ℕ) (all : List ℕ) (left first wanted : ℕ) (g : Lcg) → left ≡ 0 → chosen ++ sampled left first wanted g ≡ all → chosen ≡ all
none_left chosen all left first wanted g e is = sym (append_nil chosen) ∙ ap (λ (n : ℕ). chosen ++ sampled n first wanted g) (sym e) ∙ is
  where
    append_nil : (xs : List ℕ) → xs ++ [] ≡ xs
    append_nil [] = refl
    append_nil (x ∷ xs) = ap (λ (ys : List ℕ). x ∷ ys) (append_nil xs)
