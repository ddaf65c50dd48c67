-- The values of rising intervals, one by one.
use Rattle.std.specs.Prelude.{unsigned_abs, ◌||◌, ◌/◌}
use Rattle.std.specs.List.{Contains}
use Rattle.std.proofs.Common.{◌≡◌, ℕ, zero, suc, ◌+◌, ◌-◌, ◌<◌, ◌≤◌, ◌^◌, List, [], ◌∷◌, ◌++◌, length, drop, get_or, Bool, true, inl, inr, refl, sym, ◌∙◌, ap, arith, ℤ, pos, negsuc, ◌+ℤ◌, ◌-ℤ◌, ◌≤ℤ◌, ◌<ℤ◌}
use Rattle.std.proofs.Math.ListN.{get_or-append, length-append}
use Rattle.std.proofs.lemmas.Int.{ints}
use Rattle.std.proofs.lemmas.List.{get_or-append_right, drop_more, length-take, length-drop}
use Rattle.std.proofs.lemmas.List.Elements.{Contains-append_left, Contains-append_right, Contains-append_cases}
use Rattle.cps_domain.specs.Window.{Window, within, is_among, contains, intervals, RisesFrom, IsDomain, width, size_of}
use Rattle.cps_domain.proofs.Tests.{within_low, within_high, is_within, or_cases, or_right}
use Rattle.cps_trail.specs.Trail.{Trail, admits}
use Rattle.cps_branch.specs.Strategies.{IsAscending, AreValuesOf, HasSize, IsMedian, run_from, values_of}

length-run : (v : ℤ) (n : ℕ) → length (run_from v n) ≡ n
unfolding run_from
length-run v zero = refl
length-run v (suc n) = ap suc (length-run (v +ℤ pos 1) n)

pub length-values : (ps : List (ℤ × ℤ)) → length (values_of ps) ≡ size_of ps
length-values [] = refl
length-values (p ∷ ps) = let both = length-append (run_from p.0 (width p)) (values_of ps) in let one = length-run p.0 (width p) in let rest = length-values ps in omega arith

run_at : (v : ℤ) (n k : ℕ) (d : ℤ) → k < n → get_or (run_from v n) k d ≡ v +ℤ pos k
unfolding run_from
run_at v zero k d l = absurd (omega arith)
run_at v (suc n) zero d l = omega (arith, ints)
run_at v (suc n) (suc k) d l = let rest = run_at (v +ℤ pos 1) n k d (omega arith) in omega (arith, ints)

step_to : (v x : ℤ) → v ≤ℤ x → v +ℤ pos (unsigned_abs (x -ℤ v)) ≡ x
step_to v x h = omega (arith, ints)

steps_within : (v x h : ℤ) → v ≤ℤ x → x ≤ℤ h → unsigned_abs (x -ℤ v) < unsigned_abs (h -ℤ v) + 1
steps_within v x h a b = omega (arith, ints)

in_run : (p : ℤ × ℤ) (x : ℤ) → within x p ≡ true → Contains (run_from p.0 (width p)) x
in_run p x w =
    let low = within_low x p w in
    let high = within_high x p w in
    let k = unsigned_abs (x -ℤ p.0) in
    let l : k < width p = steps_within p.0 x p.1 low high in
    let long = length-run p.0 (width p) in
    (k, omega arith, run_at p.0 (width p) k x l ∙ step_to p.0 x low)

of_run : (p : ℤ × ℤ) (x : ℤ) → p.0 ≤ℤ p.1 → Contains (run_from p.0 (width p)) x → within x p ≡ true
of_run p x o c =
    let long = length-run p.0 (width p) in
    let l : c.0 < width p = omega (arith, c.1) in
    let at : x ≡ p.0 +ℤ pos c.0 = sym c.2 ∙ run_at p.0 (width p) c.0 x l in
    is_within x p (omega (arith, ints)) (omega (arith, ints))

pub among_values : (ps : List (ℤ × ℤ)) (x : ℤ) → is_among ps x ≡ true → Contains (values_of ps) x
among_values [] x e = cc
among_values (p ∷ ps) x e = elim (or_cases (within x p) (is_among ps x) e) [
  | inl w ↦ Contains-append_left (run_from p.0 (width p)) (values_of ps) x (in_run p x w)
  | inr r ↦ Contains-append_right (run_from p.0 (width p)) (values_of ps) x (among_values ps x r)
]

or_left : (a b : Bool) → a ≡ true → (a || b) ≡ true
or_left a b e = rw e refl

pub values_among : (low : ℤ) (ps : List (ℤ × ℤ)) (x : ℤ) → RisesFrom low ps → Contains (values_of ps) x → is_among ps x ≡ true
values_among low [] x h c = absurd (omega (arith, c.1))
values_among low (p ∷ ps) x h c = elim (Contains-append_cases (run_from p.0 (width p)) (values_of ps) x c) [
  | inl l ↦ or_left (within x p) (is_among ps x) (of_run p x h.1 l)
  | inr r ↦ or_right (within x p) (is_among ps x) (values_among (p.1 +ℤ pos 1) ps x h.3 r)
]

run_then : (low v h : ℤ) (n : ℕ) (ys : List ℤ) → low <ℤ v → h ≡ v +ℤ pos n → ((l : ℤ) → l <ℤ h → IsAscending l ys) → IsAscending low (run_from v n ++ ys)
unfolding run_from
run_then low v h zero ys a e f = f low (omega (arith, ints))
run_then low v h (suc n) ys a e f = (a, run_then v (v +ℤ pos 1) h n ys (omega (arith, ints)) (omega (arith, ints)) f)

pub ascending : (low : ℤ) (ps : List (ℤ × ℤ)) (l : ℤ) → RisesFrom low ps → l ≤ℤ low → IsAscending l (values_of ps)
ascending low [] l h k = tt
ascending low (p ∷ ps) l h k =
    let above = h.0 in
    let order = h.1 in
    run_then l p.0 (p.1 +ℤ pos 1) (width p) (values_of ps) (omega (arith, ints)) (omega (arith, ints)) (λ m b. ascending (p.1 +ℤ pos 1) ps m h.3 (omega (arith, ints)))

-- the values of a domain that has what a store leaves to a subject
pub values_are : (s : Trail) (i : ℕ) (d : Window) → IsDomain d → ((x : ℤ) → contains d x ≡ admits s.first s.entries i x) → AreValuesOf s i (values_of (intervals d))
unfolding contains
values_are s i d h same = record {
  low = negsuc (2 ^ 62 - 1);
  rising = ascending (negsuc (2 ^ 62 - 1)) (intervals d) (negsuc (2 ^ 62 - 1)) h.rising (omega (arith, ints));
  each = λ x. (
    (λ e. among_values (intervals d) x (same x ∙ e)),
    (λ c. sym (same x) ∙ values_among (negsuc (2 ^ 62 - 1)) (intervals d) x h.rising c),
  );
}

pub has_size : (s : Trail) (i : ℕ) (d : Window) (n : ℕ) → IsDomain d → ((x : ℤ) → contains d x ≡ admits s.first s.entries i x) → n ≡ size_of (intervals d) → HasSize s i n
has_size s i d n h same is = record { values = values_of (intervals d); are = values_are s i d h same; count = length-values (intervals d) ∙ sym is }

pub is_median : (s : Trail) (i : ℕ) (d : Window) (n : ℕ) (v : ℤ) → IsDomain d → ((x : ℤ) → contains d x ≡ admits s.first s.entries i x) → n ≡ size_of (intervals d) → v ≡ get_or (values_of (intervals d)) ((n - 1) / 2) (pos 0) → IsMedian s i v
is_median s i d n v h same is there = record {
  values = values_of (intervals d);
  are = values_are s i d h same;
  at = ap (λ (k : ℕ). get_or (values_of (intervals d)) ((k - 1) / 2) (pos 0)) (length-values (intervals d) ∙ sym is) ∙ sym there;
}

some_size : (low : ℤ) (ps : List (ℤ × ℤ)) → 0 < length ps → 0 < size_of ps
some_size low [] h = absurd (omega arith)
some_size low (p ∷ ps) h = omega arith

pub size_some : (d : Window) → IsDomain d → 0 < size_of (intervals d)
size_some d h =
    let some = h.some in
    let inside = h.inside in
    let a = length-take (d.to - d.from) (drop d.from d.list) in
    let b = length-drop d.from d.list in
    some_size (negsuc (2 ^ 62 - 1)) (intervals d) (omega arith)

-- the value at a place is in the first interval or at a place of the others
pub here_at : (ps : List (ℤ × ℤ)) (k left : ℕ) (p : ℤ × ℤ) (v whole : ℤ) → k < length ps → p ≡ get_or ps k p → left < width p → v ≡ p.0 +ℤ pos left → get_or (values_of (drop k ps)) left (pos 0) ≡ whole → v ≡ whole
here_at ps k left p v whole l r small is h =
    let split : drop k ps ≡ p ∷ drop (k + 1) ps = drop_more ps k p l ∙ ap (λ (q : ℤ × ℤ). q ∷ drop (k + 1) ps) (sym r) in
    let long = length-run p.0 (width p) in
    is ∙ sym (run_at p.0 (width p) left (pos 0) small)
    ∙ sym (get_or-append (run_from p.0 (width p)) (values_of (drop (k + 1) ps)) (pos 0) left (omega arith))
    ∙ sym (ap (λ (qs : List (ℤ × ℤ)). get_or (values_of qs) left (pos 0)) split) ∙ h

pub later_at : (ps : List (ℤ × ℤ)) (k left : ℕ) (p : ℤ × ℤ) (whole : ℤ) → k < length ps → p ≡ get_or ps k p → width p ≤ left → get_or (values_of (drop k ps)) left (pos 0) ≡ whole → get_or (values_of (drop (k + 1) ps)) (left - width p) (pos 0) ≡ whole
later_at ps k left p whole l r large h =
    let split : drop k ps ≡ p ∷ drop (k + 1) ps = drop_more ps k p l ∙ ap (λ (q : ℤ × ℤ). q ∷ drop (k + 1) ps) (sym r) in
    sym (get_or-append_right (run_from p.0 (width p)) (values_of (drop (k + 1) ps)) (width p) left (pos 0) (length-run p.0 (width p)) large)
    ∙ sym (ap (λ (qs : List (ℤ × ℤ)). get_or (values_of qs) left (pos 0)) split) ∙ h

pub fewer_left : (ps : List (ℤ × ℤ)) (k left : ℕ) (p : ℤ × ℤ) → k < length ps → p ≡ get_or ps k p → width p ≤ left → left < size_of (drop k ps) → left - width p < size_of (drop (k + 1) ps)
fewer_left ps k left p l r large h =
    let split : drop k ps ≡ p ∷ drop (k + 1) ps = drop_more ps k p l ∙ ap (λ (q : ℤ × ℤ). q ∷ drop (k + 1) ps) (sym r) in
    let size = ap (λ (qs : List (ℤ × ℤ)). size_of qs) split in
    omega arith

-- past the last interval no value is left
pub no_size : (ps : List (ℤ × ℤ)) (k left : ℕ) → length ps ≤ k → left < size_of (drop k ps) → ⊥
no_size ps k left l h = none (drop k ps) (let gone = length-drop k ps in omega arith) h
  where
    none : (qs : List (ℤ × ℤ)) → length qs ≡ 0 → left < size_of qs → ⊥
    none [] e m = omega arith
    none (q ∷ qs) e m = omega arith
