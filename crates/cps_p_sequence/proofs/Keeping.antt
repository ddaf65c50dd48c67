-- Values between labels that are none of them.
use Rattle.std.specs.Prelude.{Contains, unsigned_abs, int_le, int_lt}
use Rattle.std.proofs.Common.{◌≡◌, ◌⊎◌, inl, inr, ℕ, ◌+◌, ◌-◌, ◌<◌, ◌≤◌, ℤ, pos, ◌+ℤ◌, ◌-ℤ◌, ◌≤ℤ◌, ◌<ℤ◌, true, List, length, get_or, sym, ◌∙◌, ap, subst, arith, w64, FitsSigned}
use Rattle.std.specs.List.{list_any}
use Rattle.std.specs.Int.{int_max}
use Rattle.std.proofs.lemmas.Int.{ints, int_max_is}
use Rattle.std.proofs.lemmas.List.{get_or_default}
use Rattle.std.proofs.lemmas.List.Folds.{Any-from_list_any}
use Rattle.cps_domain.specs.Window.{Window, contains, intervals, within}
use Rattle.cps_domain.proofs.Tests.{true_le, within_low, within_high}
use Rattle.cps_trail.specs.Trail.{Trail, admits}
use Rattle.cps_propagate.specs.Now.{IsOpenTo}
use Rattle.cps_model.specs.Rising.{IsRising}
use Rattle.cps_propagate.specs.Strength.{IsNarrowAt}
use Rattle.cps_p_sequence.proofs.Layering.{last_or}

true_lt : (a b : ℤ) → int_lt a b ≡ true → a <ℤ b
true_lt a b h = grind (arith, ints)

-- a number before the end of a run is not the greatest one
pub next_fits : (v end : ℤ) → FitsSigned w64 v → FitsSigned w64 end → int_lt v end ≡ true → FitsSigned w64 (v +ℤ pos 1)
next_fits v end low high test = let l = true_lt v end test in omega (arith, ints)

-- each value of a subject is within an end of its domain
pub open_from : (s : Trail) (i : ℕ) (w : Window) (number least : ℤ) → ((x : ℤ) → contains w x ≡ admits s.first s.entries i x) → ((x : ℤ) → contains w x ≡ true → least ≤ℤ x) → int_le number least ≡ true → (x : ℤ) → IsOpenTo s i x → number ≤ℤ x
open_from s i w number least shown from test x o =
    let l = true_le number least test in
    let h = from x (shown x ∙ o) in
    omega (arith, ints)

pub open_up_to : (s : Trail) (i : ℕ) (w : Window) (number greatest : ℤ) → ((x : ℤ) → contains w x ≡ admits s.first s.entries i x) → ((x : ℤ) → contains w x ≡ true → x ≤ℤ greatest) → int_le greatest number ≡ true → (x : ℤ) → IsOpenTo s i x → x ≤ℤ number
open_up_to s i w number greatest shown to test x o =
    let l = true_le greatest number test in
    let h = to x (shown x ∙ o) in
    omega (arith, ints)

pub open_below : (s : Trail) (i : ℕ) (w : Window) (number greatest : ℤ) → ((x : ℤ) → contains w x ≡ admits s.first s.entries i x) → ((x : ℤ) → contains w x ≡ true → x ≤ℤ greatest) → int_lt greatest number ≡ true → (x : ℤ) → IsOpenTo s i x → x <ℤ number
open_below s i w number greatest shown to test x o =
    let l = true_lt greatest number test in
    let h = to x (shown x ∙ o) in
    omega (arith, ints)

pub max_le : (a b x : ℤ) → a ≤ℤ x → b ≤ℤ x → int_max a b ≤ℤ x
max_le a b x l m = let e = int_max_is a b in omega (arith, ints)

last_value : (x v : ℤ) → x <ℤ (v +ℤ pos 1) → (x <ℤ v) ⊎ (x ≡ v)
last_value x v l = grind (arith, ints)

-- one number more of a run
pub whole_more : (s : Trail) (i : ℕ) (labels : List ℤ) (from v : ℤ) → ((x : ℤ) → from ≤ℤ x → x <ℤ v → IsOpenTo s i x → Contains labels x) → (IsOpenTo s i v → Contains labels v)
    → (x : ℤ) → from ≤ℤ x → x <ℤ (v +ℤ pos 1) → IsOpenTo s i x → Contains labels x
whole_more s i labels from v before here x l m o = elim (last_value x v m) [
  | inl k ↦ before x l k o
  | inr e ↦ subst (λ (y : ℤ). Contains labels y) (sym e) (here (subst (λ (y : ℤ). IsOpenTo s i y) e o))
]

-- the same of the first n intervals of a domain, between two ends
pub record AreWhole (s : Trail) (i : ℕ) (labels : List ℤ) (first last : ℤ) (parts : List (ℤ × ℤ)) (n : ℕ) : Type 0 where
  pub at : (k : ℕ) (d : ℤ × ℤ) → k < n → k < length parts → (x : ℤ) → within x (get_or parts k d) ≡ true → first ≤ℤ x → x <ℤ last → IsOpenTo s i x → Contains labels x

pub wholes_begun : (s : Trail) (i : ℕ) (labels : List ℤ) (first last : ℤ) (parts : List (ℤ × ℤ)) → AreWhole s i labels first last parts 0
wholes_begun s i labels first last parts = record { at = λ k d l m x w a b o. absurd (omega (arith, l)) }

pub wholes_more : (s : Trail) (i : ℕ) (labels : List ℤ) (first last : ℤ) (parts : List (ℤ × ℤ)) (n : ℕ) (part : ℤ × ℤ) (from to : ℤ) → n < length parts → part ≡ get_or parts n part
    → ((x : ℤ) → first ≤ℤ x → part.0 ≤ℤ x → from ≤ℤ x) → ((x : ℤ) → x <ℤ last → x ≤ℤ part.1 → x <ℤ to)
    → ((x : ℤ) → from ≤ℤ x → x <ℤ to → IsOpenTo s i x → Contains labels x) → AreWhole s i labels first last parts n → AreWhole s i labels first last parts (n + 1)
wholes_more s i labels first last parts n part from to inside is low high here p = record {
  at = λ k d l m x w a b o. elim (last_or k n l) [
    | inl q ↦ p.at k d q m x w a b o
    | inr q ↦
        let same : get_or parts k d ≡ part = ap (λ (j : ℕ). get_or parts j d) q ∙ get_or_default parts n d part inside ∙ sym is in
        let v : within x part ≡ true = subst (λ (r : ℤ × ℤ). within x r ≡ true) same w in
        here x (low x a (within_low x part v)) (high x b (within_high x part v)) o
  ];
}

-- an open value lies in an interval of the domain
pub wholes_all : (s : Trail) (i : ℕ) (labels : List ℤ) (first last : ℤ) (w : Window) (parts : List (ℤ × ℤ)) (n : ℕ) → parts ≡ intervals w → ((x : ℤ) → contains w x ≡ admits s.first s.entries i x) → length parts ≤ n
    → Contains labels last → AreWhole s i labels first last parts n → (x : ℤ) → first ≤ℤ x → x ≤ℤ last → IsOpenTo s i x → Contains labels x
unfolding contains
wholes_all s i labels first last w parts n is shown past has p x a b o = elim (last_value x last (omega (arith, ints))) [
  | inl l ↦
      let some : list_any (within x) parts ≡ true = ap (λ (ps : List (ℤ × ℤ)). list_any (within x) ps) is ∙ shown x ∙ o in
      let at = Any-from_list_any (within x) parts some in
      let inside = at.2 in
      let in-part : within x (get_or parts at.0 at.1) ≡ true = subst (λ (r : ℤ × ℤ). within x r ≡ true) (sym at.3) at.4 in
      p.at at.0 at.1 (omega arith) inside x in-part a l o
  | inr e ↦ subst (λ (y : ℤ). Contains labels y) (sym e) has
]

pub last_listed : (labels : List ℤ) → 0 < length labels → Contains labels (get_or labels (length labels - 1) (pos 0))
last_listed labels some = (length labels - 1, omega arith, get_or_default labels (length labels - 1) (get_or labels (length labels - 1) (pos 0)) (pos 0) (omega arith))

-- the first and the last of labels that are open are not among few numbers where the labels are not
pub not_narrow : (s : Trail) (i : ℕ) (labels : List ℤ) → 0 < length labels → IsRising labels → 4096 ≤ unsigned_abs (get_or labels (length labels - 1) (pos 0) -ℤ get_or labels 0 (pos 0)) → ((v : ℤ) → Contains labels v → IsOpenTo s i v) → IsNarrowAt s i → ⊥
not_narrow s i labels some rising far opens narrow =
    let low = opens (get_or labels 0 (pos 0)) (0, some, get_or_default labels 0 (get_or labels 0 (pos 0)) (pos 0) some) in
    let high = opens (get_or labels (length labels - 1) (pos 0)) (last_listed labels some) in
    let forth = narrow.at (get_or labels 0 (pos 0)) (get_or labels (length labels - 1) (pos 0)) low high in
    let back = narrow.at (get_or labels (length labels - 1) (pos 0)) (get_or labels 0 (pos 0)) high low in
    omega (arith, ints)
