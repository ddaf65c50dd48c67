-- What a domain has that keeps no list, or the whole of one.
use Rattle.std.proofs.Common.{ℕ, ◌≤◌, ◌<◌, ◌-◌, ◌+◌, ℤ, negsuc, ◌≡◌, ◌==◌, true, false, List, ◌++◌, length, drop, take, refl, sym, ◌∙◌, ap, subst, arith, ◌^◌}
use Rattle.std.specs.Prelude.{nat_eq, slice_range}
use Rattle.std.proofs.lemmas.List.{length-take-le, length-drop, take_all, drop_all, append-nil}
use Rattle.cps_domain.specs.Window.{Window, intervals, RisesFrom, IsDomain, least, greatest, interval_at, pairs_of}
use Rattle.cps_domain.specs.Cuts.{IsInner, Shrinks, clipped}
use Rattle.cps_domain.proofs.Windows.{at}
use Rattle.cps_domain.proofs.Cutting.{listing, alone, is_alone, listed_some, is_alone_window, clip_domain, IsWritten, written}

-- a window of a whole list
abbrev pub whole : List (ℤ × ℤ) → ℕ → Window
whole ps t = record { list = ps; from = 0; to = t }

whole_list : (ps : List (ℤ × ℤ)) (t : ℕ) → length ps ≤ t → slice_range ps 0 t ≡ ps
whole_list ps t h = let e : t - 0 ≡ t = omega arith in ap (λ n. take n ps) e ∙ take_all t ps h

whole_domain : (ps : List (ℤ × ℤ)) (t : ℕ) → 0 < length ps → t ≡ length ps → RisesFrom (negsuc (2 ^ 62 - 1)) ps → IsDomain (whole ps t)
whole_domain ps t s e r = record {
  some = omega arith;
  inside = omega arith;
  rising = subst (λ qs. RisesFrom (negsuc (2 ^ 62 - 1)) qs) (sym (whole_list ps t (omega arith))) r;
}

pub whole_written : (h : ℤ × ℤ) (ps : List (ℤ × ℤ)) (t : ℕ) → 0 < length ps → t ≡ length ps → RisesFrom (negsuc (2 ^ 62 - 1)) ps
    → h.0 ≡ (interval_at ps 0).0 → h.1 ≡ (interval_at ps (t - 1)).1 → IsWritten h ps 0 t (whole ps t)
whole_written h ps t s e r a b = written h ps (whole ps t) refl (whole_domain ps t s e r) a b

pub whole_intervals : (h : ℤ × ℤ) (ps : List (ℤ × ℤ)) (t : ℕ) → t ≡ length ps → IsWritten h ps 0 t (whole ps t) → intervals (listing h ps 0 t) ≡ ps
whole_intervals h ps t e w = ap (λ d. intervals d) w.same ∙ whole_list ps t (omega arith)

-- as many intervals as the window is long
pub one_alone : (d : Window) → IsDomain d → length (intervals d) ≡ 1 → d.to ≡ d.from + 1
one_alone d h e =
    let s = h.some in let i = h.inside in
    let l = length-drop d.from d.list in
    let n = length-take-le (d.to - d.from) (drop d.from d.list) (omega (arith, l)) in
    omega (arith, n, e)

-- a domain that keeps no list, clipped
pub alone_clipped : (a q : ℤ × ℤ) (ps : List (ℤ × ℤ)) (f t k g u : ℕ) → nat_eq (length ps) 0 ≡ true → IsDomain (listing a ps f t) → IsInner (listing a ps f t) k g u
    → listing q ps f t ≡ clipped (listing a ps f t) k q g u
alone_clipped a q ps f t k g u n d i =
    let z = is_alone a.0 a.1 ps f t n d in
    let e0 : 0 ≡ k = omega (arith, i.left, i.right, i.high, z.1) in
    let e1 : 0 ≡ g = omega (arith, i.left, e0) in
    let e2 : 1 ≡ u = omega (arith, i.right, i.high, z.1) in
    is_alone_window a q ps f t n d
    ∙ ap (λ j. clipped (alone a) j q 0 1) e0
    ∙ ap (λ j. clipped (alone a) k q j 1) e1
    ∙ ap (λ j. clipped (alone a) k q g j) e2
    ∙ ap (λ w. clipped w k q g u) (sym (is_alone_window a a ps f t n d))

pub alone_written : (a q : ℤ × ℤ) (ps : List (ℤ × ℤ)) (f t k g u : ℕ) → nat_eq (length ps) 0 ≡ true → IsDomain (listing a ps f t) → IsInner (listing a ps f t) k g u
    → Shrinks (at (listing a ps f t) k) q → IsWritten q ps f t (listing q ps f t)
alone_written a q ps f t k g u n d i s =
    let e = is_alone_window a q ps f t n d in
    record {
      same = refl;
      domain = subst (λ w. IsDomain w) (sym (alone_clipped a q ps f t k g u n d i)) (clip_domain (listing a ps f t) k q g u d i s);
      first = ap (λ w. least w) e;
      last = ap (λ w. greatest w) e;
    }

-- where all numbers are paired
pub pairs_done : (xs : List ℤ) (n : ℕ) (ps : List (ℤ × ℤ)) → length xs ≤ n → ps ++ pairs_of (drop n xs) ≡ pairs_of xs → ps ≡ pairs_of xs
pairs_done xs n ps h e = sym (ap (λ ys. ps ++ pairs_of ys) (drop_all n xs h) ∙ append-nil ps) ∙ e

-- the list that the code reads, where a domain keeps one
pub read_list : (a : ℤ × ℤ) (ps read : List (ℤ × ℤ)) (len f t : ℕ) (old : Window) → length ps ≡ len → (len == 0) ≡ false → read ≡ ps → listing a ps f t ≡ old → read ≡ old.list
read_list a ps read len f t old l n r e = r ∙ sym (listed_some a.0 a.1 ps (ap (λ m. nat_eq m 0) l ∙ n)) ∙ ap (λ (w : Window). w.list) e
