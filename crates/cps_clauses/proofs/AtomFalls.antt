-- When the atoms of a clause became false, atom by atom.
use Rattle.std.proofs.Common.{ℕ, ◌+◌, ◌≤◌, ◌<◌, ◌≡◌, List, length, take, get_or, refl, sym, subst, inl, inr, ◌⊎◌, arith}
use Rattle.cps_literal.specs.declared.atom.Atom.{Atom}
use Rattle.cps_trail.specs.Trail.{Trail, IsFalseAfter, IsFalseNow, IsFalseFrom}
use Rattle.cps_trail.proofs.Times.{IsFalseAfter-take, IsFalseAfter-all}
use Rattle.cps_clauses.specs.declared.falls.LastTwo.{LastTwo}
use Rattle.cps_clauses.specs.Falls.{IsFall, AreLastTwo}
use Rattle.cps_clauses.proofs.QuietClauses.{none, nat_cases, seam, at_any}

pub IsFall-none : (s : Trail) (t : Atom) (n : ℕ) → n ≡ length s.entries + 1 → (IsFalseNow s t → ⊥) → IsFall s t n
IsFall-none s t n e not_false = record {
  within = omega (arith, e);
  after = λ h. absurd (omega (arith, e, h));
  not_before = λ m b f. not_false (IsFalseAfter-all s.first s.entries m t f);
}

pub IsFall-from : (s : Trail) (t : Atom) (n : ℕ) → IsFalseFrom s t n → IsFall s t n
IsFall-from s t n h = record { within = omega (arith, h.within); after = λ _. h.after; not_before = h.not_before }

pub AreLastTwo-first : (s : Trail) (atoms : List Atom) (n : ℕ) → 0 < length atoms → IsFall s (get_or atoms 0 none) n → AreLastTwo s atoms 1 (record { place = 0; fell = n; other = 1; other_fell = 0 })
AreLastTwo-first s atoms n l fall = record {
  within = omega arith;
  last = λ d. at_any (λ t. IsFall s t n) atoms 0 none d l fall;
  ordered = omega arith;
  apart = λ e. (let bad : ⊥ = omega (arith, e) in bad);
  beside = λ h. absurd (omega (arith, h));
  second = λ d h. absurd (omega (arith, h));
  alone = λ h. refl;
  others = λ h j d b ne. absurd (ne (omega (arith, b)));
  least = λ m k b all. absurd (omega (arith, b));
}

-- one more atom, which became false last
pub AreLastTwo-later : (s : Trail) (atoms : List Atom) (i n : ℕ) (two : LastTwo) → i < length atoms → IsFall s (get_or atoms i none) n → two.fell < n → AreLastTwo s atoms i two → AreLastTwo s atoms (i + 1) (record { place = i; fell = n; other = two.place; other_fell = two.fell })
AreLastTwo-later s atoms i n two l fall later h = record {
  within = omega arith;
  last = λ d. at_any (λ t. IsFall s t n) atoms i none d l fall;
  ordered = omega (arith, later);
  apart = λ e. (let bad : ⊥ = omega (arith, e, h.within) in bad);
  beside = λ _. omega (arith, h.within);
  second = λ d _. h.last d;
  alone = λ b. absurd (omega (arith, b, h.within));
  others = λ within j d b ne. elim (seam i j b) [
    | inl less ↦ elim (nat_cases j two.place) [
      | inl same ↦ subst (λ (k : ℕ). IsFalseAfter s.first (take two.fell s.entries) (get_or atoms k d)) (sym same) ((h.last d).after within)
      | inr other ↦ IsFalseAfter-take s.first s.entries two.other_fell two.fell (get_or atoms j d) h.ordered (h.others (omega (arith, h.ordered, within)) j d less other)
    ]
    | inr last ↦ absurd (ne last)
  ];
  least = λ m k b all. elim (nat_cases k i) [
    | inl same ↦ (h.last none).not_before m b (all two.place none (omega (arith, h.within)) (λ e. (let bad : ⊥ = omega (arith, e, same, h.within) in bad)))
    | inr other ↦ fall.not_before m (omega (arith, b, later)) (all i none (omega arith) (λ e. other (sym e)))
  ];
}

-- which became false last but one
pub AreLastTwo-second : (s : Trail) (atoms : List Atom) (i n : ℕ) (two : LastTwo) → i < length atoms → IsFall s (get_or atoms i none) n → n ≤ two.fell → two.other_fell ≤ n → AreLastTwo s atoms i two → AreLastTwo s atoms (i + 1) (record two { other = i; other_fell = n })
AreLastTwo-second s atoms i n two l fall earlier later h = record {
  within = omega (arith, h.within);
  last = h.last;
  ordered = earlier;
  apart = λ e. (let bad : ⊥ = omega (arith, e, h.within) in bad);
  beside = λ _. omega arith;
  second = λ d _. at_any (λ t. IsFall s t n) atoms i none d l fall;
  alone = λ b. absurd (omega (arith, b, h.within));
  others = λ within j d b ne. elim (seam i j b) [
    | inl less ↦ IsFalseAfter-take s.first s.entries two.other_fell n (get_or atoms j d) (omega (arith, later)) (h.others (omega (arith, later, within)) j d less ne)
    | inr last ↦ subst (λ (k : ℕ). IsFalseAfter s.first (take n s.entries) (get_or atoms k d)) (sym last) (at_any (IsFalseAfter s.first (take n s.entries)) atoms i none d l (fall.after within))
  ];
  least = λ m k b all. elim (nat_cases k i) [
    | inl same ↦ (h.last none).not_before m (omega (arith, b, earlier)) (all two.place none (omega (arith, h.within)) (λ e. (let bad : ⊥ = omega (arith, e, same, h.within) in bad)))
    | inr other ↦ fall.not_before m b (all i none (omega arith) (λ e. other (sym e)))
  ];
}

two_before : (i second n : ℕ) → n < second → (i < 2 → second ≡ 0) → 2 ≤ i
two_before i second n l alone = elim (small i) [ inl less ↦ absurd (omega (arith, l, alone less)) | inr more ↦ more ]
  where
    small : (k : ℕ) → (k < 2) ⊎ (2 ≤ k)
    small k = grind arith

-- which became false before both
pub AreLastTwo-before : (s : Trail) (atoms : List Atom) (i n : ℕ) (two : LastTwo) → i < length atoms → IsFall s (get_or atoms i none) n → n < two.other_fell → AreLastTwo s atoms i two → AreLastTwo s atoms (i + 1) two
AreLastTwo-before s atoms i n two l fall earlier h = record {
  within = omega (arith, h.within);
  last = h.last;
  ordered = h.ordered;
  apart = h.apart;
  beside = λ _. omega (arith, h.beside (two_before i two.other_fell n earlier h.alone));
  second = λ d _. h.second d (two_before i two.other_fell n earlier h.alone);
  alone = λ b. absurd (omega (arith, b, h.within));
  others = λ within j d b ne. elim (seam i j b) [
    | inl less ↦ h.others within j d less ne
    | inr last ↦ subst (λ (k : ℕ). IsFalseAfter s.first (take two.other_fell s.entries) (get_or atoms k d)) (sym last)
        (IsFalseAfter-take s.first s.entries n two.other_fell (get_or atoms i d) (omega (arith, earlier)) (at_any (IsFalseAfter s.first (take n s.entries)) atoms i none d l (fall.after (omega (arith, earlier, within)))))
  ];
  least = λ m k b all. h.least m k b (λ j d less ne. all j d (omega (arith, less)) ne);
}
