-- Which places are open, and what a look leaves at rest.
use Rattle.std.proofs.Common.{◌≡◌, ◌≢◌, ℕ, ℤ, pos, negsuc, ◌+◌, ◌-◌, ◌<◌, ◌≤◌, ◌≤ℤ◌, true, List, length, get_or, refl, sym, subst, ◌∙◌, arith, inl, inr}
use Rattle.std.proofs.lemmas.Int.{ints}
use Rattle.std.proofs.lemmas.Bool.{cases_lt, cases_eq}
use Rattle.std.specs.Int.{int_min, int_max}
use Rattle.cps_domain.specs.Window.{Window, contains}
use Rattle.cps_domain.proofs.Tests.{either}
use Rattle.cps_trail.specs.Trail.{Trail, admits}
use Rattle.cps_propagate.specs.Now.{IsOpenTo}
use Rattle.cps_propagate.specs.Lookups.{MayBeSame, IsOpenPlace, IsValueAtPlace, IsLastValue, IsStrongElement}
use Rattle.cps_rule.specs.declared.rule.Narrowing.{Narrowing}
use Rattle.cps_p_lookup.specs.declared.places.Scan.{Scan}
use Rattle.cps_p_lookup.specs.Resting.{AreTrue, LeavesAtRest}
use Rattle.cps_p_lookup.specs.Elements.{AreMeeting, IsEndOf, IsLastOpen, IsScanned, AreOpenPlaces, IsBetween, AreEndsKept}

same_le : (v : ℤ) → v ≤ℤ v
same_le v = omega (arith, ints)

-- a value that both have, or ends that cross
pub meeting_at : (E T : Window) (v : ℤ) → contains E v ≡ true → contains T v ≡ true → AreMeeting E T
meeting_at E T v e t = record { up = (v, v, e, t, same_le v); down = (v, v, e, t, same_le v); single = λ _. (v, e, t) }

pub meeting_ends : (E T : Window) (a b c d : ℤ) → contains E a ≡ true → contains E b ≡ true → contains T c ≡ true → contains T d ≡ true → (a ≡ b → ⊥) → (c ≡ d → ⊥) → a ≤ℤ d → c ≤ℤ b → AreMeeting E T
meeting_ends E T a b c d ea eb tc td apart off up down = record {
  up = (a, d, ea, td, up);
  down = (b, c, eb, tc, down);
  single = λ one. elim one [ inl f ↦ absurd (apart (f a b ea eb)) | inr f ↦ absurd (off (f c d tc td)) ];
}

pub may_meet : (s : Trail) (e t : ℕ) (E T : Window) → ((x : ℤ) → contains E x ≡ admits s.first s.entries e x) → ((x : ℤ) → contains T x ≡ admits s.first s.entries t x) → AreMeeting E T → MayBeSame s e t
may_meet s e t E T ofE ofT m =
    let up = m.up in
    let down = m.down in
    record {
      up = (up.0, up.1, sym (ofE up.0) ∙ up.2, sym (ofT up.1) ∙ up.3, up.4);
      down = (down.0, down.1, sym (ofE down.0) ∙ down.2, sym (ofT down.1) ∙ down.3, down.4);
      single = λ fixed.
          (let one = m.single (elim fixed [ inl f ↦ inl (λ x y p q. f x y (sym (ofE x) ∙ p) (sym (ofE y) ∙ q)) | inr f ↦ inr (λ x y p q. f x y (sym (ofT x) ∙ p) (sym (ofT y) ∙ q)) ]) in (
            one.0,
            sym (ofE one.0) ∙ one.1,
            sym (ofT one.0) ∙ one.2,
          ));
    }

pub open_place : (s : Trail) (i t : ℕ) (es : List ℕ) (k : ℕ) (I E T : Window) → k < length es → ((x : ℤ) → contains I x ≡ admits s.first s.entries i x) → ((x : ℤ) → contains E x ≡ admits s.first s.entries (get_or es k 0) x) → ((x : ℤ) → contains T x ≡ admits s.first s.entries t x)
    → contains I (pos k) ≡ true → AreMeeting E T → IsOpenPlace s i t es k
open_place s i t es k I E T l ofI ofE ofT has m = record { within = l; place = sym (ofI (pos k)) ∙ has; same = may_meet s (get_or es k 0) t E T ofE ofT m }

-- a scan of one place more, which is open, or is not counted
end_value : (s : Trail) (i t : ℕ) (es : List ℕ) (k count : ℕ) (own old v : ℤ) → IsOpenPlace s i t es k → IsOpenTo s (get_or es k 0) own → (0 < count → IsValueAtPlace s i t es old) → IsEndOf count own old v → IsValueAtPlace s i t es v
end_value s i t es k count own old v place value before h = elim h.is [
  | inl here ↦ subst (λ (x : ℤ). IsValueAtPlace s i t es x) (sym here) (record { k = k; place = place; value = value })
  | inr past ↦ subst (λ (x : ℤ). IsValueAtPlace s i t es x) (sym past.1) (before past.0)
]

pub last_more : (s : Trail) (i t : ℕ) (es : List ℕ) (k : ℕ) (low high p q : ℤ) (old new : Scan) → IsOpenPlace s i t es k → IsOpenTo s (get_or es k 0) low → IsOpenTo s (get_or es k 0) high → p ≡ low → q ≡ high
    → new.last ≡ k → (new.open ≢ 1 → 0 < old.open) → IsEndOf old.open p old.least new.least → IsEndOf old.open q old.greatest new.greatest → IsLastOpen s i t es k old → IsLastOpen s i t es (k + 1) new
last_more s i t es k low high p q old new place at_low at_high isp isq last several least greatest h = record {
  last = λ z. subst (λ n. IsOpenPlace s i t es n) (sym last) place;
  before = λ z. omega (arith, last);
  least = λ z. end_value s i t es k old.open p old.least new.least place (subst (λ (x : ℤ). IsOpenTo s (get_or es k 0) x) (sym isp) at_low) h.least least;
  greatest = λ z. end_value s i t es k old.open q old.greatest new.greatest place (subst (λ (x : ℤ). IsOpenTo s (get_or es k 0) x) (sym isq) at_high) h.greatest greatest;
  several = λ z ne.
      (let some = several ne in
      let l = h.before some in (
        old.last,
        other old.last l,
        (h.last some).place,
      ));
}
  where
    other : (j : ℕ) → j < k → j ≢ new.last
    other j l e = omega (arith, l, e, last)

pub last_kept : (s : Trail) (i t : ℕ) (es : List ℕ) (m n : ℕ) (scan : Scan) → (0 < scan.open → scan.last < n) → IsLastOpen s i t es m scan → IsLastOpen s i t es n scan
last_kept s i t es m n scan l h = record { last = h.last; before = l; least = h.least; greatest = h.greatest; several = h.several }

pub last_skipped : (s : Trail) (i t : ℕ) (es : List ℕ) (k : ℕ) (scan : Scan) → IsLastOpen s i t es k scan → IsLastOpen s i t es (k + 1) scan
last_skipped s i t es k scan h = last_kept s i t es k (k + 1) scan (λ z. let l = h.before z in omega (arith, l)) h

pub last_scanned : (s : Trail) (i t : ℕ) (es : List ℕ) (k : ℕ) (scan : Scan) → IsLastOpen s i t es k scan → IsLastOpen s i t es (scan.last + 1) scan
last_scanned s i t es k scan h = last_kept s i t es k (scan.last + 1) scan (λ z. omega arith) h

pub last_none : (s : Trail) (i t : ℕ) (es : List ℕ) (n : ℕ) (scan : Scan) → scan.open ≡ 0 → IsLastOpen s i t es n scan
last_none s i t es n scan none = record { last = λ z. absurd (omega arith); before = λ z. absurd (omega arith); least = λ z. absurd (omega arith); greatest = λ z. absurd (omega arith); several = λ z. absurd (omega arith) }

-- the places so far that the index may have are open, one place more
pub places_more : (s : Trail) (i t : ℕ) (es : List ℕ) (from n : ℕ) (old new : List Narrowing) → (AreTrue s old → (k : ℕ) → from ≤ k → k < n → IsOpenTo s i (pos k) → IsOpenPlace s i t es k) → LeavesAtRest s (IsOpenTo s i (pos n) → IsOpenPlace s i t es n) old new
    → AreTrue s new → (k : ℕ) → from ≤ k → k < n + 1 → IsOpenTo s i (pos k) → IsOpenPlace s i t es k
places_more s i t es from n old new h v trues k a l o = elim (cases_lt k n) [
  | inl before ↦ h (v.before trues) k a before o
  | inr after ↦ (let e : k ≡ n = omega arith in subst (λ j. IsOpenPlace s i t es j) (sym e) (v.left trues (subst (λ j. IsOpenTo s i (pos j)) e o)))
]

place_of : (x high : ℤ) (n : ℕ) → pos 0 ≤ℤ x → x ≤ℤ high → high ≡ pos (n - 1) → 0 < n → (k : ℕ) × (x ≡ pos k) × (k < n)
place_of (pos k) high n low up is some = (k, refl, omega (arith, ints, up, is, some))
place_of (negsuc k) high n low up is some = absurd (omega (arith, ints, low))

pub places_all : (s : Trail) (i t : ℕ) (es : List ℕ) (I : Window) (low high p q last : ℤ) (from to n : ℕ) → ((x : ℤ) → contains I x ≡ admits s.first s.entries i x) → ((x : ℤ) → contains I x ≡ true → low ≤ℤ x) → ((x : ℤ) → contains I x ≡ true → x ≤ℤ high)
    → p ≡ low → q ≡ high → ((k : ℕ) → p ≤ℤ pos k → from ≤ k) → ((k : ℕ) → k < length es → pos k ≤ℤ q → k < to) → to ≤ n → last ≡ pos (length es - 1) → 0 < length es → IsBetween s i (pos 0) last
    → ((k : ℕ) → from ≤ k → k < n → IsOpenTo s i (pos k) → IsOpenPlace s i t es k) → AreOpenPlaces s i t es
places_all s i t es I low high p q last from to n ofI least greatest isp isq first end past islast some between h = record {
  at = λ x o.
      (let b = between.at x o in
      let k = place_of x last (length es) b.0 b.1 islast some in (
        k.0,
        k.1,
        here k.0 k.2 (subst (λ (v : ℤ). IsOpenTo s i v) k.1 o),
      ));
}
  where
    here : (k : ℕ) → k < length es → IsOpenTo s i (pos k) → IsOpenPlace s i t es k
    here k l o =
        let inside : contains I (pos k) ≡ true = ofI (pos k) ∙ o in
        let lo : p ≤ℤ pos k = subst (λ (v : ℤ). v ≤ℤ pos k) (sym isp) (least (pos k) inside) in
        let hi : pos k ≤ℤ q = subst (λ (v : ℤ). pos k ≤ℤ v) (sym isq) (greatest (pos k) inside) in
        let before = end k l hi in
        h k (first k lo) (omega arith) o

-- what is open where nothing is left to narrow
pub strong_by : (s : Trail) (i t : ℕ) (es : List ℕ) (scan : Scan) → 0 < scan.open → IsScanned s i t es scan → AreOpenPlaces s i t es → AreEndsKept s t es scan → IsStrongElement s i t es
strong_by s i t es scan some h places kept = record {
  places = places.at;
  low = λ x o. (scan.least, h.last.least some, (kept.target.at x o).0);
  high = λ x o. (scan.greatest, h.last.greatest some, (kept.target.at x o).1);
  last_low = λ k v l. (let a = alone k v l in kept.low a.0 v (subst (λ n. IsOpenTo s (get_or es n 0) v) (sym a.1) l.value));
  last_high = λ k v l. (let a = alone k v l in kept.high a.0 v (subst (λ n. IsOpenTo s (get_or es n 0) v) (sym a.1) l.value));
}
  where
    same_place : (j k : ℕ) → pos j ≡ pos k → j ≡ k
    same_place j k e = cc

    alone : (k : ℕ) (v : ℤ) → IsLastValue s i es k v → (scan.open ≡ 1) × (scan.last ≡ k)
    alone k v l =
        let at = same_place scan.last k (l.alone (pos scan.last) (h.last.last some).place) in
        elim (cases_eq scan.open 1) [
          | inl one ↦ (one, at)
          | inr ne ↦ (let other = h.last.several some ne in absurd (other.1 (same_place other.0 k (l.alone (pos other.0) other.2) ∙ sym at)))
        ]

min_first : (a b : ℤ) → a ≤ℤ b → int_min a b ≡ a
min_first a b h = grind (arith, ints)

min_second : (a b : ℤ) → b ≤ℤ a → int_min a b ≡ b
min_second a b h = grind (arith, ints)

max_first : (a b : ℤ) → b ≤ℤ a → int_max a b ≡ a
max_first a b h = grind (arith, ints)

max_second : (a b : ℤ) → a ≤ℤ b → int_max a b ≡ b
max_second a b h = grind (arith, ints)

-- the lesser and the greater of two ends
pub end_min : (count : ℕ) (own old v : ℤ) → v ≡ int_min old own → 0 < count → IsEndOf count own old v
end_min count own old v is some = elim (either old own) [
  | inl le ↦ record { is = inr (some, is ∙ min_first old own le) }
  | inr ge ↦ record { is = inl (is ∙ min_second old own ge) }
]

pub end_max : (count : ℕ) (own old v : ℤ) → v ≡ int_max old own → 0 < count → IsEndOf count own old v
end_max count own old v is some = elim (either old own) [
  | inl le ↦ record { is = inl (is ∙ max_second old own le) }
  | inr ge ↦ record { is = inr (some, is ∙ max_first old own ge) }
]
