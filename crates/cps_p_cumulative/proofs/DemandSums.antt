-- The demand of parts at a time, by sums over their starts and their ends.
use Rattle.std.proofs.Common.{ℕ, zero, suc, ◌+◌, ◌-◌, ◌<◌, ◌≤◌, ◌^◌, ℤ, ◌≤ℤ◌, ◌<ℤ◌, ◌≡◌, ◌⊎◌, inl, inr, Bool, true, false, cond, List, [], ◌∷◌, length, get_or, take, drop, refl, sym, ap, subst, arith}
use Rattle.std.specs.Prelude.{int_le}
use Rattle.std.specs.List.{All, sum_by}
use Rattle.std.specs.List.Sorted.{IsPermutation}
use Rattle.std.proofs.lemmas.Int.{ints}
use Rattle.std.proofs.lemmas.List.{take_all, get_or_default, length-take, length-drop, get_or-take, get_or-drop}
use Rattle.std.proofs.lemmas.List.Elements.{All-head, All-tail}
use Rattle.std.proofs.lemmas.List.Sums.{sum_by-cons, sum_by-take-drop, sum_by-take-le, sum_by_more}
use Rattle.std.proofs.lemmas.List.Sorted.{sum_by-IsPermutation, All-permutation}
use Rattle.cps_domain.proofs.Tests.{true_le, le_true, false_le, le_false}
use Rattle.cps_p_cumulative.specs.declared.part.Part.{Part}
use Rattle.cps_p_cumulative.specs.Profile.{at, height, AreParts, FitsCapacity, IsOverCapacity, IsEndedBy, PassesEnds, StopsAt, IsSweptAt, IsSwept}
use Rattle.cps_p_cumulative.specs.declared.judge.Ended.{Ended}

-- what a part demands if it began by a time, and if it ended by it
abbrev begun : ℤ → Part → ℕ
begun t p = cond (int_le p.from t) p.demand 0

abbrev ended : ℤ → Part → ℕ
ended t p = cond (int_le p.to t) p.demand 0

both_ways : (t : ℤ) (p : Part) → p.from ≤ℤ p.to → at t p + ended t p ≡ begun t p
both_ways t p o = grind (arith, ints)

sums : (t : ℤ) (ps : List Part) → All (λ p. p.from ≤ℤ p.to) ps → height t ps + sum_by (ended t) ps ≡ sum_by (begun t) ps
sums t [] h = refl
sums t (p ∷ ps) h =
    let one = both_ways t p (All-head (λ q. q.from ≤ℤ q.to) p ps h) in
    let rest = sums t ps (All-tail (λ q. q.from ≤ℤ q.to) p ps h) in
    omega (arith, sum_by-cons (at t) p ps, sum_by-cons (ended t) p ps, sum_by-cons (begun t) p ps)

-- a sum of terms that are no greater
no_more : (f g : Part → ℕ) (ps : List Part) (d : Part) → ((k : ℕ) → k < length ps → f (get_or ps k d) ≤ g (get_or ps k d)) → sum_by f ps ≤ sum_by g ps
no_more f g [] d h = omega arith
no_more f g (p ∷ ps) d h =
    let one = h 0 (omega arith) in
    let rest = no_more f g ps d (λ k l. h (suc k) (omega arith)) in
    omega (arith, sum_by-cons f p ps, sum_by-cons g p ps)

-- the last part that began by a time, or none did
last_begun : (t : ℤ) (ps : List Part) (d : Part) (n : ℕ) → ((k : ℕ) × (k < n) × ((get_or ps k d).from ≤ℤ t) × ((j : ℕ) → k < j → j < n → t <ℤ (get_or ps j d).from)) ⊎ ((j : ℕ) → j < n → t <ℤ (get_or ps j d).from)
last_begun t ps d zero = inr (λ j l. absurd (omega arith))
last_begun t ps d (suc n) = elim (test (int_le (get_or ps n d).from t)) [
  | inl e ↦ inl (n, omega arith, true_le (get_or ps n d).from t e, λ j l m. absurd (omega arith))
  | inr e ↦ elim (last_begun t ps d n) [
    | inl h ↦ inl (h.0, (let l = h.1 in omega arith), h.2, λ j l m. at_or j m (λ i. h.3 j l i) (false_le (get_or ps n d).from t e))
    | inr h ↦ inr (λ j m. at_or j m (λ i. h j i) (false_le (get_or ps n d).from t e))
  ]
]
  where
    test : (b : Bool) → (b ≡ true) ⊎ (b ≡ false)
    test true = inl refl
    test false = inr refl

    last_or : (k m : ℕ) → k < suc m → (k < m) ⊎ (k ≡ m)
    last_or k m l = grind arith

    at_or : (j : ℕ) → j < suc n → (j < n → t <ℤ (get_or ps j d).from) → t <ℤ (get_or ps n d).from → t <ℤ (get_or ps j d).from
    at_or j l before here = elim (last_or j n l) [ inl i ↦ before i | inr i ↦ subst (λ (u : ℕ). t <ℤ (get_or ps u d).from) (sym i) here ]

abbrev demand : Part → ℕ
demand p = p.demand

begun_most : (t : ℤ) (p : Part) → begun t p ≤ demand p
begun_most t p = grind arith

not_begun : (t : ℤ) (p : Part) → t <ℤ p.from → begun t p ≤ 0
not_begun t p h = let e = le_false p.from t h in omega (arith, ap (λ b. cond {A = ℕ} b p.demand 0) e)

has_ended : (t : ℤ) (p : Part) → p.to ≤ℤ t → demand p ≤ ended t p
has_ended t p h = let e = le_true p.to t h in omega (arith, ap (λ b. cond {A = ℕ} b p.demand 0) e)

abbrev zero_of : Part → ℕ
zero_of p = 0

sum_zero : (ps : List Part) → sum_by zero_of ps ≡ 0
sum_zero [] = refl
sum_zero (p ∷ ps) = let rest = sum_zero ps in omega (arith, sum_by-cons zero_of p ps)

-- what began by a time is no more than the parts up to the last that did
begun_sum : (t : ℤ) (ps : List Part) (d : Part) (n : ℕ) → ((j : ℕ) → n ≤ j → j < length ps → t <ℤ (get_or ps j d).from) → sum_by (begun t) ps ≤ sum_by demand (take n ps)
begun_sum t ps d n h =
    let whole = sum_by-take-drop (begun t) ps n in
    let front = no_more (begun t) demand (take n ps) d (λ k l. begun_most t (get_or (take n ps) k d)) in
    let back = no_more (begun t) zero_of (drop n ps) d (λ k l. later k l) in
    let none = sum_zero (drop n ps) in
    omega arith
  where
    later : (k : ℕ) → k < length (drop n ps) → begun t (get_or (drop n ps) k d) ≤ zero_of (get_or (drop n ps) k d)
    later k l =
        let here = length-drop n ps in
        let P : Part → Type 0 = λ q. begun t q ≤ 0 in
        subst P (sym (get_or-drop n ps k d)) (not_begun t (get_or ps (n + k) d) (h (n + k) (omega arith) (omega arith)))

-- those that ended by a time are among all that did
ended_sum : (t : ℤ) (ps : List Part) (d : Part) (n : ℕ) → ((j : ℕ) → j < n → (get_or ps j d).to ≤ℤ t) → sum_by demand (take n ps) ≤ sum_by (ended t) ps
ended_sum t ps d n h =
    let part = sum_by-take-le (ended t) ps n in
    let front = no_more demand (ended t) (take n ps) d (λ k l. within k l) in
    omega arith
  where
    within : (k : ℕ) → k < length (take n ps) → demand (get_or (take n ps) k d) ≤ ended t (get_or (take n ps) k d)
    within k l =
        let size = length-take n ps in
        let k' : k < n = omega arith in
        let P : Part → Type 0 = λ q. demand q ≤ ended t q in
        subst P (sym (get_or-take n ps k d k')) (has_ended t (get_or ps k d) (h k k'))

pub FitsCapacity-swept : (ps starts ends : List Part) (capacity : ℕ) (d : Part) → AreParts ps → IsPermutation ps starts → IsPermutation ps ends → IsSwept starts ends capacity → FitsCapacity ps capacity
FitsCapacity-swept ps starts ends capacity d parts s e swept = record {
  room = λ t.
      let a = sum_by-IsPermutation (begun t) ps starts s in
      let b = sum_by-IsPermutation (ended t) ps ends e in
      let c = sums t ps parts.ordered in
      elim (last_begun t starts d (length starts)) [
        | inr none ↦
            let z = begun_sum t starts d 0 (λ j l m. none j m) in
            omega arith
        | inl k ↦
            let w = swept.all k.0 k.1 in
            let x = begun_sum t starts d (k.0 + 1) (λ j l m. k.3 j (omega arith) m) in
            let y = ended_sum t ends d w.count (λ j l. (let p = w.passed j d d l in let q = k.2 in omega (arith, ints))) in
            let z = w.sum in
            omega arith
      ];
}

-- the greatest start by a time, or none
greatest_begun : (t : ℤ) (ps : List Part) (d : Part) (n : ℕ)
    → ((k : ℕ) × (k < n) × ((get_or ps k d).from ≤ℤ t) × ((j : ℕ) → j < n → (get_or ps j d).from ≤ℤ t → (get_or ps j d).from ≤ℤ (get_or ps k d).from)) ⊎ ((j : ℕ) → j < n → t <ℤ (get_or ps j d).from)
greatest_begun t ps d zero = inr (λ j l. absurd (omega arith))
greatest_begun t ps d (suc n) = elim (greatest_begun t ps d n) [
  | inr h ↦ elim (test (int_le (get_or ps n d).from t)) [
    | inl e ↦ inl (n, omega arith, true_le (get_or ps n d).from t e, λ j l b. first j l b h)
    | inr e ↦ inr (λ j l. elim (last_or j n l) [ inl i ↦ h j i | inr i ↦ subst (λ (u : ℕ). t <ℤ (get_or ps u d).from) (sym i) (false_le (get_or ps n d).from t e) ])
  ]
  | inl h ↦ elim (test (int_le (get_or ps n d).from t)) [
    | inr e ↦ inl (h.0, (let l = h.1 in omega arith), h.2, λ j l b. skipped j l b h.0 (λ i. h.3 j i b) (false_le (get_or ps n d).from t e))
    | inl e ↦ elim (test (int_le (get_or ps n d).from (get_or ps h.0 d).from)) [
      | inl less ↦ inl (h.0, (let l = h.1 in omega arith), h.2, λ j l b. kept j l h.0 (λ i. h.3 j i b) (true_le (get_or ps n d).from (get_or ps h.0 d).from less))
      | inr more ↦ inl (n, omega arith, true_le (get_or ps n d).from t e, λ j l b. moved j l h.0 (λ i. h.3 j i b) (false_le (get_or ps n d).from (get_or ps h.0 d).from more))
    ]
  ]
]
  where
    test : (b : Bool) → (b ≡ true) ⊎ (b ≡ false)
    test true = inl refl
    test false = inr refl

    last_or : (k m : ℕ) → k < suc m → (k < m) ⊎ (k ≡ m)
    last_or k m l = grind arith

    same_from : (j : ℕ) → j ≡ n → (get_or ps j d).from ≡ (get_or ps n d).from
    same_from j i = ap (λ (u : ℕ). (get_or ps u d).from) i

    first : (j : ℕ) → j < suc n → (get_or ps j d).from ≤ℤ t → ((j : ℕ) → j < n → t <ℤ (get_or ps j d).from) → (get_or ps j d).from ≤ℤ (get_or ps n d).from
    first j l b h = elim (last_or j n l) [ inl i ↦ (let x = h j i in absurd (omega (arith, ints))) | inr i ↦ (let x = same_from j i in omega (arith, ints)) ]

    skipped : (j : ℕ) → j < suc n → (get_or ps j d).from ≤ℤ t → (k : ℕ) → (j < n → (get_or ps j d).from ≤ℤ (get_or ps k d).from) → t <ℤ (get_or ps n d).from → (get_or ps j d).from ≤ℤ (get_or ps k d).from
    skipped j l b k h past = elim (last_or j n l) [ inl i ↦ h i | inr i ↦ (let x = same_from j i in absurd (omega (arith, ints))) ]

    kept : (j : ℕ) → j < suc n → (k : ℕ) → (j < n → (get_or ps j d).from ≤ℤ (get_or ps k d).from) → (get_or ps n d).from ≤ℤ (get_or ps k d).from → (get_or ps j d).from ≤ℤ (get_or ps k d).from
    kept j l k h less = elim (last_or j n l) [ inl i ↦ h i | inr i ↦ (let x = same_from j i in omega (arith, ints)) ]

    moved : (j : ℕ) → j < suc n → (k : ℕ) → (j < n → (get_or ps j d).from ≤ℤ (get_or ps k d).from) → (get_or ps k d).from <ℤ (get_or ps n d).from → (get_or ps j d).from ≤ℤ (get_or ps n d).from
    moved j l k h more = elim (last_or j n l) [ inl i ↦ (let x = h i in omega (arith, ints)) | inr i ↦ (let x = same_from j i in omega (arith, ints)) ]

not_there : (t : ℤ) (p : Part) → t <ℤ p.from → at t p ≤ 0
not_there t p h = grind (arith, ints)

there_too : (t u : ℤ) (p : Part) → u ≤ℤ t → (p.from ≤ℤ t → p.from ≤ℤ u) → at t p ≤ at u p
there_too t u p l h = elim (test (int_le p.from t)) [
  | inl e ↦ (let a = true_le p.from t e in let b = h a in began t u p l b)
  | inr e ↦ (let a = false_le p.from t e in let b = not_there t p a in omega arith)
]
  where
    test : (b : Bool) → (b ≡ true) ⊎ (b ≡ false)
    test true = inl refl
    test false = inr refl

    began : (t u : ℤ) (p : Part) → u ≤ℤ t → p.from ≤ℤ u → at t p ≤ at u p
    began t u p l b = grind (arith, ints)

-- where each start is tried, no time is overloaded: a time has no more than the greatest start by it
pub FitsCapacity-tried : (ps : List Part) (capacity : ℕ) (d : Part) → ((k : ℕ) → k < length ps → height (get_or ps k d).from ps ≤ capacity) → FitsCapacity ps capacity
FitsCapacity-tried ps capacity d tried = record {
  room = λ t. elim (greatest_begun t ps d (length ps)) [
    | inr none ↦
        let a = no_more (at t) zero_of ps d (λ k l. not_there t (get_or ps k d) (none k l)) in
        let b = sum_zero ps in
        omega arith
    | inl k ↦
        let a = no_more (at t) (at (get_or ps k.0 d).from) ps d (λ j l. there_too t (get_or ps k.0 d).from (get_or ps j d) k.2 (λ b. k.3 j l b)) in
        let b = tried k.0 k.1 in
        omega arith
  ];
}

pub at_most : (t : ℤ) (p : Part) → at t p ≤ p.demand
at_most t p = grind arith

pub AreParts-permutation : (ps qs : List Part) → AreParts ps → IsPermutation ps qs → AreParts qs
AreParts-permutation ps qs h m = record {
  ordered = All-permutation (λ p. p.from ≤ℤ p.to) ps qs m h.ordered;
  small = All-permutation (λ p. p.demand < 2 ^ 63) ps qs m h.small;
}

pub last_or : (k n : ℕ) → k < n + 1 → (k < n) ⊎ (k ≡ n)
last_or k n l = grind arith

-- one more place of a sweep
pub swept_more : (starts ends : List Part) (capacity k m : ℕ) (d : Part) → k < length starts → ((j : ℕ) (e : Part) → j < m → (get_or ends j e).to ≤ℤ (get_or starts k d).from)
    → sum_by (λ p. p.demand) (take (k + 1) starts) ≤ sum_by (λ p. p.demand) (take m ends) + capacity → ((j : ℕ) → j < k → IsSweptAt starts ends capacity j) → (j : ℕ) → j < k + 1 → IsSweptAt starts ends capacity j
swept_more starts ends capacity k m d l passed sum before j i = elim (last_or j k i) [
  | inl h ↦ before j h
  | inr h ↦ subst (λ (u : ℕ). IsSweptAt starts ends capacity u) (sym h) (record {
    count = m;
    passed = λ g e f b. (let same : (get_or starts k f).from ≡ (get_or starts k d).from = ap (λ p. p.from) (get_or_default starts k f d l) in let x = passed g e b in omega (arith, ints));
    sum = sum;
  })
]

pub tried_more : (ps : List Part) (capacity k : ℕ) (c : Part) → k < length ps → height (get_or ps k c).from ps ≤ capacity → ((j : ℕ) (d : Part) → j < k → height (get_or ps j d).from ps ≤ capacity)
    → (j : ℕ) (d : Part) → j < k + 1 → height (get_or ps j d).from ps ≤ capacity
tried_more ps capacity k c l here before j d i = elim (last_or j k i) [
  | inl h ↦ before j d h
  | inr h ↦ subst (λ (u : ℕ). height (get_or ps u d).from ps ≤ capacity) (sym h) (subst (λ (p : Part). height p.from ps ≤ capacity) (get_or_default ps k c d l) here)
]

-- what is demanded after a start, by what began and what ended
pub carries : (starts ends : List Part) (k : ℕ) (d : Part) (old new : Ended) → k < length starts → old.level + sum_by (λ p. p.demand) (take old.place ends) ≡ sum_by (λ p. p.demand) (take k starts) → PassesEnds ends old new
    → (new.level + (get_or starts k d).demand) + sum_by (λ p. p.demand) (take new.place ends) ≡ sum_by (λ p. p.demand) (take (k + 1) starts)
carries starts ends k d old new l before passes =
    let a = passes.level in
    let b = sum_by_more demand starts k d l in
    omega arith

pub at_below : (t : ℤ) (p : Part) (n : ℕ) → n ≡ at t p → n ≤ p.demand
at_below t p n e = let a = at_most t p in omega arith

pub room_all : (t : ℤ) (ps : List Part) (k sum capacity : ℕ) → length ps ≤ k → sum ≡ height t (take k ps) → sum ≤ capacity → height t ps ≤ capacity
room_all t ps k sum capacity l is below = let e = ap (height t) (take_all k ps l) in omega arith

-- one part more
pub height_more : (t : ℤ) (ps : List Part) (k sum n : ℕ) (d : Part) → k < length ps → sum ≡ height t (take k ps) → n ≡ at t (get_or ps k d) → sum + n ≡ height t (take (k + 1) ps)
height_more t ps k sum n d l is here = let e = sum_by_more (at t) ps k d l in omega arith

pub over_some : (t : ℤ) (ps : List Part) (k sum n capacity : ℕ) (d : Part) → k < length ps → sum ≡ height t (take k ps) → n ≡ at t (get_or ps k d) → capacity < sum + n → IsOverCapacity ps capacity t
over_some t ps k sum n capacity d l is here over = record {
  over = (let e = height_more t ps k sum n d l is here in let f = sum_by-take-le (at t) ps (k + 1) in omega arith);
}

-- one end more is passed
pub ended_more : (ends : List Part) (t : ℤ) (k level rest : ℕ) (d : Part) → k < length ends → (get_or ends k d).to ≤ℤ t → IsEndedBy ends (record { place = k; level = level }) t → IsEndedBy ends (record { place = k + 1; level = rest }) t
ended_more ends t k level rest d l here h = record {
  within = omega arith;
  passed = λ j e i. elim (last_or j k i) [
    | inl b ↦ h.passed j e b
    | inr b ↦ subst (λ (u : ℕ). (get_or ends u e).to ≤ℤ t) (sym b) (subst (λ (p : Part). p.to ≤ℤ t) (get_or_default ends k d e l) here)
  ];
}

-- and at a later time they have ended too
pub ended_later : (ends : List Part) (e : Ended) (t u : ℤ) → t ≤ℤ u → IsEndedBy ends e t → IsEndedBy ends e u
ended_later ends e t u l h = record { within = h.within; passed = λ j d i. (let a = h.passed j d i in omega (arith, ints)) }

-- what is demanded falls by what the end demanded
pub passes_more : (ends : List Part) (old : Ended) (k level : ℕ) (d : Part) → k < length ends → (get_or ends k d).demand ≤ level → PassesEnds ends old (record { place = k; level = level }) → PassesEnds ends old (record { place = k + 1; level = level - (get_or ends k d).demand })
passes_more ends old k level d l most h = record {
  level = (let a = h.level in let b = sum_by_more demand ends k d l in omega arith);
  less = (let a = h.less in omega arith);
}

pub passes_none : (ends : List Part) (old : Ended) → PassesEnds ends old old
passes_none ends old = record { level = refl; less = omega arith }

pub fewer_left : (n k : ℕ) → k < n → n - (k + 1) < n - k
fewer_left n k l = omega arith

-- where the next end is later
pub stops_late : (ends : List Part) (e : Ended) (t : ℤ) (z : Part) → e.place < length ends → t <ℤ (get_or ends e.place z).to → StopsAt ends e t
stops_late ends e t z l h = record { next = λ d i. inl (subst (λ (p : Part). t <ℤ p.to) (get_or_default ends e.place z d l) h) }

-- where it demands more than the level
pub stops_over : (ends : List Part) (e : Ended) (t : ℤ) (z : Part) → e.place < length ends → e.level < (get_or ends e.place z).demand → StopsAt ends e t
stops_over ends e t z l h = record { next = λ d i. inr (subst (λ (p : Part). e.level < p.demand) (get_or_default ends e.place z d l) h) }

-- where there is none
pub stops_last : (ends : List Part) (e : Ended) (t : ℤ) → length ends ≤ e.place → StopsAt ends e t
stops_last ends e t past = record { next = λ d i. absurd (omega arith) }
