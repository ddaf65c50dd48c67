-- Instances of one model with the same sums have the same domains, so that the model alone says how many conflicts are
-- enough.
use Rattle.std.proofs.Common.{ℕ, zero, suc, ◌+◌, ◌-◌, ◌^◌, ◌≤◌, ◌<◌, ℤ, pos, ◌+ℤ◌, ◌≤ℤ◌, ◌<ℤ◌, ◌*ℤ◌, ◌≡◌, ◌∙◌, ◌⊎◌, inl, inr, Bool, true, false, true≢false, List, [], ◌∷◌, length, get_or, refl, sym, ap, subst, arith}
use Rattle.std.specs.Prelude.{◌||◌}
use Rattle.std.specs.Int.{int_min, int_max}
use Rattle.std.specs.List.{All}
use Rattle.std.proofs.lemmas.Bool.{cases_lt}
use Rattle.std.proofs.lemmas.Int.{ints}
use Rattle.std.proofs.lemmas.List.{ext_get_or}
use Rattle.std.proofs.lemmas.List.Elements.{All-get_or, All-head, All-tail}
use Rattle.cps_model.specs.declared.model.CpModel.{CpModel}
use Rattle.cps_model.specs.Within.{is_within as is_within_bounds}
use Rattle.cps_domain.specs.Window.{within, is_among, RisesFrom}
use Rattle.cps_domain.proofs.Rising.{above_low}
use Rattle.cps_domain.proofs.Tests.{within_low, within_high, is_within, or_cases}
use Rattle.cps_instance.specs.declared.term.Term.{Term}
use Rattle.cps_instance.specs.Terms.{Domains, Intervals, AreIntervals, domain_at, greatest_of, greatest_of_terms, least_of, least_of_terms, term_subjects}
use Rattle.cps_instance.specs.Sums.{AreSumsFrom, DefinedSum, IsSumOf, greatest_sum_of, least_sum_of}
use Rattle.cps_instance.specs.Problem.{AreDomains, IsInstance, Problem, bounds_at, variable_count}
use Rattle.cps_search.specs.Enough.{enough, spare_values}

-- ---- rising intervals with the same numbers are the same

here : (a b : Bool) → a ≡ true → (a || b) ≡ true
here a b e = rw e refl

there : (a b : Bool) → b ≡ true → (a || b) ≡ true
there true b e = refl
there false b e = e

less_or : (a b : ℤ) → (a ≤ℤ b) ⊎ (b <ℤ a)
less_or a b = grind (arith, ints)

abbrev Sub : Intervals → Intervals → Type 0
Sub ps qs = (x : ℤ) → is_among ps x ≡ true → is_among qs x ≡ true

rising_above : (low : ℤ) (p : ℤ × ℤ) (ps : Intervals) (x : ℤ) → RisesFrom low (p ∷ ps) → is_among (p ∷ ps) x ≡ true → p.0 ≤ℤ x
rising_above low p ps x h e = elim (or_cases (within x p) (is_among ps x) e) [
  | inl w ↦ within_low x p w
  | inr w ↦ (let a = above_low (p.1 +ℤ pos 1) x ps h.3 w in let o = h.1 in omega (arith, ints))
]

first_among : (low : ℤ) (p : ℤ × ℤ) (ps : Intervals) → RisesFrom low (p ∷ ps) → is_among (p ∷ ps) p.0 ≡ true
first_among low p ps h = here (within p.0 p) (is_among ps p.0) (is_within p.0 p (omega (arith, ints)) h.1)

starts : (low low' : ℤ) (p q : ℤ × ℤ) (ps qs : Intervals) → RisesFrom low (p ∷ ps) → RisesFrom low' (q ∷ qs) → Sub (p ∷ ps) (q ∷ qs) → q.0 ≤ℤ p.0
starts low low' p q ps qs h k sub = rising_above low' q qs p.0 k (sub p.0 (first_among low p ps h))

ends : (low low' : ℤ) (p q : ℤ × ℤ) (ps qs : Intervals) → RisesFrom low (p ∷ ps) → RisesFrom low' (q ∷ qs) → Sub (p ∷ ps) (q ∷ qs) → p.0 ≤ℤ q.0 → p.1 ≤ℤ q.1
ends low low' p q ps qs h k sub start = elim (less_or p.1 q.1) [
  | inl l ↦ l
  | inr past ↦ (
      let o = k.1 in
      let inside : within (q.1 +ℤ pos 1) p ≡ true = is_within (q.1 +ℤ pos 1) p (omega (arith, start, o, ints)) (omega (arith, past, ints)) in
      elim (or_cases (within (q.1 +ℤ pos 1) q) (is_among qs (q.1 +ℤ pos 1)) (sub (q.1 +ℤ pos 1) (here (within (q.1 +ℤ pos 1) p) (is_among ps (q.1 +ℤ pos 1)) inside))) [
        | inl w ↦ (let a = within_high (q.1 +ℤ pos 1) q w in absurd (omega (arith, a, ints)))
        | inr w ↦ (let a = above_low (q.1 +ℤ pos 1) (q.1 +ℤ pos 1) qs k.3 w in absurd (omega (arith, a, ints)))
      ])
]

rest : (low low' : ℤ) (p q : ℤ × ℤ) (ps qs : Intervals) → RisesFrom low (p ∷ ps) → RisesFrom low' (q ∷ qs) → Sub (p ∷ ps) (q ∷ qs) → q.1 ≤ℤ p.1 → Sub ps qs
rest low low' p q ps qs h k sub end x e = elim (or_cases (within x q) (is_among qs x) (sub x (there (within x p) (is_among ps x) e))) [
  | inr w ↦ w
  | inl w ↦ (let a = within_high x q w in let b = above_low (p.1 +ℤ pos 1) x ps h.3 e in absurd (omega (arith, a, b, end, ints)))
]

both_ways : (a b : ℤ) → a ≤ℤ b → b ≤ℤ a → a ≡ b
both_ways a b l m = omega (arith, l, m, ints)

pair_same : (p q : ℤ × ℤ) → p.0 ≡ q.0 → p.1 ≡ q.1 → p ≡ q
pair_same p q a b = ap (λ (x : ℤ). (x, p.1)) a ∙ ap (λ (y : ℤ). (q.0, y)) b

same_intervals : (low low' : ℤ) (ps qs : Intervals) → RisesFrom low ps → RisesFrom low' qs → Sub ps qs → Sub qs ps → ps ≡ qs
same_intervals low low' [] [] h k sub sup = refl
same_intervals low low' [] (q ∷ qs) h k sub sup = absurd (true≢false (sym (sup q.0 (first_among low' q qs k))))
same_intervals low low' (p ∷ ps) [] h k sub sup = absurd (true≢false (sym (sub p.0 (first_among low p ps h))))
same_intervals low low' (p ∷ ps) (q ∷ qs) h k sub sup =
    let s = starts low low' p q ps qs h k sub in
    let t = starts low' low q p qs ps k h sup in
    let e = ends low low' p q ps qs h k sub t in
    let f = ends low' low q p qs ps k h sup s in
    ap (λ (r : ℤ × ℤ). r ∷ ps) (pair_same p q (both_ways p.0 q.0 t s) (both_ways p.1 q.1 e f))
    ∙ ap (λ (rs : Intervals). q ∷ rs) (same_intervals (p.1 +ℤ pos 1) (q.1 +ℤ pos 1) ps qs h.3 k.3 (rest low low' p q ps qs h k sub f) (rest low' low q p qs ps k h sup e))

-- ---- sums over the same domains have the same hull

least_same : (ds es : Domains) (n : ℕ) (ts : List Term) → ((i : ℕ) → i < n → domain_at ds i ≡ domain_at es i) → All (λ j. j < n) (term_subjects ts) → least_of_terms ds ts ≡ least_of_terms es ts
least_same ds es n [] same h = refl
least_same ds es n (t ∷ ts) same h =
    let at = same t.subject (All-head (λ (j : ℕ). j < n) t.subject (term_subjects ts) h) in
    ap (λ (d : Intervals). int_min (t.coeff *ℤ least_of d) (t.coeff *ℤ greatest_of d) +ℤ least_of_terms ds ts) at
    ∙ ap (λ (z : ℤ). int_min (t.coeff *ℤ least_of (domain_at es t.subject)) (t.coeff *ℤ greatest_of (domain_at es t.subject)) +ℤ z) (least_same ds es n ts same (All-tail (λ (j : ℕ). j < n) t.subject (term_subjects ts) h))

greatest_same : (ds es : Domains) (n : ℕ) (ts : List Term) → ((i : ℕ) → i < n → domain_at ds i ≡ domain_at es i) → All (λ j. j < n) (term_subjects ts) → greatest_of_terms ds ts ≡ greatest_of_terms es ts
greatest_same ds es n [] same h = refl
greatest_same ds es n (t ∷ ts) same h =
    let at = same t.subject (All-head (λ (j : ℕ). j < n) t.subject (term_subjects ts) h) in
    ap (λ (d : Intervals). int_max (t.coeff *ℤ least_of d) (t.coeff *ℤ greatest_of d) +ℤ greatest_of_terms ds ts) at
    ∙ ap (λ (z : ℤ). int_max (t.coeff *ℤ least_of (domain_at es t.subject)) (t.coeff *ℤ greatest_of (domain_at es t.subject)) +ℤ z) (greatest_same ds es n ts same (All-tail (λ (j : ℕ). j < n) t.subject (term_subjects ts) h))

sum_at : (ds : Domains) (n : ℕ) (ss : List DefinedSum) (d : DefinedSum) (j : ℕ) → AreSumsFrom ds n ss → j < length ss → IsSumOf ds (n + j) (get_or ss j d)
sum_at ds n [] d j h l = absurd (omega (arith, l))
sum_at ds n (s ∷ ss) d zero h l = let e : n ≡ n + zero = omega arith in subst (λ (k : ℕ). IsSumOf ds k s) e h.0
sum_at ds n (s ∷ ss) d (suc j) h l = let e : (n + 1) + j ≡ n + suc j = omega arith in subst (λ (k : ℕ). IsSumOf ds k (get_or ss j d)) e (sum_at ds (n + 1) ss d j h.1 (omega (arith, l)))

-- ---- the domains

module _ (p q : Problem) (h : AreDomains p) (k : AreDomains q) (model : q.model ≡ p.model) (defs : q.defs ≡ p.defs) where
  same_length : length q.domains ≡ length p.domains
  same_length = k.count ∙ ap (λ (m : CpModel). length m.variables + length q.defs) model ∙ ap (λ (ds : List DefinedSum). variable_count p + length ds) defs ∙ sym h.count

  variable_same : (i : ℕ) → i < variable_count p → domain_at p.domains i ≡ domain_at q.domains i
  variable_same i l =
      let there' : i < variable_count q = subst (λ (m : CpModel). i < length m.variables) (sym model) l in
      let in_p : i < length p.domains = omega (arith, l, h.count) in
      let in_q : i < length q.domains = omega (arith, in_p, same_length) in
      let one : AreIntervals (domain_at p.domains i) = All-get_or AreIntervals p.domains i [] in_p h.sound in
      let two : AreIntervals (domain_at q.domains i) = All-get_or AreIntervals q.domains i [] in_q k.sound in
      let same : (x : ℤ) → is_among (domain_at q.domains i) x ≡ is_among (domain_at p.domains i) x = λ x.
      k.variables i x there' ∙ ap (λ (m : CpModel). is_within_bounds (bounds_at m.variables i) x) model ∙ sym (h.variables i x l) in
      same_intervals _ _ (domain_at p.domains i) (domain_at q.domains i) one.rising two.rising (λ x e. same x ∙ e) (λ x e. sym (same x) ∙ e)

  sum_same : (j : ℕ) → j < length p.defs → ((i : ℕ) → i < variable_count p + j → domain_at p.domains i ≡ domain_at q.domains i) → domain_at p.domains (variable_count p + j) ≡ domain_at q.domains (variable_count p + j)
  sum_same j l before =
      let blank : DefinedSum = record { terms = []; offset = pos 0 } in
      let s = get_or p.defs j blank in
      let one : IsSumOf p.domains (variable_count p + j) s = sum_at p.domains (variable_count p) p.defs blank j h.sums l in
      let sums : AreSumsFrom q.domains (variable_count p) p.defs = subst (λ (m : CpModel). AreSumsFrom q.domains (length m.variables) p.defs) model (subst (λ (ds : List DefinedSum). AreSumsFrom q.domains (variable_count q) ds) defs k.sums) in
      let two : IsSumOf q.domains (variable_count p + j) s = sum_at q.domains (variable_count p) p.defs blank j sums l in
      let low : least_sum_of p.domains s ≡ least_sum_of q.domains s = ap (λ (z : ℤ). z +ℤ s.offset) (least_same p.domains q.domains (variable_count p + j) s.terms before one.earlier) in
      let high : greatest_sum_of p.domains s ≡ greatest_sum_of q.domains s = ap (λ (z : ℤ). z +ℤ s.offset) (greatest_same p.domains q.domains (variable_count p + j) s.terms before one.earlier) in
      one.domain ∙ ap (λ (r : ℤ × ℤ). r ∷ []) (pair_same (least_sum_of p.domains s, greatest_sum_of p.domains s) (least_sum_of q.domains s, greatest_sum_of q.domains s) low high) ∙ sym two.domain

  same_below : (n : ℕ) → n ≤ length p.domains → (i : ℕ) → i < n → domain_at p.domains i ≡ domain_at q.domains i
  same_below zero l i less = absurd (omega (arith, less))
  same_below (suc n) l i less = elim (cases_lt i n) [
    | inl below ↦ same_below n (omega (arith, l)) i below
    | inr last ↦ elim (cases_lt i (variable_count p)) [
      | inl variable ↦ variable_same i variable
      | inr later ↦ (
          let at : i ≡ variable_count p + (i - variable_count p) = omega (arith, later) in
          subst (λ (m : ℕ). domain_at p.domains m ≡ domain_at q.domains m) (sym at)
          (sum_same (i - variable_count p) (omega (arith, l, less, later, h.count)) (λ m below. same_below n (omega (arith, l)) m (omega (arith, below, less, later)))))
    ]
  ]

  same_domains : p.domains ≡ q.domains
  same_domains = ext_get_or [] p.domains q.domains (sym same_length) (same_below (length p.domains) (omega arith))

-- the same number is enough
pub enough_alike : (p q : Problem) → IsInstance p → IsInstance q → q.model ≡ p.model → q.defs ≡ p.defs → enough q ≡ enough p
enough_alike p q h k model defs = ap (λ (ds : Domains). 2 ^ (spare_values ds [] + 1)) (sym (same_domains p q h.domains k.domains model defs))
