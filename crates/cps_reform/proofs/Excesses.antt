-- What a core's terms are worth before and after its weights fall.
use Rattle.std.specs.Prelude.{if◌then◌else◌}
use Rattle.std.proofs.Common.{◌≡◌, inl, inr, ℕ, zero, suc, ◌+◌, ◌-◌, ◌*◌, ◌≤◌, List, [], ◌∷◌, true, false, map, refl, sym, ◌∙◌, ap, arith, rules, ℤ, pos, ◌+ℤ◌, ◌-ℤ◌, ◌*ℤ◌, ◌≤ℤ◌}
use Rattle.std.proofs.lemmas.Int.{ints}
use Rattle.std.proofs.lemmas.List.Elements.{All-head, All-tail}
use Rattle.std.proofs.Math.Nat.{add-mul, mul-add}
use Rattle.std.proofs.Math.IntN.{suc_ℤ-*ℤ, zero-*ℤ}
use Rattle.cps_literal.specs.Truth.{value_at}
use Rattle.cps_instance.specs.Terms.{Domains, domain_at, magnitude, terms_value, terms_reach}
use Rattle.cps_reform.specs.declared.held.Held.{Held}
use Rattle.cps_reform.specs.Forms.{excess, IsAbove, held_reach}
use Rattle.cps_reform.specs.Cores.{core_terms, core_bound, WeighAtLeast, IsSomeAbove, lessened}

-- the rules of a product with a weight
pub plus : (m : ℕ) (x y : ℤ) → pos m *ℤ (x +ℤ y) ≡ pos m *ℤ x +ℤ pos m *ℤ y
plus zero x y = let a = zero-*ℤ (x +ℤ y) in let b = zero-*ℤ x in let c = zero-*ℤ y in omega (arith, ints)
plus (suc m) x y =
    let rest = plus m x y in
    let a : pos (suc m) *ℤ (x +ℤ y) ≡ pos m *ℤ (x +ℤ y) +ℤ (x +ℤ y) = suc_ℤ-*ℤ (pos m) (x +ℤ y) in
    let b : pos (suc m) *ℤ x ≡ pos m *ℤ x +ℤ x = suc_ℤ-*ℤ (pos m) x in
    let c : pos (suc m) *ℤ y ≡ pos m *ℤ y +ℤ y = suc_ℤ-*ℤ (pos m) y in
    omega (arith, ints)

minus : (m : ℕ) (x y : ℤ) → pos m *ℤ (x -ℤ y) ≡ pos m *ℤ x -ℤ pos m *ℤ y
minus m x y = let e : x ≡ (x -ℤ y) +ℤ y = omega (arith, ints) in let p = plus m (x -ℤ y) y in omega (arith, ints, ap (λ (v : ℤ). pos m *ℤ v) e)

parts : (w m : ℕ) (d : ℤ) → m ≤ w → pos w *ℤ d ≡ pos (w - m) *ℤ d +ℤ pos m *ℤ d
parts w m d h = let e : pos w ≡ pos (w - m) +ℤ pos m = omega (arith, ints) in omega (arith, ints, ap (λ (v : ℤ). v *ℤ d) e)

pub one_times : (x : ℤ) → pos 1 *ℤ x ≡ x
one_times x = omega (arith, ints)

-- a term of the core gives up m, which goes over to the sums
gives : (w m : ℕ) (x b before after sum bound : ℤ) → m ≤ w → before ≡ after +ℤ pos m *ℤ (sum -ℤ bound) → pos w *ℤ (x -ℤ b) +ℤ before ≡ (pos (w - m) *ℤ (x -ℤ b) +ℤ after) +ℤ pos m *ℤ ((pos 1 *ℤ x +ℤ sum) -ℤ (b +ℤ bound))
gives w m x b before after sum bound h e =
    let p = parts w m (x -ℤ b) h in
    let both : (pos 1 *ℤ x +ℤ sum) -ℤ (b +ℤ bound) ≡ (x -ℤ b) +ℤ (sum -ℤ bound) = let o = one_times x in omega (arith, ints) in
    let q = plus m (x -ℤ b) (sum -ℤ bound) in
    omega (arith, ints, ap (λ (v : ℤ). pos m *ℤ v) both)

keeps : (here m : ℕ) (x : ℤ) (before after sum bound : ℤ) → before ≡ after +ℤ pos m *ℤ (sum -ℤ bound) → x +ℤ before ≡ (x +ℤ after) +ℤ pos m *ℤ (sum -ℤ (pos 0 +ℤ bound))
keeps here m x before after sum bound e = let z : sum -ℤ (pos 0 +ℤ bound) ≡ sum -ℤ bound = omega (arith, ints) in omega (arith, ints, ap (λ (v : ℤ). pos m *ℤ v) z)

-- the excess is that of the terms with fallen weights, and m times that of the core's sum
pub excess-lessened : (xs : List ℤ) (m : ℕ) (ts : List Held) → WeighAtLeast m ts → excess xs ts ≡ excess xs (map (lessened m) ts) +ℤ pos m *ℤ (terms_value xs (core_terms ts) -ℤ core_bound ts)
excess-lessened xs m [] h = omega (arith, ints)
excess-lessened xs m (t ∷ ts) h =
    let rest = excess-lessened xs m ts (All-tail (λ (u : Held). u.in_core ≡ true → m ≤ u.weight) t ts h) in
    let here = All-head (λ (u : Held). u.in_core ≡ true → m ≤ u.weight) t ts h in
    elim (t.in_core) as (λ b. t.in_core ≡ b → pos t.weight *ℤ (value_at xs t.subject -ℤ t.bound) +ℤ excess xs ts ≡ excess xs ((if b then record t { weight = t.weight - m; in_core = false } else t) ∷ map (lessened m) ts) +ℤ pos m *ℤ (terms_value xs (if b then record { coeff = pos 1; subject = t.subject } ∷ core_terms ts else core_terms ts) -ℤ ((if b then t.bound else pos 0) +ℤ core_bound ts))) [
      | true ↦ λ e. gives t.weight m (value_at xs t.subject) t.bound (excess xs ts) (excess xs (map (lessened m) ts)) (terms_value xs (core_terms ts)) (core_bound ts) (here e) rest
      | false ↦ λ e. keeps 0 m (pos t.weight *ℤ (value_at xs t.subject -ℤ t.bound)) (excess xs ts) (excess xs (map (lessened m) ts)) (terms_value xs (core_terms ts)) (core_bound ts) rest
    ] refl

-- where no term is below its bound, the core's sum is at least the sum of its bounds
pub core-above : (xs : List ℤ) (ts : List Held) → IsAbove xs ts → core_bound ts ≤ℤ terms_value xs (core_terms ts)
core-above xs [] h = omega (arith, ints)
core-above xs (t ∷ ts) h =
    let rest = core-above xs ts (All-tail (λ (u : Held). u.bound ≤ℤ value_at xs u.subject) t ts h) in
    let here = All-head (λ (u : Held). u.bound ≤ℤ value_at xs u.subject) t ts h in
    elim (t.in_core) as (λ b. ((if b then t.bound else pos 0) +ℤ core_bound ts) ≤ℤ terms_value xs (if b then record { coeff = pos 1; subject = t.subject } ∷ core_terms ts else core_terms ts)) [
      | true ↦ (let o = one_times (value_at xs t.subject) in omega (arith, ints))
      | false ↦ omega (arith, ints)
    ]

-- and one more where one of its terms is above its bound
pub core-some_above : (xs : List ℤ) (ts : List Held) → IsAbove xs ts → IsSomeAbove xs ts → (core_bound ts +ℤ pos 1) ≤ℤ terms_value xs (core_terms ts)
core-some_above xs [] h s = absurd s
core-some_above xs (t ∷ ts) h s =
    let others = All-tail (λ (u : Held). u.bound ≤ℤ value_at xs u.subject) t ts h in
    let here = All-head (λ (u : Held). u.bound ≤ℤ value_at xs u.subject) t ts h in
    let least = core-above xs ts others in
    elim (t.in_core) as (λ b. t.in_core ≡ b → (((if b then t.bound else pos 0) +ℤ core_bound ts) +ℤ pos 1) ≤ℤ terms_value xs (if b then record { coeff = pos 1; subject = t.subject } ∷ core_terms ts else core_terms ts)) [
      | true ↦ λ e. elim s as (λ u. ((t.bound +ℤ core_bound ts) +ℤ pos 1) ≤ℤ (pos 1 *ℤ value_at xs t.subject +ℤ terms_value xs (core_terms ts))) [
        | inl a ↦ (let o = one_times (value_at xs t.subject) in let more = a.1 in omega (arith, ints))
        | inr b ↦ (let o = one_times (value_at xs t.subject) in let rest = core-some_above xs ts others b in omega (arith, ints))
      ]
      | false ↦ λ e. elim s as (λ u. ((pos 0 +ℤ core_bound ts) +ℤ pos 1) ≤ℤ terms_value xs (core_terms ts)) [
        | inl a ↦ (let n : true ≡ false = sym a.0 ∙ e in search rules)
        | inr b ↦ (let rest = core-some_above xs ts others b in omega (arith, ints))
      ]
    ] refl

lost : (w m g after sum before : ℕ) → m ≤ w → after + m * sum ≡ before → ((w - m) * g + after) + m * (1 * g + sum) ≡ w * g + before
lost w m g after sum before h e =
    let k : w ≡ (w - m) + m = omega arith in
    let p : w * g ≡ ((w - m) + m) * g = ap (λ n. n * g) k in
    let q = add-mul (w - m) m g in
    let r : m * (1 * g + sum) ≡ m * g + m * sum = let s : 1 * g ≡ g = omega arith in ap (λ n. m * (n + sum)) s ∙ mul-add m g sum in
    omega arith

-- the reach that the weights lose goes over to the sum
pub reach-lessened : (ds : Domains) (m : ℕ) (ts : List Held) → WeighAtLeast m ts → held_reach ds (map (lessened m) ts) + m * terms_reach ds (core_terms ts) ≡ held_reach ds ts
reach-lessened ds m [] h = omega arith
reach-lessened ds m (t ∷ ts) h =
    let rest = reach-lessened ds m ts (All-tail (λ (u : Held). u.in_core ≡ true → m ≤ u.weight) t ts h) in
    let here = All-head (λ (u : Held). u.in_core ≡ true → m ≤ u.weight) t ts h in
    elim (t.in_core) as (λ b. t.in_core ≡ b → held_reach ds ((if b then record t { weight = t.weight - m; in_core = false } else t) ∷ map (lessened m) ts) + m * terms_reach ds (if b then record { coeff = pos 1; subject = t.subject } ∷ core_terms ts else core_terms ts) ≡ t.weight * magnitude (domain_at ds t.subject) + held_reach ds ts) [
      | true ↦ λ e. lost t.weight m (magnitude (domain_at ds t.subject)) (held_reach ds (map (lessened m) ts)) (terms_reach ds (core_terms ts)) (held_reach ds ts) (here e) rest
      | false ↦ λ e. omega arith
    ] refl
