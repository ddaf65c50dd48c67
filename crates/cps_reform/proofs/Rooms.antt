-- A form keeps its worth and its room where a bound rises or a core is split.
use Rattle.std.specs.Prelude.{All, unsigned_abs, if◌then◌else◌, max, min}
use Rattle.std.specs.Int.{int_min}
use Rattle.std.proofs.Common.{◌≡◌, inl, inr, ℕ, zero, suc, ◌+◌, ◌-◌, ◌*◌, ◌<◌, ◌≤◌, ◌^◌, List, [], ◌∷◌, ◌++◌, true, false, length, map, set, refl, sym, ◌∙◌, ap, arith, ℤ, pos, negsuc, ◌+ℤ◌, ◌-ℤ◌, ◌*ℤ◌, ◌≤ℤ◌, ◌<ℤ◌}
use Rattle.std.proofs.Math.Nat.{mul-le-mul_left, mul-le-mul_right, mul-add}
use Rattle.std.proofs.lemmas.Int.{ints, unsigned_abs-mul}
use Rattle.std.proofs.lemmas.List.Elements.{All-nil, All-cons, All-head, All-tail, All-append, All-weaker}
use Rattle.cps_model.proofs.Sums.{unsigned_abs-add}
use Rattle.cps_literal.specs.Truth.{value_at}
use Rattle.cps_instance.specs.Terms.{Domains, domain_at, magnitude, terms_value, terms_reach, least_of, greatest_of, least_of_terms, greatest_of_terms}
use Rattle.cps_instance.specs.Sums.{least_sum_of, greatest_sum_of}
use Rattle.cps_instance.proofs.Boundings.{least-reach, greatest-reach}
use Rattle.cps_reform.specs.declared.held.Held.{Held}
use Rattle.cps_reform.specs.Forms.{Form, excess, form_value, IsAbove, held_reach, IsHeldInDomain, FitsTypes, term_at, with_held, lifted, IsPastLift}
use Rattle.cps_reform.specs.Cores.{core_terms, core_sum, core_bound, core_size, least_weight, WeighAtLeast, IsSomeAbove, lessened, sum_held, split, IsPastSplit}
use Rattle.cps_reform.proofs.Excesses.{plus, one_times, excess-lessened, core-some_above, reach-lessened}

-- what a term is worth before and after its bound rises
rising : (w : ℕ) (x b c rest : ℤ) → (pos w *ℤ (x -ℤ c) +ℤ rest) +ℤ pos w *ℤ (c -ℤ b) ≡ pos w *ℤ (x -ℤ b) +ℤ rest
rising w x b c rest =
    let e : x -ℤ b ≡ (x -ℤ c) +ℤ (c -ℤ b) = omega (arith, ints) in
    let p = plus w (x -ℤ c) (c -ℤ b) in
    omega (arith, ints, ap (λ (v : ℤ). pos w *ℤ v) e)

min_left : (x y : ℤ) → int_min x y ≤ℤ x
min_left x y = grind (arith, ints)

between : (l b h : ℤ) → l ≤ℤ b → b ≤ℤ h → unsigned_abs b ≤ max (unsigned_abs l) (unsigned_abs h)
between l b h p q = grind (arith, ints)

greater_within : (l h : ℤ) (n : ℕ) → unsigned_abs l ≤ n → unsigned_abs h ≤ n → max (unsigned_abs l) (unsigned_abs h) ≤ n
greater_within l h n p q = omega arith

pub no_less : (w : ℕ) (d : ℤ) → pos 0 ≤ℤ d → pos 0 ≤ℤ (pos w *ℤ d)
no_less w (pos d) h = omega (arith, ints)
no_less w (negsuc d) h = absurd (omega (arith, ints))

less_one : (m : ℕ) (v : ℤ) → pos m *ℤ (v -ℤ pos 1) ≡ pos m *ℤ v -ℤ pos m
less_one m v =
    let e : v ≡ (v -ℤ pos 1) +ℤ pos 1 = omega (arith, ints) in
    let p = plus m (v -ℤ pos 1) (pos 1) in
    let o : pos m *ℤ pos 1 ≡ pos m = omega (arith, ints) in
    omega (arith, ints, ap (λ (u : ℤ). pos m *ℤ u) e)

at_least_once : (m reach whole : ℕ) → 1 ≤ m → m * reach ≤ whole → whole < 2 ^ 62 → reach < 2 ^ 62
at_least_once m reach whole some h small = let a = mul-le-mul_right reach some in omega arith

pub excess-lifted : (xs : List ℤ) (ts : List Held) (i : ℕ) (bound : ℤ) → i < length ts → excess xs (set ts i (record (term_at ts i) { bound = bound; in_core = false })) +ℤ pos (term_at ts i).weight *ℤ (bound -ℤ (term_at ts i).bound) ≡ excess xs ts
excess-lifted xs [] i bound l = absurd (let f : i < 0 = l in omega arith)
excess-lifted xs (t ∷ ts) zero bound l = rising t.weight (value_at xs t.subject) t.bound bound (excess xs ts)
excess-lifted xs (t ∷ ts) (suc i) bound l = let rest = excess-lifted xs ts i bound (omega arith) in omega (arith, ints)

pub worth-lifted : (xs : List ℤ) (f : Form) (i : ℕ) (bound : ℤ) → i < length f.terms → form_value xs (lifted f i bound) ≡ form_value xs f
worth-lifted xs f i bound l = let e = excess-lifted xs f.terms i bound l in omega (arith, ints)

pub reach-lifted : (ds : Domains) (ts : List Held) (i : ℕ) (bound : ℤ) → i < length ts → held_reach ds (set ts i (record (term_at ts i) { bound = bound; in_core = false })) ≡ held_reach ds ts
reach-lifted ds [] i bound l = absurd (let f : i < 0 = l in omega arith)
reach-lifted ds (t ∷ ts) zero bound l = refl
reach-lifted ds (t ∷ ts) (suc i) bound l = ap (λ n. t.weight * magnitude (domain_at ds t.subject) + n) (reach-lifted ds ts i bound (omega arith))

-- a fact of each term holds of each after one is set to a term of which it holds
pub all-set : (P : Held → Type 0) (ts : List Held) (i : ℕ) (t : Held) → All P ts → P t → All P (set ts i t)
all-set P [] i t h p = All-nil P
all-set P (u ∷ ts) zero t h p = All-cons P t ts p (All-tail P u ts h)
all-set P (u ∷ ts) (suc i) t h p = All-cons P u (set ts i t) (All-head P u ts h) (all-set P ts i t (All-tail P u ts h) p)

pub all-at : (P : Held → Type 0) (ts : List Held) (i : ℕ) → i < length ts → All P ts → P (term_at ts i)
all-at P [] i l h = absurd (let f : i < 0 = l in omega arith)
all-at P (t ∷ ts) zero l h = All-head P t ts h
all-at P (t ∷ ts) (suc i) l h = all-at P ts i (omega arith) (All-tail P t ts h)

pub all-lessened : (ds : Domains) (m : ℕ) (ts : List Held) → All (IsHeldInDomain ds) ts → All (IsHeldInDomain ds) (map (lessened m) ts)
all-lessened ds m [] h = All-nil (IsHeldInDomain ds)
all-lessened ds m (t ∷ ts) h =
    let rest = all-lessened ds m ts (All-tail (IsHeldInDomain ds) t ts h) in
    let here = All-head (IsHeldInDomain ds) t ts h in
    let first : IsHeldInDomain ds (lessened m t) = elim (t.in_core) as (λ b. IsHeldInDomain ds (if b then record t { weight = t.weight - m; in_core = false } else t)) [
      | true ↦ record { subject = here.subject; low = here.low; high = here.high; small = here.small }
      | false ↦ here
    ] in
    All-cons (IsHeldInDomain ds) (lessened m t) (map (lessened m) ts) first rest

pub above-lessened : (xs : List ℤ) (m : ℕ) (ts : List Held) → IsAbove xs ts → IsAbove xs (map (lessened m) ts)
above-lessened xs m [] h = All-nil (λ (t : Held). t.bound ≤ℤ value_at xs t.subject)
above-lessened xs m (t ∷ ts) h =
    let rest = above-lessened xs m ts (All-tail (λ (u : Held). u.bound ≤ℤ value_at xs u.subject) t ts h) in
    let here = All-head (λ (u : Held). u.bound ≤ℤ value_at xs u.subject) t ts h in
    let first : (lessened m t).bound ≤ℤ value_at xs (lessened m t).subject = elim (t.in_core) as (λ b. (if b then record t { weight = t.weight - m; in_core = false } else t).bound ≤ℤ value_at xs (if b then record t { weight = t.weight - m; in_core = false } else t).subject) [
      | true ↦ here
      | false ↦ here
    ] in
    All-cons (λ (u : Held). u.bound ≤ℤ value_at xs u.subject) (lessened m t) (map (lessened m) ts) first rest

-- nothing is worth less than nothing where no value is below its bound
pub excess-above : (xs : List ℤ) (ts : List Held) → IsAbove xs ts → pos 0 ≤ℤ excess xs ts
excess-above xs [] h = omega (arith, ints)
excess-above xs (t ∷ ts) h =
    let rest = excess-above xs ts (All-tail (λ (u : Held). u.bound ≤ℤ value_at xs u.subject) t ts h) in
    let here = All-head (λ (u : Held). u.bound ≤ℤ value_at xs u.subject) t ts h in
    let p = no_less t.weight (value_at xs t.subject -ℤ t.bound) (omega (arith, ints)) in
    omega (arith, ints)

pub excess-push : (xs : List ℤ) (ts : List Held) (t : Held) → excess xs (ts ++ t ∷ []) ≡ excess xs ts +ℤ pos t.weight *ℤ (value_at xs t.subject -ℤ t.bound)
excess-push xs [] t = omega (arith, ints)
excess-push xs (u ∷ ts) t = let rest = excess-push xs ts t in omega (arith, ints)

pub reach-push : (ds : Domains) (ts : List Held) (t : Held) → held_reach ds (ts ++ t ∷ []) ≡ held_reach ds ts + t.weight * magnitude (domain_at ds t.subject)
reach-push ds [] t = omega arith
reach-push ds (u ∷ ts) t = let rest = reach-push ds ts t in omega arith

-- a core that is split is worth the same wherever the new subject is its sum
pub worth-split : (xs : List ℤ) (f : Form) (m subject : ℕ) → WeighAtLeast m f.terms → value_at xs subject ≡ terms_value xs (core_terms f.terms) → form_value xs (split f m subject) ≡ form_value xs f
worth-split xs f m subject h e =
    let a = excess-lessened xs m f.terms h in
    let b = excess-push xs (map (lessened m) f.terms) (sum_held m subject f.terms) in
    let s = terms_value xs (core_terms f.terms) in
    let one : value_at xs subject -ℤ (core_bound f.terms +ℤ pos 1) ≡ (s -ℤ core_bound f.terms) -ℤ pos 1 = omega (arith, ints) in
    let c : pos m *ℤ (value_at xs subject -ℤ (core_bound f.terms +ℤ pos 1)) ≡ pos m *ℤ (s -ℤ core_bound f.terms) -ℤ pos m = ap (λ (v : ℤ). pos m *ℤ v) one ∙ less_one m (s -ℤ core_bound f.terms) in
    omega (arith, ints)

pub above-split : (xs : List ℤ) (f : Form) (m subject : ℕ) → IsAbove xs f.terms → IsSomeAbove xs f.terms → value_at xs subject ≡ terms_value xs (core_terms f.terms) → IsAbove xs (split f m subject).terms
above-split xs f m subject h s e =
    let a = above-lessened xs m f.terms h in
    let b = core-some_above xs f.terms h s in
    let last : (core_bound f.terms +ℤ pos 1) ≤ℤ value_at xs subject = omega (arith, ints) in
    All-append (λ (u : Held). u.bound ≤ℤ value_at xs u.subject) (map (lessened m) f.terms) (sum_held m subject f.terms ∷ []) a
    (All-cons (λ (u : Held). u.bound ≤ℤ value_at xs u.subject) (sum_held m subject f.terms) [] last (All-nil (λ (u : Held). u.bound ≤ℤ value_at xs u.subject)))

reach-at : (ds : Domains) (ts : List Held) (i : ℕ) → i < length ts → (term_at ts i).weight * magnitude (domain_at ds (term_at ts i).subject) ≤ held_reach ds ts
reach-at ds [] i l = absurd (let f : i < 0 = l in omega arith)
reach-at ds (t ∷ ts) zero l = omega arith
reach-at ds (t ∷ ts) (suc i) l = let rest = reach-at ds ts i (omega arith) in omega arith

no_room : (b v g : ℤ) → b ≤ℤ v → v ≤ℤ g → g <ℤ b → ⊥
no_room b v g p q r = omega (arith, ints)

past : (limit base more whole : ℤ) → limit <ℤ base → pos 0 ≤ℤ more → base +ℤ more ≡ whole → limit <ℤ whole
past limit base more whole p q r = omega (arith, ints)

-- no term of the core weighs less than the least
weigh-weaker : (m n : ℕ) (ts : List Held) → m ≤ n → WeighAtLeast n ts → WeighAtLeast m ts
weigh-weaker m n ts l h = All-weaker (λ (t : Held). t.in_core ≡ true → n ≤ t.weight) (λ (t : Held). t.in_core ≡ true → m ≤ t.weight) (λ t k e. let a = k e in omega arith) ts h

pub weigh-least : (ts : List Held) → WeighAtLeast (least_weight ts) ts
weigh-least [] = All-nil (λ (t : Held). t.in_core ≡ true → least_weight [] ≤ t.weight)
weigh-least (t ∷ ts) =
    let rest = weigh-least ts in
    elim (t.in_core) as (λ b. t.in_core ≡ b → WeighAtLeast (if b then min t.weight (least_weight ts) else least_weight ts) (t ∷ ts)) [
      | true ↦ λ e. All-cons (λ (u : Held). u.in_core ≡ true → min t.weight (least_weight ts) ≤ u.weight) t ts (λ k. omega arith) (weigh-weaker (min t.weight (least_weight ts)) (least_weight ts) ts (omega arith) rest)
      | false ↦ λ e. All-cons (λ (u : Held). u.in_core ≡ true → least_weight ts ≤ u.weight) t ts (λ k. let n : true ≡ false = sym k ∙ e in cc) rest
    ] refl

pub least-some : (ts : List Held) → WeighAtLeast 1 ts → 1 ≤ least_weight ts
least-some [] h = omega arith
least-some (t ∷ ts) h =
    let rest = least-some ts (All-tail (λ (u : Held). u.in_core ≡ true → 1 ≤ u.weight) t ts h) in
    let here = All-head (λ (u : Held). u.in_core ≡ true → 1 ≤ u.weight) t ts h in
    elim (t.in_core) as (λ b. t.in_core ≡ b → 1 ≤ (if b then min t.weight (least_weight ts) else least_weight ts)) [
      | true ↦ λ e. (let w = here e in omega arith)
      | false ↦ λ e. rest
    ] refl

-- the core's bounds are between the ends of its sum, and no larger than its reach
pub core-size : (ds : Domains) (ts : List Held) → All (IsHeldInDomain ds) ts → core_size ts ≤ terms_reach ds (core_terms ts)
core-size ds [] h = omega arith
core-size ds (t ∷ ts) h =
    let rest = core-size ds ts (All-tail (IsHeldInDomain ds) t ts h) in
    let here = All-head (IsHeldInDomain ds) t ts h in
    let low = here.low in
    let high = here.high in
    let size : unsigned_abs t.bound ≤ magnitude (domain_at ds t.subject) = between (least_of (domain_at ds t.subject)) t.bound (greatest_of (domain_at ds t.subject)) low high in
    elim (t.in_core) as (λ b. (if b then unsigned_abs t.bound else 0) + core_size ts ≤ terms_reach ds (if b then record { coeff = pos 1; subject = t.subject } ∷ core_terms ts else core_terms ts)) [
      | true ↦ omega arith
      | false ↦ omega arith
    ]

pub core-least : (ds : Domains) (ts : List Held) → All (IsHeldInDomain ds) ts → least_of_terms ds (core_terms ts) ≤ℤ core_bound ts
core-least ds [] h = omega (arith, ints)
core-least ds (t ∷ ts) h =
    let rest = core-least ds ts (All-tail (IsHeldInDomain ds) t ts h) in
    let here = All-head (IsHeldInDomain ds) t ts h in
    let low = here.low in
    let l = one_times (least_of (domain_at ds t.subject)) in
    let g = one_times (greatest_of (domain_at ds t.subject)) in
    let m = min_left (pos 1 *ℤ least_of (domain_at ds t.subject)) (pos 1 *ℤ greatest_of (domain_at ds t.subject)) in
    elim (t.in_core) as (λ b. least_of_terms ds (if b then record { coeff = pos 1; subject = t.subject } ∷ core_terms ts else core_terms ts) ≤ℤ ((if b then t.bound else pos 0) +ℤ core_bound ts)) [
      | true ↦ omega (arith, ints)
      | false ↦ omega (arith, ints)
    ]

-- the domain of a core's sum goes no further than the core
pub sum-magnitude : (ds : Domains) (ts : List Held) (subject : ℕ) → domain_at ds subject ≡ (least_sum_of ds (core_sum ts), greatest_sum_of ds (core_sum ts)) ∷ [] → magnitude (domain_at ds subject) ≤ terms_reach ds (core_terms ts)
sum-magnitude ds ts subject e =
    let a = least-reach ds (core_terms ts) in
    let b = greatest-reach ds (core_terms ts) in
    let c : least_sum_of ds (core_sum ts) ≡ least_of_terms ds (core_terms ts) = omega (arith, ints) in
    let d : greatest_sum_of ds (core_sum ts) ≡ greatest_of_terms ds (core_terms ts) = omega (arith, ints) in
    rw e (greater_within (least_sum_of ds (core_sum ts)) (greatest_sum_of ds (core_sum ts)) (terms_reach ds (core_terms ts)) (rw c a) (rw d b))

-- a form with a core that is split has room where it had, if the new bound is not past the sum's greatest value
pub roomy-split : (ds : Domains) (f : Form) (m subject : ℕ) → FitsTypes ds f → WeighAtLeast m f.terms → 1 ≤ m → subject < length ds
    → domain_at ds subject ≡ (least_sum_of ds (core_sum f.terms), greatest_sum_of ds (core_sum f.terms)) ∷ []
    → (core_bound f.terms +ℤ pos 1) ≤ℤ greatest_of (domain_at ds subject) → FitsTypes ds (split f m subject)
roomy-split ds f m subject h w some l e high =
    let a = reach-lessened ds m f.terms w in
    let b = reach-push ds (map (lessened m) f.terms) (sum_held m subject f.terms) in
    let c = sum-magnitude ds f.terms subject e in
    let d = mul-le-mul_left m c in
    let small = h.small in
    let core_small : terms_reach ds (core_terms f.terms) < 2 ^ 62 = at_least_once m (terms_reach ds (core_terms f.terms)) (held_reach ds f.terms) some (omega arith) small in
    let g = core-least ds f.terms h.terms in
    let low : least_of (domain_at ds subject) ≤ℤ (core_bound f.terms +ℤ pos 1) = let k : least_of (domain_at ds subject) ≡ least_of_terms ds (core_terms f.terms) +ℤ pos 0 = ap least_of e in omega (arith, ints) in
    let held : IsHeldInDomain ds (sum_held m subject f.terms) = record { subject = l; low = low; high = high; small = omega arith } in
    record {
      terms = All-append (IsHeldInDomain ds) (map (lessened m) f.terms) (sum_held m subject f.terms ∷ []) (all-lessened ds m f.terms h.terms) (All-cons (IsHeldInDomain ds) (sum_held m subject f.terms) [] held (All-nil (IsHeldInDomain ds)));
      small = omega arith;
    }

-- what raises a bound stays within 64 bits
pub rise-small : (ds : Domains) (f : Form) (i : ℕ) (bound : ℤ) → FitsTypes ds f → i < length f.terms → (term_at f.terms i).bound ≤ℤ bound → bound ≤ℤ greatest_of (domain_at ds (term_at f.terms i).subject)
    → (term_at f.terms i).weight * (unsigned_abs (term_at f.terms i).bound + unsigned_abs bound) < 2 ^ 63
rise-small ds f i bound h l rises high =
    let t = term_at f.terms i in
    let held = all-at (IsHeldInDomain ds) f.terms i l h.terms in
    let low = held.low in
    let below = held.high in
    let m = magnitude (domain_at ds t.subject) in
    let old : unsigned_abs t.bound ≤ m = between (least_of (domain_at ds t.subject)) t.bound (greatest_of (domain_at ds t.subject)) low below in
    let new : unsigned_abs bound ≤ m = between (least_of (domain_at ds t.subject)) bound (greatest_of (domain_at ds t.subject)) (omega (arith, ints)) high in
    let a = reach-at ds f.terms i l in
    let b : t.weight * (unsigned_abs t.bound + unsigned_abs bound) ≤ t.weight * (m + m) = mul-le-mul_left t.weight (omega arith) in
    let c = mul-add t.weight m m in
    let small = h.small in
    omega arith

pub bound-small : (ds : Domains) (f : Form) (i : ℕ) → FitsTypes ds f → i < length f.terms → unsigned_abs (term_at f.terms i).bound < 2 ^ 62
bound-small ds f i h l =
    let held = all-at (IsHeldInDomain ds) f.terms i l h.terms in
    let small = held.small in
    let size = between (least_of (domain_at ds (term_at f.terms i).subject)) (term_at f.terms i).bound (greatest_of (domain_at ds (term_at f.terms i).subject)) held.low held.high in
    omega arith

pub new_bound-small : (ds : Domains) (f : Form) (i : ℕ) (bound : ℤ) → FitsTypes ds f → i < length f.terms → (term_at f.terms i).bound ≤ℤ bound → bound ≤ℤ greatest_of (domain_at ds (term_at f.terms i).subject) → unsigned_abs bound < 2 ^ 62
new_bound-small ds f i bound h l rises high =
    let held = all-at (IsHeldInDomain ds) f.terms i l h.terms in
    let small = held.small in
    let low = held.low in
    let size = between (least_of (domain_at ds (term_at f.terms i).subject)) bound (greatest_of (domain_at ds (term_at f.terms i).subject)) (omega (arith, ints)) high in
    omega arith

pub above-lifted : (xs : List ℤ) (f : Form) (i : ℕ) (bound : ℤ) → IsAbove xs f.terms → bound ≤ℤ value_at xs (term_at f.terms i).subject → IsAbove xs (lifted f i bound).terms
above-lifted xs f i bound h v = all-set (λ (u : Held). u.bound ≤ℤ value_at xs u.subject) f.terms i (record (term_at f.terms i) { bound = bound; in_core = false }) h v

pub roomy-lifted : (ds : Domains) (f : Form) (i : ℕ) (bound : ℤ) → FitsTypes ds f → i < length f.terms → (term_at f.terms i).bound ≤ℤ bound → bound ≤ℤ greatest_of (domain_at ds (term_at f.terms i).subject) → FitsTypes ds (lifted f i bound)
roomy-lifted ds f i bound h l rises high =
    let held = all-at (IsHeldInDomain ds) f.terms i l h.terms in
    let e = reach-lifted ds f.terms i bound l in
    let small = h.small in
    let low = held.low in
    record {
      terms = all-set (IsHeldInDomain ds) f.terms i (record (term_at f.terms i) { bound = bound; in_core = false }) h.terms (record { subject = held.subject; low = omega (arith, ints); high = high; small = held.small });
      small = omega arith;
    }

-- where a bound cannot rise, no values within the limit are above it
pub none-lifted : (ds : Domains) (xs : List ℤ) (f : Form) (i : ℕ) (bound limit : ℤ) → i < length f.terms → IsPastLift ds f i bound limit → IsAbove xs f.terms → bound ≤ℤ value_at xs (term_at f.terms i).subject
    → value_at xs (term_at f.terms i).subject ≤ℤ greatest_of (domain_at ds (term_at f.terms i).subject) → limit <ℤ form_value xs f
none-lifted ds xs f i bound limit l p h v g = elim p as (λ q. limit <ℤ form_value xs f) [
  | inl a ↦ absurd (no_room bound (value_at xs (term_at f.terms i).subject) (greatest_of (domain_at ds (term_at f.terms i).subject)) v g a)
  | inr b ↦ past limit (lifted f i bound).base (excess xs (lifted f i bound).terms) (form_value xs f) b (excess-above xs (lifted f i bound).terms (above-lifted xs f i bound h v)) (worth-lifted xs f i bound l)
]

-- the same of a core
pub none-split : (ds : Domains) (xs : List ℤ) (f : Form) (subject : ℕ) (limit : ℤ) → IsPastSplit ds f subject limit → IsAbove xs f.terms → IsSomeAbove xs f.terms → value_at xs subject ≡ terms_value xs (core_terms f.terms)
    → value_at xs subject ≤ℤ greatest_of (domain_at ds subject) → limit <ℤ form_value xs f
none-split ds xs f subject limit p h s e g = elim p as (λ q. limit <ℤ form_value xs f) [
  | inl a ↦ (let b = core-some_above xs f.terms h s in absurd (no_room (core_bound f.terms +ℤ pos 1) (value_at xs subject) (greatest_of (domain_at ds subject)) (rw e b) g a))
  | inr b ↦ (let m = least_weight f.terms in past limit (f.base +ℤ pos m) (excess xs (split f m subject).terms) (form_value xs f) b (excess-above xs (split f m subject).terms (above-split xs f m subject h s e)) (worth-split xs f m subject (weigh-least f.terms) e))
]

pub core-small : (ds : Domains) (f : Form) → FitsTypes ds f → WeighAtLeast 1 f.terms → core_size f.terms < 2 ^ 62
core-small ds f h w =
    let a = core-size ds f.terms h.terms in
    let b = reach-lessened ds 1 f.terms w in
    let small = h.small in
    omega arith

pub weigh-pushed : (m : ℕ) (ts : List Held) (t : Held) → t.in_core ≡ false → WeighAtLeast m ts → WeighAtLeast m (ts ++ t ∷ [])
weigh-pushed m ts t e h =
    let last : All (λ (u : Held). u.in_core ≡ true → m ≤ u.weight) (t ∷ []) = All-cons (λ (u : Held). u.in_core ≡ true → m ≤ u.weight) t [] (λ k. let n : true ≡ false = sym k ∙ e in cc) (All-nil (λ (u : Held). u.in_core ≡ true → m ≤ u.weight)) in
    All-append (λ (u : Held). u.in_core ≡ true → m ≤ u.weight) ts (t ∷ []) h last

-- one more term at its subject's least value
held-spread : (w : ℕ) (x l base e : ℤ) → (base +ℤ pos w *ℤ l) +ℤ (e +ℤ pos w *ℤ (x -ℤ l)) ≡ (base +ℤ e) +ℤ pos w *ℤ x
held-spread w x l base e =
    let same : x ≡ l +ℤ (x -ℤ l) = omega (arith, ints) in
    let p = plus w l (x -ℤ l) in
    omega (arith, ints, ap (λ (v : ℤ). pos w *ℤ v) same)

pub worth-held : (xs : List ℤ) (ds : Domains) (f : Form) (w subject : ℕ) → form_value xs (with_held ds f w subject) ≡ form_value xs f +ℤ pos w *ℤ value_at xs subject
worth-held xs ds f w subject =
    let t : Held = record { weight = w; subject = subject; bound = least_of (domain_at ds subject); in_core = false } in
    ap (λ (v : ℤ). (f.base +ℤ pos w *ℤ least_of (domain_at ds subject)) +ℤ v) (excess-push xs f.terms t) ∙ held-spread w (value_at xs subject) (least_of (domain_at ds subject)) f.base (excess xs f.terms)

pub above-held : (xs : List ℤ) (ds : Domains) (f : Form) (w subject : ℕ) → IsAbove xs f.terms → least_of (domain_at ds subject) ≤ℤ value_at xs subject → IsAbove xs (with_held ds f w subject).terms
above-held xs ds f w subject h v =
    let t : Held = record { weight = w; subject = subject; bound = least_of (domain_at ds subject); in_core = false } in
    All-append (λ (u : Held). u.bound ≤ℤ value_at xs u.subject) f.terms (t ∷ []) h (All-cons (λ (u : Held). u.bound ≤ℤ value_at xs u.subject) t [] v (All-nil (λ (u : Held). u.bound ≤ℤ value_at xs u.subject)))

pub roomy-held : (ds : Domains) (f : Form) (w subject : ℕ) → FitsTypes ds f → subject < length ds → least_of (domain_at ds subject) ≤ℤ greatest_of (domain_at ds subject) → magnitude (domain_at ds subject) < 2 ^ 62
    → held_reach ds f.terms + w * magnitude (domain_at ds subject) < 2 ^ 62 → FitsTypes ds (with_held ds f w subject)
roomy-held ds f w subject h l order within small =
    let t : Held = record { weight = w; subject = subject; bound = least_of (domain_at ds subject); in_core = false } in
    let e = reach-push ds f.terms t in
    let held : IsHeldInDomain ds t = record { subject = l; low = omega (arith, ints); high = order; small = within } in
    record { terms = All-append (IsHeldInDomain ds) f.terms (t ∷ []) h.terms (All-cons (IsHeldInDomain ds) t [] held (All-nil (IsHeldInDomain ds))); small = omega arith }

pub base-held : (ds : Domains) (f : Form) (w subject : ℕ) → unsigned_abs f.base ≤ held_reach ds f.terms → unsigned_abs (with_held ds f w subject).base ≤ held_reach ds (with_held ds f w subject).terms
base-held ds f w subject h =
    let l = least_of (domain_at ds subject) in
    let t : Held = record { weight = w; subject = subject; bound = l; in_core = false } in
    let e = reach-push ds f.terms t in
    let both = unsigned_abs-add f.base (pos w *ℤ l) in
    let size = unsigned_abs-mul (pos w) l in
    let near : w * unsigned_abs l ≤ w * magnitude (domain_at ds subject) = mul-le-mul_left w (omega arith) in
    omega arith

pub weight-small : (w m : ℕ) → 1 ≤ m → w * m < 2 ^ 62 → w < 2 ^ 62
weight-small w m l h = let a = mul-le-mul_left w l in omega arith
