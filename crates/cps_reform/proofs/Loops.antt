-- Loops over the terms of a core.
use Rattle.std.specs.Prelude.{unsigned_abs, if◌then◌else◌, min}
use Rattle.std.proofs.Common.{◌≡◌, ℕ, zero, suc, ◌+◌, ◌-◌, ◌<◌, ◌≤◌, ◌^◌, List, [], ◌∷◌, ◌++◌, true, false, length, map, set, get_or, take, drop, refl, sym, ◌∙◌, ap, subst, append_assoc, append-nil, arith, add-one, ℤ, pos, ◌+ℤ◌}
use Rattle.std.proofs.lemmas.Int.{ints}
use Rattle.std.proofs.Math.ListN.{drop_of_length-le}
use Rattle.std.proofs.lemmas.List.{drop_more}
use Rattle.cps_model.proofs.Sums.{unsigned_abs-add}
use Rattle.cps_reform.specs.declared.held.Held.{Held}
use Rattle.cps_instance.specs.declared.term.Term.{Term}
use Rattle.cps_reform.specs.Cores.{core_bound, core_size, core_terms, least_weight, WeighAtLeast}

pub least-most : (ts : List Held) → least_weight ts ≤ 2 ^ 64 - 1
least-most [] = omega arith
least-most (t ∷ ts) = let rest = least-most ts in elim (t.in_core) as (λ b. (if b then min t.weight (least_weight ts) else least_weight ts) ≤ 2 ^ 64 - 1) [
  | true ↦ omega arith
  | false ↦ rest
]

pub least-first : (ts : List Held) → least_weight ts ≡ min (2 ^ 64 - 1) (least_weight ts)
least-first ts = let m = least-most ts in omega arith

abbrev changed : (Held → Held) → List Held → ℕ → List Held
changed f ts k = map f (take k ts) ++ drop k ts

pub changes : (f : Held → Held) (ts : List Held) (k : ℕ) (d : Held) → k < length ts → set (map f (take k ts) ++ drop k ts) k (f (get_or (map f (take k ts) ++ drop k ts) k d)) ≡ map f (take (suc k) ts) ++ drop (suc k) ts
changes f [] k d l = absurd (let h : k < 0 = l in omega arith)
changes f (t ∷ ts) zero d l = refl
changes f (t ∷ ts) (suc k) d l = ap (λ us. f t ∷ us) (changes f ts k d (omega arith))

pub changes_one : (f : Held → Held) (ts us : List Held) (k : ℕ) (d v : Held) → k < length ts → us ≡ map f (take k ts) ++ drop k ts → v ≡ f (get_or us k d) → set us k v ≡ map f (take (k + 1) ts) ++ drop (k + 1) ts
changes_one f ts us k d v l e h = rw (h, e, add-one k) (changes f ts k d l)

-- one more term of a core's sum of bounds

part_size : (t : Held) → unsigned_abs (if t.in_core then t.bound else pos 0) ≡ (if t.in_core then unsigned_abs t.bound else 0)
part_size t = elim (t.in_core) as (λ b. unsigned_abs (if b then t.bound else pos 0) ≡ (if b then unsigned_abs t.bound else 0)) [ true ↦ refl | false ↦ refl ]

pub bound-step : (ts : List Held) (k : ℕ) (d : Held) (whole sum new : ℤ) → k < length ts → new ≡ (if (get_or ts k d).in_core then (get_or ts k d).bound else pos 0) +ℤ sum → whole ≡ sum +ℤ core_bound (drop k ts) → whole ≡ new +ℤ core_bound (drop (k + 1) ts)
bound-step ts k d whole sum new l e h =
    let more : core_bound (drop k ts) ≡ (if (get_or ts k d).in_core then (get_or ts k d).bound else pos 0) +ℤ core_bound (drop (k + 1) ts) = ap core_bound (drop_more ts k d l) in
    omega (arith, ints)

pub size-step : (ts : List Held) (k : ℕ) (d : Held) (whole : ℕ) (sum new : ℤ) → k < length ts → new ≡ (if (get_or ts k d).in_core then (get_or ts k d).bound else pos 0) +ℤ sum → unsigned_abs sum + core_size (drop k ts) ≤ whole → unsigned_abs new + core_size (drop (k + 1) ts) ≤ whole
size-step ts k d whole sum new l e h =
    let t = get_or ts k d in
    let more : core_size (drop k ts) ≡ (if t.in_core then unsigned_abs t.bound else 0) + core_size (drop (k + 1) ts) = ap core_size (drop_more ts k d l) in
    let both = unsigned_abs-add (if t.in_core then t.bound else pos 0) sum in
    let same = part_size t in
    let size = ap (λ (z : ℤ). unsigned_abs z) e in
    omega arith

pub least-last : (ts : List Held) (k least : ℕ) → length ts ≤ k → least < 2 ^ 64 → least_weight ts ≡ min least (least_weight (drop k ts)) → least ≡ least_weight ts
least-last ts k least l f h =
    let e : least_weight (drop k ts) ≡ 2 ^ 64 - 1 = ap least_weight (drop_of_length-le ts l) in
    omega arith

-- one more term of a core
core-cons : (t : Held) (ts : List Held) → core_terms (t ∷ ts) ≡ core_terms (t ∷ []) ++ core_terms ts
core-cons t ts = elim (t.in_core) as (λ b. (if b then record { coeff = pos 1; subject = t.subject } ∷ core_terms ts else core_terms ts) ≡ (if b then record { coeff = pos 1; subject = t.subject } ∷ [] else []) ++ core_terms ts) [ true ↦ refl | false ↦ refl ]

pub core-step : (ts us : List Held) (k : ℕ) (d : Held) (whole sofar now : List Term) → ts ≡ us → k < length ts → now ≡ sofar ++ core_terms (get_or ts k d ∷ []) → whole ≡ sofar ++ core_terms (drop k us) → whole ≡ now ++ core_terms (drop (k + 1) us)
core-step ts us k d whole sofar now same l is h =
    h ∙ ap (λ (vs : List Held). sofar ++ core_terms (drop k vs)) (sym same)
    ∙ ap (λ (vs : List Held). sofar ++ core_terms vs) (drop_more ts k d l)
    ∙ ap (λ (xs : List Term). sofar ++ xs) (core-cons (get_or ts k d) (drop (k + 1) ts))
    ∙ sym (append_assoc sofar (core_terms (get_or ts k d ∷ [])) (core_terms (drop (k + 1) ts)))
    ∙ ap (λ (xs : List Term). xs ++ core_terms (drop (k + 1) ts)) (sym is)
    ∙ ap (λ (vs : List Held). now ++ core_terms (drop (k + 1) vs)) same

pub core-last : (ts us : List Held) (k : ℕ) (whole sofar : List Term) → ts ≡ us → length ts ≤ k → whole ≡ sofar ++ core_terms (drop k us) → sofar ≡ whole
core-last ts us k whole sofar same l h =
    sym (append-nil sofar) ∙ ap (λ (vs : List Held). sofar ++ core_terms vs) (sym (drop_of_length-le ts l)) ∙ ap (λ (vs : List Held). sofar ++ core_terms (drop k vs)) same ∙ sym h

-- the next term of which the weight falls has its weight still
next_kept : (f : Held → Held) (ts : List Held) (k : ℕ) (d : Held) → k < length ts → get_or (map f (take k ts) ++ drop k ts) k d ≡ get_or ts k d
next_kept f [] k d l = absurd (let h : k < 0 = l in omega arith)
next_kept f (t ∷ ts) zero d l = refl
next_kept f (t ∷ ts) (suc k) d l = next_kept f ts k d (omega arith)

pub weighs_next : (f : Held → Held) (ts us : List Held) (k w : ℕ) (d : Held) → k < length ts → us ≡ map f (take k ts) ++ drop k ts → WeighAtLeast w ts → (get_or us k d).in_core ≡ true → w ≤ (get_or us k d).weight
weighs_next f ts us k w d l is h =
    let same : get_or us k d ≡ get_or ts k d = ap (λ (vs : List Held). get_or vs k d) is ∙ next_kept f ts k d l in
    subst (λ (t : Held). t.in_core ≡ true → w ≤ t.weight) (sym same) (h k d l)
