-- A job shop is valid.
use Rattle.std.specs.Prelude.{int_le, ◌-◌, ◌^◌, ◌==◌, filter, replicate, unsigned_abs, slice_get, IsTrue, None}
use Rattle.std.specs.List.{All, range_with_len}
use Rattle.std.proofs.Common.{◌≡◌, ℕ, zero, suc, ◌+◌, ◌*◌, ◌<◌, ◌≤◌, pos, neg_ℤ, List, [], ◌∷◌, ◌++◌, length, map, true, arith, refl, ◌∙◌, lit<, lit≤}
use Rattle.std.proofs.Math.Nat.{mul-le-mul, mul-le-mul_right}
use Rattle.std.proofs.lemmas.Bool.{le-leb}
use Rattle.std.proofs.lemmas.List.{length-replicate, length-map, length-append}
use Rattle.std.proofs.lemmas.List.Elements.{All-nil, All-cons, All-replicate, All-map, All-append, All-weaker, All-filter}
use Rattle.std.proofs.lemmas.List.Folds.{sum_by-replicate, list_all-map}
use Rattle.std.proofs.lemmas.List.Sums.{sum_by-le, list_all-from_AllPass}
use Rattle.std.proofs.lemmas.List.FromFn.{length-map-range_with_len}
use Rattle.rand_pcg.specs.Lcg.{Lcg}
use Rattle.cps_model.specs.declared.model.Variable.{Variable}
use Rattle.cps_model.specs.declared.constraint.Constraint.{Constraint}
use Rattle.cps_model.specs.declared.constraint.Kind.TheVariants.{NoOverlap}
use Rattle.cps_model.specs.Within.{is_well_shaped}
use Rattle.cps_model.specs.KindRules.{is_interval, is_some_interval, names_interval}
use Rattle.cps_model.specs.Validity.{variable_fault, constraint_fault, variable_entries, constraint_entries, IsValid}
use Rattle.cps_gen.specs.Parts.{first, up_to, fixed, moved, in_force, least_of}
use Rattle.cps_gen.specs.Jobshop.{tasks, duration, horizon, run, no_sooner, is_later, last_task, machine, tasks_on, jobshop_constraints, jobshop}
use Rattle.cps_gen.specs.Generated.{is_generated}
use Rattle.cps_gen.proofs.Drawn.{one_to}
use Rattle.cps_gen.proofs.Lists.{few_pass, sum_small, term_below_sum}
use Rattle.cps_gen.proofs.Faults.{IsKeptSum, valid_from, up_to_kept, linear_kept, interval_kept, no_overlap_kept, least_kept}
use Rattle.cps_gen.proofs.Reaches.{below_first, named_in, small_reach}

-- an interval stays one behind which more constraints stand
stays : (xs ys : List Constraint) (i : ℕ) → is_some_interval (slice_get xs i) ≡ true → is_some_interval (slice_get (xs ++ ys) i) ≡ true
stays [] ys i e = cc
stays (x ∷ xs) ys zero e = e
stays (x ∷ xs) ys (suc i) e = stays xs ys i e

interval_at : (f : ℕ → Constraint) (a n i : ℕ) → ((k : ℕ) → is_interval (f k).kind ≡ true) → i < n → is_some_interval (slice_get (map f (range_with_len a n)) i) ≡ true
interval_at f a zero i each lt = absurd (omega arith)
interval_at f a (suc n) zero each lt = each a
interval_at f a (suc n) (suc i) each lt = interval_at f (a + 1) n i each (omega arith)

-- the variables of a job shop
abbrev variables : Lcg → ℕ → List Variable
variables g n = replicate (n * n + 1) (up_to (horizon g n))

named_task : (g : Lcg) (n t : ℕ) → t < n * n → names_interval (jobshop_constraints g n) (pos t) ≡ true
named_task g n t lt =
    stays _ _ t (stays _ _ t (stays (map (λ k. in_force (run g k)) (tasks n)) _ t (interval_at (λ k. in_force (run g k)) 0 (n * n) t (λ k. refl) lt)))

few_tasks : (n : ℕ) → n ≤ 16 → n * n ≤ 256
few_tasks n few = mul-le-mul few few

short : (g : Lcg) (n : ℕ) → n ≤ 16 → horizon g n ≤ 5120
short g n few = omega (arith, few_tasks n few, sum_small (duration g) 20 (n * n) (λ t. one_to g t 20 (lit< tt)))

moved_kept : (count greatest variable offset : ℕ) → variable < count → greatest + offset < 2 ^ 62 → IsKeptSum (replicate count (up_to greatest)) (moved variable offset)
moved_kept count greatest variable offset lt small =
    let size : unsigned_abs (pos 1) ≤ 1 = lit≤ tt in
    record {
      named = named_in count (up_to greatest) (variable ∷ []) (All-cons (λ i. i < count) variable [] lt (All-nil (λ i. i < count)));
      paired = refl;
      small = small_reach count greatest 1 offset (pos variable ∷ []) (pos 1 ∷ [])
          (All-cons (λ c. unsigned_abs c ≤ 1) (pos 1) [] size (All-nil (λ c. unsigned_abs c ≤ 1))) (omega arith);
    }

fixed_kept : (count greatest offset : ℕ) → offset < 2 ^ 62 → IsKeptSum (replicate count (up_to greatest)) (fixed offset)
fixed_kept count greatest offset small =
    record {
      named = refl;
      paired = refl;
      small = small_reach count greatest 0 offset [] [] (All-nil (λ c. unsigned_abs c ≤ 0)) (omega arith);
    }

-- a constraint that keeps the rules, is not large, and is of a kind that is told
record IsGood (g : Lcg) (n : ℕ) (c : Constraint) : Type 0 where
  kept : constraint_fault (variables g n) (jobshop_constraints g n) c ≡ None
  entries : constraint_entries c ≤ 256
  told : IsTrue (is_generated c.kind)

good_run : (g : Lcg) (n t : ℕ) → n ≤ 16 → t < n * n → IsGood g n (in_force (run g t))
good_run g n t few lt =
    let long = one_to g t 20 (lit< tt) in
    let end = short g n few in
    record {
      kept = interval_kept (variables g n) (jobshop_constraints g n) (moved t 0) (moved t (duration g t)) (fixed (duration g t))
          (moved_kept (n * n + 1) (horizon g n) t 0 (omega arith) (omega arith)) (moved_kept (n * n + 1) (horizon g n) t (duration g t) (omega arith) (omega arith))
          (fixed_kept (n * n + 1) (horizon g n) (duration g t) (omega arith));
      entries = lit≤ tt;
      told = refl;
    }

good_no_sooner : (g : Lcg) (n later t : ℕ) → n ≤ 16 → later ≤ n * n → t < n * n → IsGood g n (in_force (no_sooner g n later t))
good_no_sooner g n later t few le lt =
    let count = n * n + 1 in
    let end = short g n few in
    let domain = pos (duration g t) ∷ pos (horizon g n) ∷ [] in
    let ends : int_le (pos (duration g t)) (pos (horizon g n)) ≡ true = le-leb _ _ (term_below_sum (duration g) (n * n) t lt) in
    let shaped : is_well_shaped domain ≡ true = rw ends in
    let one : unsigned_abs (pos 1) ≤ 1 = lit≤ tt in
    let minus_one : unsigned_abs (neg_ℤ (pos 1)) ≤ 1 = lit≤ tt in
    let coeffs = pos 1 ∷ neg_ℤ (pos 1) ∷ [] in
    let small = All-cons (λ c. unsigned_abs c ≤ 1) (pos 1) (neg_ℤ (pos 1) ∷ []) one (All-cons (λ c. unsigned_abs c ≤ 1) (neg_ℤ (pos 1)) [] minus_one (All-nil (λ c. unsigned_abs c ≤ 1))) in
    let at_later : later < count = omega arith in
    let at_task : t < count = omega arith in
    record {
      kept = linear_kept (variables g n) (jobshop_constraints g n) (pos later ∷ pos t ∷ []) coeffs domain
          (named_in count (up_to (horizon g n)) (later ∷ t ∷ []) (All-cons (λ i. i < count) later (t ∷ []) at_later (All-cons (λ i. i < count) t [] at_task (All-nil (λ i. i < count)))))
          refl (small_reach count (horizon g n) 1 0 (pos later ∷ pos t ∷ []) coeffs small (omega arith)) shaped;
      entries = lit≤ tt;
      told = refl;
    }

good_machine : (g : Lcg) (n m : ℕ) → n ≤ 16 → IsGood g n (in_force (NoOverlap (map pos (tasks_on n m))))
good_machine g n m few =
    let named = All-weaker (λ t. t < n * n) (λ t. names_interval (jobshop_constraints g n) (pos t) ≡ true) (named_task g n) (tasks n) (below_first (n * n)) in
    let on = All-filter (λ t. machine n t == m) (λ t. names_interval (jobshop_constraints g n) (pos t) ≡ true) (tasks n) named in
    record {
      kept = no_overlap_kept (variables g n) (jobshop_constraints g n) (map pos (tasks_on n m))
          (list_all-map (names_interval (jobshop_constraints g n)) pos (tasks_on n m)
          ∙ list_all-from_AllPass (λ t. names_interval (jobshop_constraints g n) (pos t)) (tasks_on n m) on);
      entries = omega (arith, length-map (tasks_on n m) pos, few_pass (λ t. machine n t == m) (n * n), few_tasks n few);
      told = refl;
    }

last_below : (n job : ℕ) → job < n → last_task n job < n * n
last_below n job lt = omega (arith, mul-le-mul_right n lt)

all_good : (g : Lcg) (n : ℕ) → n ≤ 16 → All (IsGood g n) (jobshop_constraints g n)
all_good g n few =
    let P = IsGood g n in
    let each = below_first (n * n) in
    let later = All-filter (is_later n) (λ t. t < n * n) (tasks n) each in
    All-append P _ _
    (All-append P _ _
    (All-append P _ _
    (All-map P (λ t. in_force (run g t)) (tasks n)
    (All-weaker (λ t. t < n * n) (λ t. P (in_force (run g t))) (λ t lt. good_run g n t few lt) (tasks n) each))
    (All-map P (λ t. in_force (no_sooner g n t (t - 1))) (filter (is_later n) (tasks n))
    (All-weaker (λ t. t < n * n) (λ t. P (in_force (no_sooner g n t (t - 1)))) (λ t lt. good_no_sooner g n t (t - 1) few (omega arith) (omega arith))
    (filter (is_later n) (tasks n)) later)))
    (All-map P (λ job. in_force (no_sooner g n (n * n) (last_task n job))) (first n)
    (All-weaker (λ job. job < n) (λ job. P (in_force (no_sooner g n (n * n) (last_task n job))))
    (λ job lt. good_no_sooner g n (n * n) (last_task n job) few (omega arith) (last_below n job lt)) (first n) (below_first n))))
    (All-map P (λ m. in_force (NoOverlap (map pos (tasks_on n m)))) (first n) (λ k d lt. good_machine g n _ few))

pub jobshop_told : (g : Lcg) (n : ℕ) → n ≤ 16 → All (λ c. IsTrue (is_generated c.kind)) (jobshop_constraints g n)
jobshop_told g n few = All-weaker (IsGood g n) (λ c. IsTrue (is_generated c.kind)) (λ c good. good.told) (jobshop_constraints g n) (all_good g n few)

constraint_count : (g : Lcg) (n : ℕ) → length (jobshop_constraints g n) ≤ 2 * (n * n) + 2 * n
constraint_count g n =
    let a = map (λ t. in_force (run g t)) (tasks n) in
    let b = map (λ t. in_force (no_sooner g n t (t - 1))) (filter (is_later n) (tasks n)) in
    let c = map (λ job. in_force (no_sooner g n (n * n) (last_task n job))) (first n) in
    let d = map (λ m. in_force (NoOverlap (map pos (tasks_on n m)))) (first n) in
    let long_a = length-map-range_with_len (λ t. in_force (run g t)) 0 (n * n) in
    let long_b = length-map (filter (is_later n) (tasks n)) (λ t. in_force (no_sooner g n t (t - 1))) in
    let long_c = length-map-range_with_len (λ job. in_force (no_sooner g n (n * n) (last_task n job))) 0 n in
    let long_d = length-map-range_with_len (λ m. in_force (NoOverlap (map pos (tasks_on n m)))) 0 n in
    omega (arith, length-append (a ++ b ++ c) d, length-append (a ++ b) c, length-append a b, long_a, long_b, long_c, long_d, few_pass (is_later n) (n * n))

pub jobshop_valid : (g : Lcg) (n : ℕ) → n ≤ 16 → IsValid (jobshop g n)
jobshop_valid g n few =
    let cs = jobshop_constraints g n in
    let count = n * n + 1 in
    let end = short g n few in
    let square = few_tasks n few in
    let good = all_good g n few in
    let lines = constraint_count g n in
    let sizes = sum_by-le constraint_entries 256 cs (All-weaker (IsGood g n) (λ c. constraint_entries c ≤ 256) (λ c k. k.entries) cs good) in
    let at_end : n * n < count = omega arith in
    let one : unsigned_abs (pos 1) ≤ 1 = lit≤ tt in
    valid_from (variables g n) cs (least_of (pos (n * n) ∷ []) (pos 1 ∷ []) (pos 1)) (record {
      few_variables = omega (arith, length-replicate count (up_to (horizon g n)));
      few_constraints = omega arith;
      entries = omega (arith, sum_by-replicate variable_entries count (up_to (horizon g n)), sizes);
      variables = All-replicate (λ v. variable_fault v ≡ None) count (up_to (horizon g n)) (up_to_kept (horizon g n) (omega arith));
      constraints = All-weaker (IsGood g n) (λ c. constraint_fault (variables g n) cs c ≡ None) (λ c k. k.kept) cs good;
      objective = least_kept (variables g n) (pos (n * n) ∷ []) (pos 1 ∷ []) (pos 1)
          (named_in count (up_to (horizon g n)) ((n * n) ∷ []) (All-cons (λ i. i < count) (n * n) [] at_end (All-nil (λ i. i < count)))) refl
          (small_reach count (horizon g n) 1 0 (pos (n * n) ∷ []) (pos 1 ∷ []) (All-cons (λ c. unsigned_abs c ≤ 1) (pos 1) [] one (All-nil (λ c. unsigned_abs c ≤ 1))) (omega arith));
    })
