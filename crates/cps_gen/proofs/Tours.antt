-- A tour is valid.
use Rattle.std.specs.Prelude.{int_le, ◌/◌, ◌%◌, ◌^◌, ◌==◌, replicate, unsigned_abs, None}
use Rattle.std.specs.List.{list_all, All}
use Rattle.std.proofs.Common.{◌≡◌, ℕ, ◌+◌, ◌*◌, ◌<◌, ◌≤◌, ℤ, pos, List, [], ◌∷◌, length, map, true, false, arith, refl, ap, sym, ◌∙◌, lit<, lit≤}
use Rattle.std.proofs.Math.Nat.{mul-le-mul}
use Rattle.std.proofs.lemmas.Bool.{le-leb, eq-eqb, eqb-false, and_from, not-true, false_from_ne_true}
use Rattle.std.proofs.lemmas.Bool.Decides.{Decides-int_eq}
use Rattle.std.specs.Ordering.{int_eq}
use Rattle.std.proofs.lemmas.List.{length-replicate, length-map}
use Rattle.std.proofs.lemmas.List.Elements.{All-head, All-tail, All-nil, All-cons, All-replicate, All-map, All-weaker, filter_passes}
use Rattle.std.proofs.lemmas.List.Folds.{sum_by-replicate}
use Rattle.std.proofs.lemmas.List.FromFn.{length-map-range_with_len}
use Rattle.rand_pcg.specs.Lcg.{Lcg}
use Rattle.cps_model.specs.declared.constraint.Kind.TheVariants.{Circuit}
use Rattle.cps_model.specs.KindRules.{loop_nodes, has_no_two_equal, has_nodes}
use Rattle.cps_model.specs.Validity.{variable_fault, constraint_fault, variable_entries, IsValid}
use Rattle.cps_gen.specs.Parts.{first, references, up_to, in_force, least_of}
use Rattle.cps_gen.specs.Tour.{is_arc, arcs, tails, heads, cost, costs, tour}
use Rattle.cps_gen.proofs.Drawn.{one_to}
use Rattle.cps_gen.proofs.Lists.{few_pass}
use Rattle.cps_gen.proofs.Faults.{valid_from, up_to_kept, circuit_kept, least_kept}
use Rattle.cps_gen.proofs.Reaches.{references_named, references_boolean, small_reach, equally_many}

-- no node is below 0
from_zero : (f : ℕ → ℕ) (xs : List ℕ) → list_all (int_le (pos 0)) (map (λ p. pos (f p)) xs) ≡ true
from_zero f [] = refl
from_zero f (x ∷ xs) =
    let one : int_le (pos 0) (pos (f x)) ≡ true = le-leb 0 (f x) (omega arith) in
    and_from _ _ one (from_zero f xs)

-- nodes that differ do so as whole numbers
differ_as_ints : (a b : ℕ) → (a == b) ≡ false → int_eq (pos a) (pos b) ≡ false
differ_as_ints a b e = false_from_ne_true _ (λ same. eqb-false a b e (let equal : pos a ≡ pos b = (Decides-int_eq (pos a) (pos b)).0 same in cc))

-- no arc is a loop
no_loops : (f h : ℕ → ℕ) (xs : List ℕ) → All (λ p. (f p == h p) ≡ false) xs → loop_nodes (map (λ p. pos (f p)) xs) (map (λ p. pos (h p)) xs) ≡ []
no_loops f h [] differ = refl
no_loops f h (x ∷ xs) differ =
    let one = differ_as_ints (f x) (h x) (All-head (λ p. (f p == h p) ≡ false) x xs differ) in
    let rest = no_loops f h xs (All-tail (λ p. (f p == h p) ≡ false) x xs differ) in
    rw (one, rest)

nodes_kept : (n : ℕ) → has_nodes (tails n) (heads n) ≡ true
nodes_kept n =
    let differ = All-weaker (λ p. is_arc n p ≡ true) (λ p. (p / n == p % n) ≡ false) (λ p e. not-true (p / n == p % n) e) (arcs n) (filter_passes (is_arc n) (first (n * n))) in
    let loops = no_loops (λ p. p / n) (λ p. p % n) (arcs n) differ in
    and_from _ _ (and_from _ _ (from_zero (λ p. p / n) (arcs n)) (from_zero (λ p. p % n) (arcs n))) (ap has_no_two_equal loops)

costs_small : (g : Lcg) (count : ℕ) → All (λ c. unsigned_abs c ≤ 100) (costs g count)
costs_small g count =
    All-map (λ c. unsigned_abs c ≤ 100) (λ a. pos (cost g a)) (first count) (λ k d lt. one_to g _ 100 (lit< tt))

pub tour_valid : (g : Lcg) (n : ℕ) → n ≤ 60 → IsValid (tour g n)
tour_valid g n few =
    let count = length (arcs n) in
    let square : n * n ≤ 3600 = mul-le-mul few few in
    let less : length (arcs n) ≤ 3600 = omega (arith, few_pass (is_arc n) (n * n)) in
    let vs = replicate count (up_to 1) in
    let c = in_force (Circuit (tails n) (heads n) (references count)) in
    let tail_count = length-map (arcs n) (λ p. pos (p / n)) in
    let head_count = length-map (arcs n) (λ p. pos (p % n)) in
    let literal_count = length-map-range_with_len pos 0 count in
    let cost_count = length-map-range_with_len (λ a. pos (cost g a)) 0 count in
    let dear : length (costs g count) * (100 * 1) + 0 < 2 ^ 62 = omega (arith, cost_count) in
    valid_from vs (c ∷ []) (least_of (references count) (costs g count) (pos 1)) (record {
      few_variables = omega (arith, length-replicate count (up_to 1));
      few_constraints = lit≤ tt;
      entries = omega (arith, sum_by-replicate variable_entries count (up_to 1), tail_count, head_count, literal_count);
      variables = All-replicate (λ v. variable_fault v ≡ None) count (up_to 1) (up_to_kept 1 (lit< tt));
      constraints = All-cons (λ k. constraint_fault vs (c ∷ []) k ≡ None) c []
          (circuit_kept vs (c ∷ []) (tails n) (heads n) (references count) (references_named count (up_to 1)) (references_boolean count)
          (eq-eqb _ _ (tail_count ∙ sym head_count)) (eq-eqb _ _ (tail_count ∙ sym literal_count)) (nodes_kept n))
          (All-nil (λ k. constraint_fault vs (c ∷ []) k ≡ None));
      objective = least_kept vs (references count) (costs g count) (pos 1) (references_named count (up_to 1)) (equally_many count pos (λ a. pos (cost g a)))
          (small_reach count 1 100 0 (references count) (costs g count) (costs_small g count) dear);
    })
