-- A knapsack is valid.
use Rattle.std.specs.Prelude.{int_le, ◌/◌, ◌^◌, replicate, unsigned_abs, None}
use Rattle.std.specs.List.{All}
use Rattle.std.proofs.Common.{◌≡◌, ℕ, ◌+◌, ◌*◌, ◌<◌, ◌≤◌, pos, neg_ℤ, [], ◌∷◌, length, true, arith, lit<, lit≤}
use Rattle.std.proofs.lemmas.Bool.{le-leb}
use Rattle.std.proofs.lemmas.List.{length-replicate}
use Rattle.std.proofs.lemmas.List.Elements.{All-nil, All-cons, All-replicate, All-map}
use Rattle.std.proofs.lemmas.List.Folds.{sum_by-replicate}
use Rattle.std.proofs.lemmas.List.FromFn.{length-map-range_with_len}
use Rattle.rand_pcg.specs.Lcg.{Lcg}
use Rattle.cps_model.specs.declared.constraint.Kind.TheVariants.{Linear}
use Rattle.cps_model.specs.Within.{is_well_shaped}
use Rattle.cps_model.specs.Validity.{variable_fault, constraint_fault, variable_entries, IsValid}
use Rattle.cps_model.proofs.Inside.{unsigned_abs-neg}
use Rattle.cps_gen.specs.Parts.{first, references, up_to, in_force, least_of}
use Rattle.cps_gen.specs.Knapsack.{weight, value, weights, losses, total_weight, knapsack}
use Rattle.cps_gen.proofs.Drawn.{one_to}
use Rattle.cps_gen.proofs.Faults.{valid_from, up_to_kept, linear_kept, least_kept}
use Rattle.cps_gen.proofs.Reaches.{references_named, small_reach, equally_many}

weights_small : (g : Lcg) (n : ℕ) → All (λ c. unsigned_abs c ≤ 100) (weights g n)
weights_small g n =
    All-map (λ c. unsigned_abs c ≤ 100) (λ i. pos (weight g i)) (first n) (λ k d lt. one_to g (2 * _) 100 (lit< tt))

loss_small : (g : Lcg) (i : ℕ) → unsigned_abs (neg_ℤ (pos (value g i))) ≤ 100
loss_small g i = omega (arith, unsigned_abs-neg (pos (value g i)), one_to g (2 * i + 1) 100 (lit< tt))

losses_small : (g : Lcg) (n : ℕ) → All (λ c. unsigned_abs c ≤ 100) (losses g n)
losses_small g n = All-map (λ c. unsigned_abs c ≤ 100) (λ i. neg_ℤ (pos (value g i))) (first n) (λ k d lt. loss_small g _)

pub knapsack_valid : (g : Lcg) (n : ℕ) → n ≤ 10000 → IsValid (knapsack g n)
knapsack_valid g n few =
    let vs = replicate n (up_to 1) in
    let domain = pos 0 ∷ pos (total_weight g n / 2) ∷ [] in
    let c = in_force (Linear (references n) (weights g n) domain) in
    let o = least_of (references n) (losses g n) (neg_ℤ (pos 1)) in
    let shaped : is_well_shaped domain ≡ true = let half : int_le (pos 0) (pos (total_weight g n / 2)) ≡ true = le-leb 0 _ (omega arith) in rw half in
    let heavy : length (weights g n) * (100 * 1) + 0 < 2 ^ 62 = omega (arith, length-map-range_with_len (λ i. pos (weight g i)) 0 n) in
    let dear : length (losses g n) * (100 * 1) + 0 < 2 ^ 62 = omega (arith, length-map-range_with_len (λ i. neg_ℤ (pos (value g i))) 0 n) in
    valid_from vs (c ∷ []) o (record {
      few_variables = omega (arith, length-replicate n (up_to 1));
      few_constraints = lit≤ tt;
      entries = omega (arith, sum_by-replicate variable_entries n (up_to 1), length-map-range_with_len pos 0 n);
      variables = All-replicate (λ v. variable_fault v ≡ None) n (up_to 1) (up_to_kept 1 (lit< tt));
      constraints = All-cons (λ k. constraint_fault vs (c ∷ []) k ≡ None) c []
          (linear_kept vs (c ∷ []) (references n) (weights g n) domain (references_named n (up_to 1)) (equally_many n pos (λ i. pos (weight g i)))
          (small_reach n 1 100 0 (references n) (weights g n) (weights_small g n) heavy) shaped)
          (All-nil (λ k. constraint_fault vs (c ∷ []) k ≡ None));
      objective = least_kept vs (references n) (losses g n) (neg_ℤ (pos 1)) (references_named n (up_to 1)) (equally_many n pos (λ i. neg_ℤ (pos (value g i))))
          (small_reach n 1 100 0 (references n) (losses g n) (losses_small g n) dear);
    })
