-- Each generated model is valid, and of the kinds that are told.
use Rattle.std.specs.Prelude.{nat_le, IsTrue}
use Rattle.std.specs.List.{All}
use Rattle.std.proofs.Common.{◌≡◌, ℕ, [], true, refl, ap, sym}
use Rattle.std.proofs.lemmas.Bool.{and_parts, leb-true}
use Rattle.std.proofs.lemmas.List.Elements.{All-nil, All-cons}
use Rattle.cps_model.specs.Validity.{IsValid}
use Rattle.cps_gen.specs.declared.family.Family.{Family}
use Rattle.cps_gen.specs.declared.family.Family.TheVariants.{Knapsack, Jobshop, Tour}
use Rattle.cps_gen.specs.Draws.{draws_of}
use Rattle.cps_gen.specs.Families.{is_in_range}
use Rattle.cps_gen.specs.Generated.{generated, is_generated}
use Rattle.cps_gen.specs.Knapsack.{knapsack}
use Rattle.cps_gen.specs.Jobshop.{jobshop}
use Rattle.cps_gen.specs.Tour.{tour}
use Rattle.cps_gen.proofs.Knapsacks.{knapsack_valid}
use Rattle.cps_gen.proofs.Jobshops.{jobshop_valid, jobshop_told}
use Rattle.cps_gen.proofs.Tours.{tour_valid}

pub generated_knapsack : (f : Family) (size seed : ℕ) → f ≡ Knapsack → knapsack (draws_of seed 1) size ≡ generated f size seed
unfolding generated
generated_knapsack f size seed is = ap (λ (k : Family). generated k size seed) (sym is)

pub generated_jobshop : (f : Family) (size seed : ℕ) → f ≡ Jobshop → jobshop (draws_of seed 2) size ≡ generated f size seed
unfolding generated
generated_jobshop f size seed is = ap (λ (k : Family). generated k size seed) (sym is)

pub generated_tour : (f : Family) (size seed : ℕ) → f ≡ Tour → tour (draws_of seed 3) size ≡ generated f size seed
unfolding generated
generated_tour f size seed is = ap (λ (k : Family). generated k size seed) (sym is)

pub generated_valid : (f : Family) (size seed : ℕ) → is_in_range f size ≡ true → IsValid (generated f size seed)
unfolding generated
generated_valid Knapsack size seed h = knapsack_valid (draws_of seed 1) size (leb-true _ _ (and_parts (nat_le 1 size) (nat_le size 10000) h).1)
generated_valid Jobshop size seed h = jobshop_valid (draws_of seed 2) size (leb-true _ _ (and_parts (nat_le 1 size) (nat_le size 16) h).1)
generated_valid Tour size seed h = tour_valid (draws_of seed 3) size (leb-true _ _ (and_parts (nat_le 2 size) (nat_le size 60) h).1)

pub generated_told : (f : Family) (size seed : ℕ) → is_in_range f size ≡ true → All (λ c. IsTrue (is_generated c.kind)) (generated f size seed).constraints
unfolding generated
generated_told Knapsack size seed h = All-cons (λ c. IsTrue (is_generated c.kind)) _ [] refl (All-nil (λ c. IsTrue (is_generated c.kind)))
generated_told Jobshop size seed h = jobshop_told (draws_of seed 2) size (leb-true _ _ (and_parts (nat_le 1 size) (nat_le size 16) h).1)
generated_told Tour size seed h = All-cons (λ c. IsTrue (is_generated c.kind)) _ [] refl (All-nil (λ c. IsTrue (is_generated c.kind)))
