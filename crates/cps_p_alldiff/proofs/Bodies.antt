-- Different values of subjects, and different positions.
use Rattle.std.proofs.Common.{ℕ, ◌<◌, ℤ, pos, ◌≡◌, ◌≢◌, List, length, get_or, sym, ◌∙◌, arith}
use Rattle.std.specs.List.{AllPairs}
use Rattle.std.proofs.lemmas.List.{get_or-map, length-map}
use Rattle.cps_model.specs.Lookups.{IsAllDifferent}
use Rattle.cps_literal.specs.Truth.{value_at}
use Rattle.cps_instance.specs.Parts.{values_at}

at_place : (xs : List ℤ) (is : List ℕ) (k d : ℕ) (e : ℤ) → k < length is → get_or (values_at xs is) k e ≡ value_at xs (get_or is k d)
at_place xs is k d e l = get_or-map (value_at xs) is k d e l

count_of : (xs : List ℤ) (is : List ℕ) → length (values_at xs is) ≡ length is
count_of xs is = length-map is (value_at xs)

pub all_different : (xs : List ℤ) (is : List ℕ) → AllPairs (λ i j. value_at xs i ≢ value_at xs j) is → IsAllDifferent (values_at xs is)
all_different xs is h i j e l m same =
    let n = count_of xs is in
    let b : j < length is = omega arith in
    h i j 0 l b (sym (at_place xs is i 0 e (omega arith)) ∙ same ∙ at_place xs is j 0 e b)

pub apart : (xs : List ℤ) (is : List ℕ) → IsAllDifferent (values_at xs is) → AllPairs (λ i j. value_at xs i ≢ value_at xs j) is
apart xs is h i j d l m same =
    let n = count_of xs is in
    h i j (pos 0) l (omega arith) (at_place xs is i d (pos 0) (omega arith) ∙ same ∙ sym (at_place xs is j d (pos 0) m))
