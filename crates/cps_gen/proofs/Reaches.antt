-- References to variables from 0 to one number, and how far sums over them go.
use Rattle.std.specs.Prelude.{nat_lt, ◌^◌, ◌==◌, replicate, unsigned_abs, slice_index_or}
use Rattle.std.specs.List.{list_all, All}
use Rattle.std.proofs.Common.{◌≡◌, ℕ, zero, suc, ◌+◌, ◌*◌, ◌<◌, ◌≤◌, ℤ, pos, List, [], ◌∷◌, length, map, true, arith, refl, ap, sym, ◌∙◌}
use Rattle.std.proofs.Math.Nat.{mul-le-mul}
use Rattle.std.proofs.lemmas.Bool.{lt-ltb, eq-eqb}
use Rattle.std.proofs.lemmas.List.{length-replicate, length-map}
use Rattle.std.proofs.lemmas.List.Elements.{All-head, All-tail, All-replicate, All-map, All-weaker}
use Rattle.std.proofs.lemmas.List.Folds.{list_all-map}
use Rattle.std.proofs.lemmas.List.Sums.{list_all-from_AllPass}
use Rattle.std.proofs.lemmas.List.FromFn.{get_or-range_with_len, length-range_with_len}
use Rattle.cps_model.specs.declared.model.Variable.{Variable}
use Rattle.cps_model.specs.Values.{variable_of}
use Rattle.cps_model.specs.Reach.{magnitude_of, magnitude_at, reach_of}
use Rattle.cps_model.specs.Rules.{names, names_boolean, has_small_reach}
use Rattle.cps_gen.specs.Parts.{first, references, up_to}

-- so many numbers are below it
pub below_first : (n : ℕ) → All (λ i. i < n) (first n)
below_first n k d lt =
    let at = get_or-range_with_len 0 n k d (omega (arith, length-range_with_len 0 n)) in
    omega (arith, at, length-range_with_len 0 n)

-- numbers below the count of variables, as references
all_named : (count : ℕ) (xs : List ℕ) → All (λ i. i < count) xs → list_all (names count) (map pos xs) ≡ true
all_named count xs h =
    list_all-map (names count) pos xs
    ∙ list_all-from_AllPass (λ i. nat_lt i count) xs (All-weaker (λ i. i < count) (λ i. nat_lt i count ≡ true) (λ i lt. lt-ltb i count lt) xs h)

pub named_in : (count : ℕ) (v : Variable) (xs : List ℕ) → All (λ i. i < count) xs → list_all (names (length (replicate count v))) (map pos xs) ≡ true
named_in count v xs h = ap (λ (n : ℕ). list_all (names n) (map pos xs)) (length-replicate count v) ∙ all_named count xs h

pub references_named : (count : ℕ) (v : Variable) → list_all (names (length (replicate count v))) (references count) ≡ true
references_named count v = named_in count v (first count) (below_first count)

-- each variable is a Boolean one
boolean_at : (count i : ℕ) → i < count → names_boolean (replicate count (up_to 1)) (pos i) ≡ true
boolean_at zero i lt = absurd (omega arith)
boolean_at (suc count) zero lt = refl
boolean_at (suc count) (suc i) lt = boolean_at count i (omega arith)

pub references_boolean : (count : ℕ) → list_all (names_boolean (replicate count (up_to 1))) (references count) ≡ true
references_boolean count =
    list_all-map (names_boolean (replicate count (up_to 1))) pos (first count)
    ∙ list_all-from_AllPass (λ i. names_boolean (replicate count (up_to 1)) (pos i)) (first count)
    (All-weaker (λ i. i < count) (λ i. names_boolean (replicate count (up_to 1)) (pos i) ≡ true) (boolean_at count) (first count) (below_first count))

-- no bound is further from 0 than the greatest
at_most : (ms : List ℕ) (greatest i : ℕ) → All (λ m. m ≤ greatest) ms → slice_index_or ms i 0 ≤ greatest
at_most [] greatest i h = omega arith
at_most (m ∷ ms) greatest zero h = All-head (λ m. m ≤ greatest) m ms h
at_most (m ∷ ms) greatest (suc i) h = at_most ms greatest i (All-tail (λ m. m ≤ greatest) m ms h)

magnitude_small : (count greatest : ℕ) (r : ℤ) → magnitude_at (replicate count (up_to greatest)) r ≤ greatest
magnitude_small count greatest r =
    at_most (map magnitude_of (replicate count (up_to greatest))) greatest (variable_of r)
    (All-map (λ m. m ≤ greatest) magnitude_of (replicate count (up_to greatest))
    (All-replicate (λ v. magnitude_of v ≤ greatest) count (up_to greatest) (omega arith)))

-- so many terms go no further than the most that one may
reach_small : (count greatest most : ℕ) (rs cs : List ℤ) → All (λ c. unsigned_abs c ≤ most) cs → reach_of (replicate count (up_to greatest)) rs cs ≤ length cs * (most * greatest)
reach_small count greatest most [] cs h = omega arith
reach_small count greatest most (r ∷ rs) [] h = omega arith
reach_small count greatest most (r ∷ rs) (c ∷ cs) h =
    let one = mul-le-mul (All-head (λ c. unsigned_abs c ≤ most) c cs h) (magnitude_small count greatest r) in
    let rest = reach_small count greatest most rs cs (All-tail (λ c. unsigned_abs c ≤ most) c cs h) in
    omega (arith, one, rest)

pub small_reach : (count greatest most offset : ℕ) (rs cs : List ℤ) → All (λ c. unsigned_abs c ≤ most) cs → length cs * (most * greatest) + offset < 2 ^ 62 → has_small_reach (replicate count (up_to greatest)) (record { vars = rs; coeffs = cs; offset = pos offset }) ≡ true
small_reach count greatest most offset rs cs h lt = lt-ltb _ _ (omega (arith, reach_small count greatest most rs cs h))

-- as many references as items that are made by number
pub equally_many : {X Y : Type 0} (n : ℕ) (f : ℕ → X) (g : ℕ → Y) → (length (map f (first n)) == length (map g (first n))) ≡ true
equally_many n f g = eq-eqb _ _ (length-map (first n) f ∙ sym (length-map (first n) g))
