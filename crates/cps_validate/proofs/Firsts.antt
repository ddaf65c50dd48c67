-- The first fault of a list, item by item.
use Rattle.std.specs.Prelude.{Option, Some, None, Bool, true, false, if◌then◌else◌}
use Rattle.std.specs.Option.{option_or}
use Rattle.std.proofs.Common.{◌≡◌, ◌∙◌, ℕ, ◌+◌, ◌<◌, List, [], ◌∷◌, drop, length, get_or, option_map, ap, sym, refl}
use Rattle.std.proofs.lemmas.List.{drop_more}
use Rattle.cps_model.specs.declared.place.Place.{Place}
use Rattle.cps_model.specs.Validity.{or_else, at_place, first_broken, first_faulty}
use Rattle.cps_validate.specs.declared.rule.Rule.{Rule}
use Rattle.cps_validate.specs.Numbers.{number_of}

-- an item without a fault is passed
pub passed : {X : Type 0} (fault : X → Option ℕ) (place : ℕ → Place) (xs : List X) (k : ℕ) (d : X) (whole : Option (ℕ × Place))
    → k < length xs → fault (get_or xs k d) ≡ None → first_faulty fault place k (drop k xs) ≡ whole
    → first_faulty fault place (k + 1) (drop (k + 1) xs) ≡ whole
passed fault place xs k d whole l none h =
    let rest : Option (ℕ × Place) = first_faulty fault place (k + 1) (drop (k + 1) xs) in
    let step : first_faulty fault place k (drop k xs) ≡ rest = ap (first_faulty fault place k) (drop_more xs k d l) ∙ ap (λ (o : Option ℕ). or_else (at_place (place k) o) rest) none in
    sym step ∙ h

-- the first item with a fault
pub found : {X : Type 0} (fault : X → Option ℕ) (place : ℕ → Place) (xs : List X) (k r : ℕ) (d : X) (whole : Option (ℕ × Place))
    → k < length xs → fault (get_or xs k d) ≡ Some r → first_faulty fault place k (drop k xs) ≡ whole
    → Some (r, place k) ≡ whole
found fault place xs k r d whole l some h =
    let rest : Option (ℕ × Place) = first_faulty fault place (k + 1) (drop (k + 1) xs) in
    let step : first_faulty fault place k (drop k xs) ≡ Some (r, place k) = ap (first_faulty fault place k) (drop_more xs k d l) ∙ ap (λ (o : Option ℕ). or_else (at_place (place k) o) rest) some in
    sym step ∙ h

-- the first of two rules that is broken, where each is left out once it is kept
pub first_of_two : (a b : Bool) (p q : Rule)
    → option_map number_of (option_or (if a then None else Some p) (if b then None else Some q))
    ≡ first_broken ((number_of p, a) ∷ (number_of q, b) ∷ [])
first_of_two true true p q = refl
first_of_two true false p q = refl
first_of_two false b p q = refl

-- what two such rules give, by what each part of the code gave
pub of_two : {result x y : Option Rule} → {a b a' b' : Bool} → (p q : Rule)
    → result ≡ option_or x y → x ≡ (if a then None else Some p) → y ≡ (if b then None else Some q) → a ≡ a' → b ≡ b'
    → option_map number_of result ≡ first_broken ((number_of p, a') ∷ (number_of q, b') ∷ [])
of_two {result} {x} {y} {a} {b} {a'} {b'} p q or left right first second =
    cc (or, left, right, first, second, first_of_two a b p q)
