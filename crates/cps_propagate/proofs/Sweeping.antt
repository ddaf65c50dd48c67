-- What is left where a number is taken out of sweeps.
use Rattle.std.specs.Prelude.{IsPermutation, IfSome, IsNone, MatchOption, option_to_list, true, false}
use Rattle.std.proofs.Common.{ℕ, ◌≡◌, ◌∙◌, refl, List, [], ◌∷◌, ◌++◌, length, append_assoc, append-nil, Some, None, Option, sym, ap, subst, arith}
use Rattle.std.proofs.lemmas.List.Sorted.{IsPermutation-middle, IsPermutation-trans, length_permutation}

pub nothing : (xs : List ℕ) → length xs ≡ 0 → xs ≡ []
nothing [] e = refl
nothing (x ∷ xs) e = absurd (omega (arith, e))

-- the last of a round
pub last_taken : (sweep rest next : List ℕ) (n : ℕ) → sweep ≡ rest ++ n ∷ [] → IsPermutation (sweep ++ next) (n ∷ (rest ++ next))
last_taken sweep rest next n e =
    subst (λ (l : List ℕ). IsPermutation l (n ∷ (rest ++ next))) (sym (ap (λ (l : List ℕ). l ++ next) e ∙ append_assoc rest (n ∷ []) next)) (IsPermutation-middle rest n next)

-- the first of the next round, where nothing was left of the one before
pub first_taken : (old next sorted rest left : List ℕ) (r : Option ℕ) → old ≡ next → IsPermutation next sorted → sorted ≡ rest ++ option_to_list r → left ≡ []
    → IfSome r (λ n. IsPermutation old (n ∷ (rest ++ left)))
first_taken old next sorted rest left None same order taken none = _
first_taken old next sorted rest left (Some n) same order taken none =
    let all = subst (λ (l : List ℕ). IsPermutation l (n ∷ (rest ++ left))) (ap (λ (l : List ℕ). sorted ++ l) none ∙ append-nil sorted) (last_taken sorted rest left n taken) in
    subst (λ (l : List ℕ). IsPermutation l (n ∷ (rest ++ left))) (sym same) (IsPermutation-trans next sorted (n ∷ (rest ++ left)) order all)

-- nothing waited
pub none_waited : (old next sorted : List ℕ) → old ≡ next → IsPermutation next sorted → length sorted ≡ 0 → old ≡ []
none_waited old next sorted same order none = same ∙ nothing next (sym (length_permutation next sorted order) ∙ none)

-- where nothing is left of a round, there is only the next
pub only_next : (sweep next : List ℕ) → length sweep ≡ 0 → sweep ++ next ≡ next
only_next sweep next none = ap (λ (l : List ℕ). l ++ next) (nothing sweep none)

-- what holds where nothing was taken
pub where_none : (r : Option ℕ) (P : Type 0) (Q : ℕ → Type 0) → MatchOption r P Q → IsNone r → P
where_none None P Q h none = h
where_none (Some n) P Q h none = absurd (let bad : true ≡ false = none in cc bad)

-- nothing is left of two sweeps
pub none_left : (rest left old : List ℕ) → length rest ≡ 0 → left ≡ [] → old ≡ [] → rest ++ left ≡ old
none_left rest left old none empty before = ap (λ (l : List ℕ). rest ++ l) empty ∙ only_next rest [] none ∙ sym before
