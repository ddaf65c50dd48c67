-- A loop over a list that has come to its end has seen the whole list.
use Rattle.std.proofs.Common.{◌≡◌, ◌∙◌, ℕ, ◌+◌, ◌<◌, ◌≤◌, List, [], ◌∷◌, ◌++◌, length, take, get_or, map, sym, ap, subst, append_assoc}
use Rattle.std.proofs.lemmas.List.{take_all}
use Rattle.cps_propagate.proofs.Past.{map_more}

-- what holds of all that was seen holds of the list
pub at_end : {A : Type 0} (P : List A → Type 0) (xs : List A) (i : ℕ) → length xs ≤ i → P (take i xs) → P xs
at_end P xs i past h = subst P (take_all i xs past) h

-- a list that gains a number for each item gains one more
pub gains_more : {A : Type 0} (f : A → ℕ) (xs : List A) (i : ℕ) (d : A) (old before now : List ℕ) → i < length xs → now ≡ before ++ f (get_or xs i d) ∷ []
    → before ≡ old ++ map f (take i xs) → now ≡ old ++ map f (take (i + 1) xs)
gains_more f xs i d old before now l more h =
    let gained = f (get_or xs i d) ∷ [] in
    more ∙ ap (λ (ns : List ℕ). ns ++ gained) h ∙ append_assoc old (map f (take i xs)) gained ∙ ap (λ (ns : List ℕ). old ++ ns) (sym (map_more f xs i d l))
