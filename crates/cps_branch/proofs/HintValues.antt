-- What the references of a hint give, from the last to the first.
use Rattle.std.specs.Prelude.{◌==◌, if◌then◌else◌, Option, None}
use Rattle.std.proofs.Common.{ℕ, ◌≡◌, ◌+◌, ◌<◌, ◌≤◌, ◌⊎◌, inl, inr, List, [], ◌∷◌, length, drop, get_or, refl, sym, ◌∙◌, ap, arith, ℤ, pos, min}
use Rattle.std.proofs.lemmas.List.{drop_more, length-drop}
use Rattle.cps_model.specs.Values.{variable_of}
use Rattle.cps_branch.specs.Hints.{hinted_value, hinted_in}

no_values : (rs : List ℤ) (i : ℕ) → hinted_in rs [] i ≡ None
no_values [] i = refl
no_values (r ∷ rs) i = refl

empty_of : (xs : List ℤ) → length xs ≡ 0 → xs ≡ []
empty_of [] h = refl
empty_of (x ∷ xs) h = absurd (omega arith)

ended : (rs ws : List ℤ) (i : ℕ) → (length rs ≡ 0) ⊎ (length ws ≡ 0) → hinted_in rs ws i ≡ None
ended rs ws i (inl h) = ap (λ (xs : List ℤ). hinted_in xs ws i) (empty_of rs h)
ended rs ws i (inr h) = ap (λ (xs : List ℤ). hinted_in rs xs i) (empty_of ws h) ∙ no_values rs i

one_ended : (m n k : ℕ) → k ≡ min m n → (m ≤ k) ⊎ (n ≤ k)
one_ended m n k e = grind arith

-- past the shorter list nothing is given
pub noted_none : (rs ws : List ℤ) (k i : ℕ) → k ≡ min (length rs) (length ws) → hinted_in (drop k rs) (drop k ws) i ≡ None
noted_none rs ws k i e =
    let a = length-drop k rs in
    let b = length-drop k ws in
    ended (drop k rs) (drop k ws) i (elim (one_ended (length rs) (length ws) k e) [ inl l ↦ inl (omega arith) | inr l ↦ inr (omega arith) ])

-- one more reference
pub noted_more : (rs ws : List ℤ) (k m i : ℕ) (here next : Option ℤ) → m ≡ k + 1 → k < length rs → k < length ws → here ≡ (if variable_of (get_or rs k (pos 0)) == i then hinted_value (get_or rs k (pos 0)) (get_or ws k (pos 0)) else next)
    → next ≡ hinted_in (drop m rs) (drop m ws) i → here ≡ hinted_in (drop k rs) (drop k ws) i
noted_more rs ws k m i here next e p q h n =
    let r = get_or rs k (pos 0) in
    let w = get_or ws k (pos 0) in
    let left : drop k rs ≡ r ∷ drop m rs = drop_more rs k (pos 0) p ∙ ap (λ (j : ℕ). r ∷ drop j rs) (sym e) in
    let right : drop k ws ≡ w ∷ drop m ws = drop_more ws k (pos 0) q ∙ ap (λ (j : ℕ). w ∷ drop j ws) (sym e) in
    h ∙ ap (λ (o : Option ℤ). if variable_of r == i then hinted_value r w else o) n
    ∙ sym (ap (λ (xs : List ℤ). hinted_in xs (drop k ws) i) left ∙ ap (λ (xs : List ℤ). hinted_in (r ∷ drop m rs) xs i) right)
