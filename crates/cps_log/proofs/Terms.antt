-- The text of the first terms of a sum.
use Rattle.std.specs.Fmt.{signed_decimal}
use Rattle.std.proofs.Common.{◌≡◌, ℕ, zero, suc, ◌+◌, ◌<◌, ℤ, pos, List, [], ◌∷◌, ◌++◌, length, get_or, take, min, refl, add-one, ap, arith}
use Rattle.std.proofs.lemmas.List.{append_assoc, append-nil}
use Rattle.cps_log.specs.Writing.{behind_blank, terms_text}

-- one term more
pub terms_more : (rs cs : List ℤ) (i : ℕ) → i < length rs → i < length cs → terms_text (take (suc i) rs) (take (suc i) cs) ≡ terms_text (take i rs) (take i cs) ++ (behind_blank (signed_decimal (get_or rs i (pos 0))) ++ behind_blank (signed_decimal (get_or cs i (pos 0))))
terms_more [] cs i h k = absurd (omega arith)
terms_more (r ∷ rs) [] i h k = absurd (omega arith)
terms_more (r ∷ rs) (c ∷ cs) zero h k = ap (λ (bs : List ℕ). behind_blank (signed_decimal r) ++ bs) (append-nil (behind_blank (signed_decimal c)))
terms_more (r ∷ rs) (c ∷ cs) (suc i) h k =
    let rest = terms_more rs cs i (omega arith) (omega arith) in
    rw rest (simp append_assoc)

-- all of them
pub terms_first : (rs cs : List ℤ) (i : ℕ) → i ≡ min (length rs) (length cs) → terms_text (take i rs) (take i cs) ≡ terms_text rs cs
terms_first [] cs zero e = refl
terms_first [] cs (suc i) e = absurd (omega arith)
terms_first (r ∷ rs) [] zero e = refl
terms_first (r ∷ rs) [] (suc i) e = absurd (omega arith)
terms_first (r ∷ rs) (c ∷ cs) zero e = absurd (omega arith)
terms_first (r ∷ rs) (c ∷ cs) (suc i) e = ap (λ (bs : List ℕ). behind_blank (signed_decimal r) ++ (behind_blank (signed_decimal c) ++ bs)) (terms_first rs cs i (omega arith))

-- a text with one term more
pub text_with_term : (before now next : List ℕ) (rs cs : List ℤ) (i : ℕ) (r c : ℤ) → i < length rs → i < length cs → now ≡ before ++ terms_text (take i rs) (take i cs) → r ≡ get_or rs i (pos 0) → c ≡ get_or cs i (pos 0) → next ≡ now ++ (behind_blank (signed_decimal r) ++ behind_blank (signed_decimal c)) → next ≡ before ++ terms_text (take (i + 1) rs) (take (i + 1) cs)
text_with_term before now next rs cs i r c h k e v w f = rw (add-one, terms_more rs cs i h k, f, e, v, w) (simp append_assoc)
