-- An input is split in one way.
use Rattle.std.specs.Prelude.{codes}
use Rattle.std.proofs.Common.{◌≡◌, ℕ, ◌+◌, ◌<◌, ◌≤◌, List, [], ◌∷◌, ◌++◌, length, take, ◌⊎◌, inl, inr, refl, sym, ◌∙◌, ap, arith}
use Rattle.std.proofs.lemmas.List.{append_cancel_left, take_at, length-append}
use Rattle.cps_cert.specs.Parts.{IsModelPart, IsMark, IsSplit, feed_count}
use Rattle.cps_cert.proofs.OneVerdict.{order}

-- ---- where the model ends

not_before : (input : List ℕ) (a b : ℕ) → IsModelPart input a → IsModelPart input b → b ≤ length input → a < b → ⊥
not_before input a b p q within less = elim p.here [
  | inl here ↦ q.before a less here.0 here.1
  | inr all ↦ absurd (omega arith)
]

one_end : (input : List ℕ) (a b : ℕ) → IsModelPart input a → IsModelPart input b → a ≤ length input → b ≤ length input → a ≡ b
one_end input a b p q within within' = elim (order a b) [
  | inl l ↦ absurd (not_before input a b p q within' l)
  | inr other ↦ elim other [ inl e ↦ e | inr l ↦ absurd (not_before input b a q p within l) ]
]

front_within : (input m rest : List ℕ) → input ≡ m ++ rest → length m ≤ length input
front_within input m rest e = let long : length input ≡ length m + length rest = ap length e ∙ length-append m rest in omega arith

one_front : (m n x y : List ℕ) → m ++ x ≡ n ++ y → length m ≡ length n → m ≡ n
one_front m n x y e same = sym (take_at m x (length m) refl) ∙ ap (λ (bs : List ℕ). take (length m) bs) e ∙ take_at n y (length m) (sym same)

-- ---- the mark

whole_long : (mark r : List ℕ) → mark ≡ codes "%response" ++ 10 ∷ [] → length (mark ++ r) ≡ 10 + length r
whole_long mark r e = let long : length mark ≡ 10 = ap length e in let both = length-append mark r in omega arith

last_long : (mark r : List ℕ) → mark ≡ codes "%response" → r ≡ [] → length (mark ++ r) ≡ 9
last_long mark r e nil =
    let long : length mark ≡ 9 = ap length e in
    let none : length r ≡ 0 = ap length nil in
    let both = length-append mark r in
    omega arith

none_long : (mark r : List ℕ) → mark ≡ [] → r ≡ [] → length (mark ++ r) ≡ 0
none_long mark r e nil =
    let long : length mark ≡ 0 = ap length e in
    let none : length r ≡ 0 = ap length nil in
    let both = length-append mark r in
    omega arith

behind_whole : (mark back r s : List ℕ) → mark ≡ codes "%response" ++ 10 ∷ [] → back ≡ codes "%response" ++ 10 ∷ [] → mark ++ r ≡ back ++ s → r ≡ s
behind_whole mark back r s e f w = append_cancel_left mark r s (w ∙ ap (λ (bs : List ℕ). bs ++ s) (f ∙ sym e))

differ : (x y : List ℕ) (j k : ℕ) → x ≡ y → length x ≡ j → length y ≡ k → (j < k) ⊎ (k < j) → ⊥
differ x y j k e l m (inl less) = let same : length x ≡ length y = ap length e in absurd (omega arith)
differ x y j k e l m (inr less) = let same : length x ≡ length y = ap length e in absurd (omega arith)

one_mark : (mark back r s : List ℕ) → IsMark mark r → IsMark back s → mark ++ r ≡ back ++ s → (mark ≡ back) × (r ≡ s)
one_mark mark back r s (inl e) (inl f) w = (e ∙ sym f, behind_whole mark back r s e f w)
one_mark mark back r s (inl e) (inr (inl f)) w = absurd (differ (mark ++ r) (back ++ s) (10 + length r) 9 w (whole_long mark r e) (last_long back s f.0 f.1) (inr (omega arith)))
one_mark mark back r s (inl e) (inr (inr f)) w = absurd (differ (mark ++ r) (back ++ s) (10 + length r) 0 w (whole_long mark r e) (none_long back s f.0 f.1) (inr (omega arith)))
one_mark mark back r s (inr (inl e)) (inl f) w = absurd (differ (mark ++ r) (back ++ s) 9 (10 + length s) w (last_long mark r e.0 e.1) (whole_long back s f) (inl (omega arith)))
one_mark mark back r s (inr (inl e)) (inr (inl f)) w = (e.0 ∙ sym f.0, e.1 ∙ sym f.1)
one_mark mark back r s (inr (inl e)) (inr (inr f)) w = absurd (differ (mark ++ r) (back ++ s) 9 0 w (last_long mark r e.0 e.1) (none_long back s f.0 f.1) (inr (omega arith)))
one_mark mark back r s (inr (inr e)) (inl f) w = absurd (differ (mark ++ r) (back ++ s) 0 (10 + length s) w (none_long mark r e.0 e.1) (whole_long back s f) (inl (omega arith)))
one_mark mark back r s (inr (inr e)) (inr (inl f)) w = absurd (differ (mark ++ r) (back ++ s) 0 9 w (none_long mark r e.0 e.1) (last_long back s f.0 f.1) (inl (omega arith)))
one_mark mark back r s (inr (inr e)) (inr (inr f)) w = (e.0 ∙ sym f.0, e.1 ∙ sym f.1)

pub split_once : (input m n r s : List ℕ) (j k : ℕ) → IsSplit input m r j → IsSplit input n s k → (m ≡ n) × (r ≡ s) × (j ≡ k)
split_once input m n r s j k p q =
    let tail = p.mark ++ r in
    let tail' = q.mark ++ s in
    let same = one_end input (length m) (length n) p.part q.part (front_within input m tail p.whole) (front_within input n tail' q.whole) in
    let models = one_front m n tail tail' (sym p.whole ∙ q.whole) same in
    let tails : p.mark ++ r ≡ q.mark ++ s = append_cancel_left m tail tail' (sym p.whole ∙ q.whole ∙ ap (λ (bs : List ℕ). bs ++ tail') (sym models)) in
    let marks = one_mark p.mark q.mark r s p.is q.is tails in
    let lines : 1 + feed_count (m ++ p.mark) ≡ 1 + feed_count (n ++ q.mark) = ap (λ (bs : List ℕ). 1 + feed_count (bs ++ p.mark)) models ∙ ap (λ (bs : List ℕ). 1 + feed_count (n ++ bs)) marks.0 in
    (models, marks.1, p.line ∙ lines ∙ sym q.line)
