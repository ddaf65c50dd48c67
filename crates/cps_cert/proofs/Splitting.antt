-- An input is split at its mark.
use Rattle.std.specs.Prelude.{codes}
use Rattle.std.proofs.Common.{◌≡◌, ℕ, ◌+◌, ◌-◌, ◌<◌, ◌≤◌, ◌^◌, List, [], ◌∷◌, ◌++◌, length, take, drop, ◌⊎◌, inl, inr, refl, sym, ◌∙◌, ap, subst, arith}
use Rattle.std.proofs.lemmas.List.{append_assoc, take-append-drop, take_at, drop_all, length-append, length-take-le, length-take}
use Rattle.cps_cert.specs.Parts.{HasMark, IsModelPart, IsMarked, IsSplit, feed_count}
use Rattle.cps_cert.proofs.Feeds.{feed_count-length}

pub with_feed : (bytes response : List ℕ) → bytes ≡ (codes "%response" ++ 10 ∷ []) ++ response → IsMarked bytes response
with_feed bytes response e = record { mark = codes "%response" ++ 10 ∷ []; is = inl refl; whole = e }

pub without_feed : (bytes : List ℕ) → ((word : List ℕ) → bytes ≡ (codes "%response" ++ 10 ∷ []) ++ word → ⊥) → HasMark bytes ⊎ (bytes ≡ []) → IsMarked bytes []
without_feed bytes none (inl (inl e)) = record { mark = codes "%response"; is = inr (inl (refl, refl)); whole = e }
without_feed bytes none (inl (inr more)) = absurd (none more.0 more.1)
without_feed bytes none (inr e) = record { mark = []; is = inr (inr (refl, refl)); whole = e }

-- behind the model's part stands the mark, or nothing
pub marked_at : (input : List ℕ) (end : ℕ) → IsModelPart input end → HasMark (drop end input) ⊎ (drop end input ≡ [])
marked_at input end part = elim part.here [
  | inl here ↦ inl here.1
  | inr all ↦ inr (drop_all end input (omega arith))
]

-- the bytes before the response are the model and the mark
before_is : (input response mark : List ℕ) (end begin : ℕ) → drop end input ≡ mark ++ response → begin ≡ length input - length response → take begin input ≡ take end input ++ mark
before_is input response mark end begin e b =
    let whole : input ≡ (take end input ++ mark) ++ response = sym (take-append-drop end input) ∙ ap (λ (bs : List ℕ). take end input ++ bs) e ∙ sym (append_assoc (take end input) mark response) in
    let long : length input ≡ length (take end input ++ mark) + length response = ap length whole ∙ length-append (take end input ++ mark) response in
    let at : length (take end input ++ mark) ≡ begin = omega arith in
    ap (λ (bs : List ℕ). take begin bs) whole ∙ take_at (take end input ++ mark) response begin at

pub split_is : (input response : List ℕ) (end begin : ℕ) → IsModelPart input end → end ≤ length input → IsMarked (drop end input) response → begin ≡ length input - length response → IsSplit input (take end input) response (1 + feed_count (take begin input))
split_is input response end begin part within marked b = record {
  mark = marked.mark;
  is = marked.is;
  whole = sym (take-append-drop end input) ∙ ap (λ (bs : List ℕ). take end input ++ bs) marked.whole;
  part = subst (IsModelPart input) (sym (length-take-le end input within)) part;
  line = ap (λ (bs : List ℕ). 1 + feed_count bs) (before_is input response marked.mark end begin marked.whole b);
}

-- a number of lines fits
pub split_fits : (input response mark : List ℕ) (end begin : ℕ) → drop end input ≡ mark ++ response → begin ≡ length input - length response → length input < 2 ^ 63 → 1 + feed_count (take begin input) + feed_count response < 2 ^ 64
split_fits input response mark end begin e b short =
    let front = feed_count-length (take begin input) in
    let back = feed_count-length response in
    let long = length-append mark response in
    let tail : length (drop end input) ≡ length mark + length response = ap length e ∙ long in
    let both : length (take end input) + length (drop end input) ≡ length input = sym (length-append (take end input) (drop end input)) ∙ ap length (take-append-drop end input) in
    let cut : length (take begin input) ≤ begin = rw (length-take begin input) (omega arith) in
    omega arith
