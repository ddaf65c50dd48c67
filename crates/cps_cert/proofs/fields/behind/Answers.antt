-- A prefix that is stripped, and what is left.
use Rattle.std.specs.Prelude.{MatchOption, Option, Some, None}
use Rattle.std.specs.Cmp.Lexicographic.{pointwise, same_text, other_text}
use Rattle.std.proofs.Common.{◌≡◌, ◌≢◌, ◌++◌, ℕ, ◌+◌, List, length, take, drop, true, false, nat_eq, sym, ◌∙◌, ap}
use Rattle.std.proofs.lemmas.List.{take-append-drop}
use Rattle.std.proofs.Math.Seq.{take-append_seam}
use Rattle.cps_cert.proofs.fields.behind.Goals as goal

stripped : {A : Type 0} (now : A → List ℕ) (line field : List ℕ) (o : Option A) → MatchOption o (pointwise nat_eq (take (length field) line) field ≡ false) (λ x. (pointwise nat_eq (take (length field) line) field ≡ true) × (now x ≡ drop (length field) line) × (length (now x) + length field ≡ length line)) → MatchOption o ((word : List ℕ) → line ≢ field ++ word) (λ x. line ≡ field ++ now x)
stripped now line field None other = λ word e. other_text (take (length field) line) field (sym other) (ap (λ (bs : List ℕ). take (length field) bs) e ∙ take-append_seam field word)
stripped now line field (Some x) same =
    let first = same_text (take (length field) line) field (sym same.0) in
    sym (take-append-drop (length field) line) ∙ ap (λ (bs : List ℕ). bs ++ drop (length field) line) first ∙ ap (λ (bs : List ℕ). field ++ bs) (sym same.1)

pub returns : goal.returns
returns c = stripped (λ s. s.now) c.args.line.now c.args.field.now c.strip_prefix.result (rw c.as_bytes.ensures.value at c.strip_prefix.ensures.cases)
