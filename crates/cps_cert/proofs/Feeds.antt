-- Line feeds, and the line before the first of them.
use Rattle.std.specs.Prelude.{All, ◌==◌, not, cond}
use Rattle.std.specs.List.{flat_map, list_all}
use Rattle.std.proofs.Common.{◌≡◌, ℕ, ◌+◌, ◌<◌, ◌≤◌, List, [], ◌∷◌, ◌++◌, length, get_or, take, drop, Bool, true, false, refl, sym, ◌∙◌, ap, arith}
use Rattle.std.proofs.lemmas.Bool.Decides.{nat_tests}
use Rattle.std.proofs.lemmas.List.{append_assoc, take-append-drop, drop_more}
use Rattle.std.proofs.lemmas.List.Elements.{All-head, All-tail}
use Rattle.std.proofs.lemmas.List.Sums.{sum_by-cons, sum_by-append, count_by-le-length}
use Rattle.std.proofs.lemmas.Option.{slice_get-get_or}
use Rattle.cps_model.proofs.Tests.{and_true}
use Rattle.cps_cert.specs.Parts.{feed_count}
use Rattle.cps_cert.specs.Progress.{IsNextLine}
use Rattle.cps_cert.specs.Verdicts.{is_no_feed, fed_line}
use Rattle.cps_cert.specs.Words.{IsRun}

pub feed_count-cons : (b : ℕ) (bs : List ℕ) → feed_count (b ∷ bs) ≡ cond (b == 10) 1 0 + feed_count bs
feed_count-cons b bs = sum_by-cons (λ x. cond (x == 10) 1 0) b bs

pub feed_count-append : (xs ys : List ℕ) → feed_count (xs ++ ys) ≡ feed_count xs + feed_count ys
feed_count-append xs ys = sum_by-append (λ x. cond (x == 10) 1 0) xs ys

pub feed_count-length : (bs : List ℕ) → feed_count bs ≤ length bs
feed_count-length bs = count_by-le-length (λ b. b == 10) bs

-- a line has none
not_true : (b : Bool) → not b ≡ true → b ≡ false
not_true true e = cc
not_true false e = refl

pub no_feed : (line : List ℕ) → list_all is_no_feed line ≡ true → feed_count line ≡ 0
no_feed [] h = refl
no_feed (b ∷ bs) h =
    let both = and_true (is_no_feed b) (list_all is_no_feed bs) h in
    let here : (b == 10) ≡ false = not_true (b == 10) both.0 in
    let one : cond {A = ℕ} (b == 10) 1 0 ≡ 0 = rw here refl in
    let rest : feed_count bs ≡ 0 = no_feed bs both.1 in
    feed_count-cons b bs ∙ rw (one, rest) refl

pub one_feed : (bs : List ℕ) → feed_count (10 ∷ bs) ≡ 1 + feed_count bs
one_feed bs = feed_count-cons 10 bs

-- so many as lines, and those of the rest
pub feeds_behind : (lines : List (List ℕ)) (rest : List ℕ) → All (λ line. list_all is_no_feed line ≡ true) lines → feed_count (flat_map fed_line lines ++ rest) ≡ length lines + feed_count rest
feeds_behind [] rest w = omega arith
feeds_behind (l ∷ ls) rest w =
    let P = λ (line : List ℕ). list_all is_no_feed line ≡ true in
    let later = feeds_behind ls rest (All-tail P l ls w) in
    let none = no_feed l (All-head P l ls w) in
    let text : flat_map fed_line (l ∷ ls) ++ rest ≡ l ++ (10 ∷ (flat_map fed_line ls ++ rest)) = ap (λ (bs : List ℕ). bs ++ rest) (append_assoc l (10 ∷ []) (flat_map fed_line ls)) ∙ append_assoc l (10 ∷ flat_map fed_line ls) rest in
    let whole : feed_count (flat_map fed_line (l ∷ ls) ++ rest) ≡ feed_count l + feed_count (10 ∷ (flat_map fed_line ls ++ rest)) = ap feed_count text ∙ feed_count-append l _ in
    let one = one_feed (flat_map fed_line ls ++ rest) in
    omega arith

-- the first line feed ends a line
is_feed : (b : ℕ) → not (is_no_feed b) ≡ true → b ≡ 10
is_feed b h = grind (arith, nat_tests)

pub line_at : (bytes : List ℕ) (count : ℕ) → IsRun is_no_feed bytes count → count < length bytes → IsNextLine bytes (take count bytes) (drop (count + 1) bytes)
line_at bytes count run l =
    let at : get_or bytes count 0 ≡ 10 = is_feed _ (run.ends (get_or bytes count 0) (slice_get-get_or bytes count 0 l)) in
    let tail : drop count bytes ≡ 10 ∷ drop (count + 1) bytes = drop_more bytes count 0 l ∙ ap (λ b. b ∷ drop (count + 1) bytes) at in
    record {
      text = sym (take-append-drop count bytes) ∙ ap (λ (bs : List ℕ). take count bytes ++ bs) tail ∙ sym (append_assoc (take count bytes) (10 ∷ []) (drop (count + 1) bytes));
      whole = run.run;
    }

-- behind a line there is one line feed less
pub feed_taken : (bytes line after : List ℕ) → IsNextLine bytes line after → feed_count bytes ≡ 1 + feed_count after
feed_taken bytes line after h =
    let text : bytes ≡ line ++ (10 ∷ after) = h.text ∙ append_assoc line (10 ∷ []) after in
    let count : feed_count bytes ≡ feed_count line + feed_count (10 ∷ after) = ap feed_count text ∙ feed_count-append line (10 ∷ after) in
    let none = no_feed line h.whole in
    let one = one_feed after in
    omega arith
