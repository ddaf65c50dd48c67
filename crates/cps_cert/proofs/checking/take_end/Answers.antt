-- The line is `%end`, or it ends here.
use Rattle.std.specs.Prelude.{◌==◌}
use Rattle.std.proofs.Common.{◌≡◌, ◌+◌, ℕ, List, Bool, true, length, refl, sym, ap, subst, arith}
use Rattle.std.proofs.lemmas.List.{nil_from_length}
use Rattle.std.proofs.lemmas.Bool.Decides.{nat_tests}
use Rattle.cps_cert.specs.Lines.{at_end, finished}
use Rattle.cps_cert.specs.Progress.{Passes}
use Rattle.cps_cert.proofs.Clauses.{not_empty}
use Rattle.cps_cert.proofs.Passed.{none_passed, one_passed, stops_here, stuck_unended, stuck_at_line, stuck_behind_end}
use Rattle.cps_cert.proofs.checking.take_end.Goals as goal

pub returns-in_default : goal.returns-in_default
returns-in_default c = λ m. (
    let rest = c.args.start.rest.now in
    let n = c.args.start.number in
    stops_here m at_end at_end rest rest n n (none_passed m at_end rest n) (stuck_unended m at_end rest c.in_default.ensures (λ e. cc)))

pub returns-then-not-is_text : goal.returns-then-not-is_text
returns-then-not-is_text c = λ m. (
    let rest = c.args.start.rest.now in
    let n = c.args.start.number in
    stops_here m at_end at_end rest rest n n (none_passed m at_end rest n)
    (stuck_at_line m at_end rest c.in-Some.line.now c.in-Some.behind.rest.now c.in-Some.ensures.0 (λ next takes. (let is = c.is_text.ensures.1 takes.0 in let other = c.if-not-is_text.true in cc))))

pub returns-then-not-is_empty : goal.returns-then-not-is_empty
returns-then-not-is_empty c = λ m. (
    let rest = c.args.start.rest.now in
    let n = c.args.start.number in
    let after = c.in-Some.behind.rest.now in
    let takes = one_passed m at_end finished rest c.in-Some.line.now after n c.in-Some.ensures.0 (c.is_text.ensures.0 c.if-not-is_text.false, refl) in
    let passes = subst (λ (k : ℕ). Passes m at_end rest n finished after k) (sym c.in-Some.ensures.1) takes in
    let some = not_empty (length after) c.is_empty.result c.is_empty.ensures c.if-not-is_empty.true in
    stops_here m at_end finished rest after n c.in-Some.behind.number passes (stuck_behind_end m after (λ nil. (let none : length after ≡ 0 = ap (λ (bs : List ℕ). length bs) nil in absurd (omega arith)))))

none_behind : (n : ℕ) (b : Bool) → b ≡ (n == 0) → b ≡ true → n ≡ 0
none_behind n b e t = grind (arith, nat_tests)

pub returns : goal.returns
returns c = λ m. (
    let rest = c.args.start.rest.now in
    let n = c.args.start.number in
    let after = c.in-Some.behind.rest.now in
    let takes = one_passed m at_end finished rest c.in-Some.line.now after n c.in-Some.ensures.0 (c.is_text.ensures.0 c.if-not-is_text.false, refl) in
    let none = nil_from_length after (none_behind (length after) c.is_empty.result c.is_empty.ensures c.if-not-is_empty.false) in
    (n + 1, subst (λ (bs : List ℕ). Passes m at_end rest n finished bs (n + 1)) none takes))
