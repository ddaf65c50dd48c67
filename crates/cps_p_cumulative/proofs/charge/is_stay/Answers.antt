-- What is tested of a stay in numbers of 128 bits is so of its numbers of 64.
use Rattle.std.proofs.Common.{rules, FitsSigned, w64, pos, ◌≡◌, ◌∙◌, ap, ◌≤ℤ◌, ◌+ℤ◌, ℤ, sym, true, true≢false}
use Rattle.std.specs.Prelude.{Some, None, int_lt, int_le, false}
use Rattle.std.proofs.lemmas.Int.{to_z-of_z}
use Rattle.cps_domain.proofs.Tests.{true_le}
use Rattle.cps_p_cumulative.proofs.Energy.{stay-of, wide_sum, wide_sum_fits, wide_next, wide_next_fits}
use Rattle.cps_p_cumulative.proofs.SpanDemands.{false_lt}
use Rattle.cps_p_cumulative.proofs.charge.is_stay.Goals as goal

not_less_as : (a b x y : ℤ) → x ≡ a → y ≡ b → int_lt x y ≡ false → b ≤ℤ a
not_less_as a b x y e f h = false_lt a b (ap (λ (z : ℤ). int_lt z b) (sym e) ∙ ap (λ (z : ℤ). int_lt x z) (sym f) ∙ h)

at_most_as : (a b x y : ℤ) → x ≡ a → y ≡ b → int_le x y ≡ true → a ≤ℤ b
at_most_as a b x y e f h = true_le a b (ap (λ (z : ℤ). int_le z b) (sym e) ∙ ap (λ (z : ℤ). int_le x z) (sym f) ∙ h)

pub overflow_add-end : goal.overflow_add-end
overflow_add-end c = wide_next_fits c.args.stay.after c.from-end.result (search rules) c.from-end.ensures

pub overflow_add-result : goal.overflow_add-result
overflow_add-result c = wide_sum_fits c.args.stay.latest c.args.stay.ticks c.from-latest.result c.from-ticks.result (search rules) (search rules) c.from-latest.ensures c.from-ticks.ensures

pub overflow_add-start : goal.overflow_add-start
overflow_add-start c = wide_sum_fits c.args.case.time c.args.stay.ticks c.from-start.result c.from-ticks.result (search rules) (search rules) c.from-start.ensures c.from-ticks.ensures

pub overflow_add-start-2 : goal.overflow_add-start-2
overflow_add-start-2 c = wide_sum_fits c.args.case.time c.args.case.width c.from-start.result c.from.result (search rules) (search rules) c.from-start.ensures c.from.ensures

pub overflow_add-latest : goal.overflow_add-latest
overflow_add-latest c = wide_sum_fits c.args.stay.latest c.args.stay.ticks c.from-latest.result c.from-ticks.result (search rules) (search rules) c.from-latest.ensures c.from-ticks.ensures

pub returns-then-start-from : goal.returns-then-start-from
returns-then-start-from c = λ yes. absurd (true≢false (sym yes))

pub returns-then-stay-lt0 : goal.returns-then-stay-lt0
returns-then-stay-lt0 c = λ yes. absurd (true≢false (sym yes))

pub returns-in-Some : goal.returns-in-Some
returns-in-Some c = λ test.
    let t = c.args.case.time in
    let w = c.args.case.width in
    let stay = c.args.stay in
    let ticks = stay.ticks in
    let latest = stay.latest in
    let after = stay.after in
    let ft : FitsSigned w64 t = search rules in
    let fw : FitsSigned w64 w = search rules in
    let fk : FitsSigned w64 ticks = search rules in
    let fl : FitsSigned w64 latest = search rules in
    let fa : FitsSigned w64 after = search rules in
    let some : pos 0 ≤ℤ ticks = false_lt ticks (pos 0) (rw (to_z-of_z w64 ticks fk) at c.if-stay-lt0.false) in
    let within : ticks ≤ℤ w = false_lt w ticks (rw (to_z-of_z w64 w fw, to_z-of_z w64 ticks fk) at c.if-case-stay.false) in
    let left : (t +ℤ ticks) ≤ℤ (after +ℤ pos 1) = not_less_as (after +ℤ pos 1) (t +ℤ ticks) _ _ (wide_next after c.from-end.result fa c.from-end.ensures) (wide_sum t ticks c.from-start.result c.from-ticks.result ft fk c.from-start.ensures c.from-ticks.ensures) c.if-end-start.false in
    let right : (latest +ℤ ticks) ≤ℤ (t +ℤ w) = not_less_as (t +ℤ w) (latest +ℤ ticks) _ _ (wide_sum t w c.from-start.result c.from.result ft fw c.from-start.ensures c.from.ensures) (wide_sum latest ticks c.from-latest.result c.from-ticks.result fl fk c.from-latest.ensures c.from-ticks.ensures) c.if-start-from.false in
    let ff : FitsSigned w64 c.in-Some.length = search rules in
    let long : ticks ≤ℤ c.in-Some.length = true_le ticks c.in-Some.length (rw (to_z-of_z w64 ticks fk, to_z-of_z w64 c.in-Some.length ff) at test) in
    stay-of t w c.args.span.now.length (Some c.in-Some.length) stay c.in-Some.is long some within left right

pub returns-in-None : goal.returns-in-None
returns-in-None c = λ test.
    let t = c.args.case.time in
    let w = c.args.case.width in
    let stay = c.args.stay in
    let ticks = stay.ticks in
    let latest = stay.latest in
    let after = stay.after in
    let ft : FitsSigned w64 t = search rules in
    let fw : FitsSigned w64 w = search rules in
    let fk : FitsSigned w64 ticks = search rules in
    let fl : FitsSigned w64 latest = search rules in
    let fa : FitsSigned w64 after = search rules in
    let some : pos 0 ≤ℤ ticks = false_lt ticks (pos 0) (rw (to_z-of_z w64 ticks fk) at c.if-stay-lt0.false) in
    let within : ticks ≤ℤ w = false_lt w ticks (rw (to_z-of_z w64 w fw, to_z-of_z w64 ticks fk) at c.if-case-stay.false) in
    let left : (t +ℤ ticks) ≤ℤ (after +ℤ pos 1) = not_less_as (after +ℤ pos 1) (t +ℤ ticks) _ _ (wide_next after c.from-end.result fa c.from-end.ensures) (wide_sum t ticks c.from-start.result c.from-ticks.result ft fk c.from-start.ensures c.from-ticks.ensures) c.if-end-start.false in
    let right : (latest +ℤ ticks) ≤ℤ (t +ℤ w) = not_less_as (t +ℤ w) (latest +ℤ ticks) _ _ (wide_sum t w c.from-start.result c.from.result ft fw c.from-start.ensures c.from.ensures) (wide_sum latest ticks c.from-latest.result c.from-ticks.result fl fk c.from-latest.ensures c.from-ticks.ensures) c.if-start-from.false in
    let long : (latest +ℤ ticks) ≤ℤ (after +ℤ pos 1) = at_most_as (latest +ℤ ticks) (after +ℤ pos 1) _ _ (wide_sum latest ticks c.from-latest.result c.from-ticks.result fl fk c.from-latest.ensures c.from-ticks.ensures) (wide_next after c.from-end.result fa c.from-end.ensures) test in
    stay-of t w c.args.span.now.length None stay c.in-None.is long some within left right
