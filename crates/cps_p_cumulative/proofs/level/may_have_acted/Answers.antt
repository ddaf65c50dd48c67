-- An event that may not have acted comes later, or is absent.
use Rattle.std.proofs.Common.{true, rules, ◌<ℤ◌, ◌≤ℤ◌, ◌<◌, ◌∙◌, sym, length}
use Rattle.std.proofs.lemmas.Int.{ints}
use Rattle.cps_p_cumulative.proofs.Levelled.{on_atom, yes_not_no, fixed_acted, sure_later, sure_absent, active_false, active_not_false, active_fixed, active_none}
use Rattle.cps_p_cumulative.proofs.level.may_have_acted.Goals as goal

pub returns-then-time-ends-clause-no : goal.returns-then-time-ends-clause-no
returns-then-time-ends-clause-no c = λ e.
    let l : c.args.time <ℤ c.ends.result.0 = (let h = c.if-time-ends.true in search (rules, ints)) in
    sure_later c.args.past.now c.args.time c.ends.result.0 c.args.event.now l c.ends.ensures.low c.ends.ensures.least

pub returns-in-No-clause-no : goal.returns-in-No-clause-no
returns-in-No-clause-no c = λ e.
    let s = c.args.past.now in
    let m = c.args.event.now in
    sure_absent s c.args.time m (active_false s m c.in-Some.atom c.in-Some.is (c.truth.ensures.no.0 c.in-No.is) (λ h. yes_not_no (sym (c.truth.ensures.yes.1 h) ∙ c.in-No.is)))

pub returns-in_default : goal.returns-in_default
returns-in_default c =
    let s = c.args.past.now in
    let m = c.args.event.now in
    let l : c.ends.result.0 ≤ℤ c.args.time = (let h = c.if-time-ends.false in search (rules, ints)) in
    record {
      no = λ e. cc;
      yes = λ e. fixed_acted s c.args.time c.ends.result.0 m l c.ends.ensures.low (active_not_false s m c.in-Some.atom c.in-Some.is (λ h. c.in_default.not-No (c.truth.ensures.no.1 h)));
    }

pub returns-in-None-clause-yes : goal.returns-in-None-clause-yes
returns-in-None-clause-yes c = λ e.
    let s = c.args.past.now in
    let m = c.args.event.now in
    let l : c.ends.result.0 ≤ℤ c.args.time = (let h = c.if-time-ends.false in search (rules, ints)) in
    fixed_acted s c.args.time c.ends.result.0 m l c.ends.ensures.low (active_fixed s m true (active_none s m c.in-None.is))

pub truth-requires : goal.truth-requires
truth-requires c = on_atom (λ i. i < length c.args.past.now.first) c.args.event.now c.in-Some.atom c.in-Some.is c.requires
