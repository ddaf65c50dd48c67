-- An event has surely acted where its greatest time has come and its atom is true.
use Rattle.std.proofs.Common.{rules, ◌<ℤ◌, ◌≤ℤ◌, ◌<◌, ◌∙◌, sym, length}
use Rattle.std.proofs.lemmas.Int.{ints}
use Rattle.cps_p_cumulative.proofs.Levelled.{on_atom, no_not_yes, fixed_later, fixed_absent, sure_acted, active_true, active_not_true, active_none}
use Rattle.cps_p_cumulative.proofs.level.has_surely_acted.Goals as goal

pub returns-then-time-ends-clause-no : goal.returns-then-time-ends-clause-no
returns-then-time-ends-clause-no c = λ e.
    let l : c.args.time <ℤ c.ends.result.1 = (let h = c.if-time-ends.true in search (rules, ints)) in
    fixed_later c.args.past.now c.args.time c.ends.result.1 c.args.event.now l c.ends.ensures.high

pub returns-in-Yes-clause-yes : goal.returns-in-Yes-clause-yes
returns-in-Yes-clause-yes c = λ e.
    let s = c.args.past.now in
    let m = c.args.event.now in
    let l : c.ends.result.1 ≤ℤ c.args.time = (let h = c.if-time-ends.false in search (rules, ints)) in
    sure_acted s c.args.time c.ends.result.1 m l c.ends.ensures.high c.ends.ensures.greatest
    (active_true s m c.in-Some.atom c.in-Some.is (c.truth.ensures.yes.0 c.in-Yes.is) (λ h. no_not_yes (sym (c.truth.ensures.no.1 h) ∙ c.in-Yes.is)))

pub returns-in-None-clause-yes : goal.returns-in-None-clause-yes
returns-in-None-clause-yes c = λ e.
    let s = c.args.past.now in
    let m = c.args.event.now in
    let l : c.ends.result.1 ≤ℤ c.args.time = (let h = c.if-time-ends.false in search (rules, ints)) in
    sure_acted s c.args.time c.ends.result.1 m l c.ends.ensures.high c.ends.ensures.greatest (active_none s m c.in-None.is)

pub returns-in_default : goal.returns-in_default
returns-in_default c =
    let s = c.args.past.now in
    let m = c.args.event.now in
    record {
      yes = λ e. cc;
      no = λ e. fixed_absent s c.args.time m (active_not_true s m c.in-Some.atom c.in-Some.is (λ h. c.in_default.not-Yes (c.truth.ensures.yes.1 h)));
    }

pub truth-requires : goal.truth-requires
truth-requires c = on_atom (λ i. i < length c.args.past.now.first) c.args.event.now c.in-Some.atom c.in-Some.is c.requires
