use Rattle.std.specs.Prelude.{IsTrue, None, Some}
use Rattle.std.proofs.Common.{◌≡◌, ◌∙◌, ◌<◌, ◌≤◌, length, ap, sym, arith, rules}
use Rattle.std.proofs.lemmas.Result.{on_ok_weaker}
use Rattle.cps_search.specs.LogItems.{counts_of, sum_subject}
use Rattle.cps_search.proofs.LogGrowth.{grows_more, reason_grows, ends_grows, objective_grows}
use Rattle.cps_search.proofs.log_items.write_item.Goals as goal

pub returns-then-task-counts : goal.returns-then-task-counts
returns-then-task-counts c =
    let p = c.args.instance.now in
    let m = c.define_up_to.new.tracer in
    let u = c.reason.new.self in
    let yes : IsTrue c.is_over.result = search rules in
    let constraints = ap (λ n. n.constraints) c.of-counts.ensures.is in
    let early : c.args.task < length p.model.constraints = omega arith in
    on_ok_weaker c.reason.result (λ added z ungrown given. grows_more p z c.args.tracer.now m u (c.in_ok-define_up_to.ensures z ungrown)
    (reason_grows p z m u c.args.task c.args.clause.now c.of-counts.ensures.sound ungrown given (c.is_over.ensures.0 yes) early added)) c.reason.ensures.ok

pub returns-in_default : goal.returns-in_default
returns-in_default c =
    let p = c.args.instance.now in
    let m = c.define_up_to.new.tracer in
    let u = c.objective.new.self in
    let yes : IsTrue c.is_over.result = search rules in
    let constraints = ap (λ n. n.constraints) c.of-counts.ensures.is in
    let late : length p.model.constraints ≤ c.args.task = omega arith in
    let none : sum_subject (counts_of p) c.args.task ≡ None = ap (λ n. sum_subject n c.args.task) (sym c.of-counts.ensures.is) ∙ sym c.in_default.ensures in
    on_ok_weaker c.objective.result (λ added z ungrown given. grows_more p z c.args.tracer.now m u (c.in_ok-define_up_to.ensures z ungrown)
    (objective_grows p z m u c.args.task c.args.clause.now c.of-counts.ensures.sound ungrown given (c.is_over.ensures.0 yes) none late added)) c.objective.ensures.ok

pub returns : goal.returns
returns c =
    let p = c.args.instance.now in
    let m = c.define_up_to.new.tracer in
    let u = c.ends.new.self in
    let yes : IsTrue c.is_over.result = search rules in
    let there : IsTrue c.is_subject.result = search rules in
    let at : sum_subject (counts_of p) c.args.task ≡ Some c.in-Some.subject = ap (λ n. sum_subject n c.args.task) (sym c.of-counts.ensures.is) ∙ sym c.in-Some.ensures in
    on_ok_weaker c.ends.result (λ added z ungrown given. grows_more p z c.args.tracer.now m u (c.in_ok-define_up_to.ensures z ungrown)
    (ends_grows p z m u c.args.task c.in-Some.subject c.args.clause.now c.of-counts.ensures.sound ungrown given (c.is_over.ensures.0 yes) at (c.is_subject.ensures.0 there) added)) c.ends.ensures.ok
