use Rattle.std.specs.Prelude.{IsTrue}
use Rattle.std.proofs.Common.{◌∙◌, ◌+◌, length, get_or, ap, arith, rules}
use Rattle.cps_search.proofs.LogItems.{tasks_counted}
use Rattle.cps_search.proofs.LogGrowth.{sum_grows}
use Rattle.cps_search.proofs.log_items.define_next.Goals as goal

pub bounds-tasks-counts : goal.bounds-tasks-counts
bounds-tasks-counts c =
    let all = tasks_counted c.args.instance.now c.of-counts.ensures.sound in
    let same = ap (λ ts. length ts) c.tasks.ensures.list in
    let constraints = ap (λ n. n.constraints) c.of-counts.ensures.is in
    let sums = ap (λ n. n.sums) c.of-counts.ensures.is in
    let place = c.if-place-counts.false in
    omega arith

pub returns : goal.returns
returns c = λ z ungrown.
    let p = c.args.instance.now in
    let k = c.args.sums.now in
    let r = c.index-tasks-counts.result in
    let variables = ap (λ n. n.variables) c.of-counts.ensures.is in
    let constraints = ap (λ n. n.constraints) c.of-counts.ensures.is in
    let sums = ap (λ n. n.sums) c.of-counts.ensures.is in
    let place = c.if-place-counts.false in
    let yes : IsTrue c.is_next_subject.result = search rules in
    let next = c.is_next_subject.ensures yes in
    let here = c.index-tasks-counts.is ∙ ap (λ ts. get_or ts (c.of-counts.result.constraints + k) r) c.tasks.ensures.list ∙ ap (λ i. get_or p.tasks (i + k) r) constraints in
    sum_grows p z c.args.tracer.now c.define.new.self k r.body r c.in_ok-sum.sum c.of-counts.ensures.sound ungrown (omega arith) (omega arith) (ap (λ t. t.body) here) c.in_ok-sum.ensures c.in_ok-define.ensures.ok
