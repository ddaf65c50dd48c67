use Rattle.std.specs.Prelude.{All}
use Rattle.std.proofs.Common.{◌∙◌, ◌+◌, ◌<◌, ◌^◌, ℤ, ◌≤ℤ◌, List, length, get_or, ap, sym, subst, arith, rules, FitsSigned, w64}
use Rattle.std.proofs.lemmas.Int.{to_z-of_z}
use Rattle.cps_model.specs.Solutions.{IsWithinDomains, objective_value}
use Rattle.cps_instance.specs.Terms.{Domains, terms_reach, least_of_terms}
use Rattle.cps_search.specs.LogItems.{IsUngrown}
use Rattle.cps_search.proofs.LogItems.{tasks_counted}
use Rattle.cps_search.proofs.LogStarts.{read_cut, least_objective_is}
use Rattle.cps_search.proofs.log_items.least_objective.Goals as goal

pub bounds-tasks-counts : goal.bounds-tasks-counts
bounds-tasks-counts c =
    let all = tasks_counted c.args.instance.now c.of-counts.ensures.sound in
    let same = ap (λ ts. length ts) c.tasks.ensures.list in
    let constraints = ap (λ n. n.constraints) c.of-counts.ensures.is in
    let sums = ap (λ n. n.sums) c.of-counts.ensures.is in
    omega arith

pub least_of_terms-requires-clause-subjects : goal.least_of_terms-requires-clause-subjects
least_of_terms-requires-clause-subjects c =
    let p = c.args.instance.now in
    let all = tasks_counted p c.of-counts.ensures.sound in
    let same = ap (λ ts. length ts) c.tasks.ensures.list in
    let constraints = ap (λ n. n.constraints) c.of-counts.ensures.is in
    let sums = ap (λ n. n.sums) c.of-counts.ensures.is in
    let cut = read_cut p c.tasks.result.now c.index-tasks-counts.result _ c.in-Cut.terms c.as_slice.result.now c.in-Cut._upper c.of-counts.ensures.sound c.tasks.ensures.list (omega arith) c.index-tasks-counts.is c.in-Cut.is c.as_slice.ensures in
    subst (λ n. All (λ t. t.subject < n) c.as_slice.result.now) (sym c.domains.ensures.count) cut.subjects

pub least_of_terms-requires-clause-small : goal.least_of_terms-requires-clause-small
least_of_terms-requires-clause-small c =
    let p = c.args.instance.now in
    let all = tasks_counted p c.of-counts.ensures.sound in
    let same = ap (λ ts. length ts) c.tasks.ensures.list in
    let constraints = ap (λ n. n.constraints) c.of-counts.ensures.is in
    let sums = ap (λ n. n.sums) c.of-counts.ensures.is in
    let cut = read_cut p c.tasks.result.now c.index-tasks-counts.result _ c.in-Cut.terms c.as_slice.result.now c.in-Cut._upper c.of-counts.ensures.sound c.tasks.ensures.list (omega arith) c.index-tasks-counts.is c.in-Cut.is c.as_slice.ensures in
    subst (λ (ds : Domains). terms_reach ds c.as_slice.result.now < 2 ^ 62) (sym c.domains.ensures.list) cut.small

pub returns : goal.returns
returns c =
    let p = c.args.instance.now in
    let r = c.index-tasks-counts.result in
    let least = c.least_of_terms.result in
    let fits : FitsSigned w64 least = search rules in
    let constraints = ap (λ n. n.constraints) c.of-counts.ensures.is in
    let sums = ap (λ n. n.sums) c.of-counts.ensures.is in
    let here = c.index-tasks-counts.is ∙ ap (λ ts. get_or ts (c.of-counts.result.constraints + c.of-counts.result.sums + 1) r) c.tasks.ensures.list ∙ ap (λ n. get_or p.tasks (n.constraints + n.sums + 1) r) c.of-counts.ensures.is in
    let is = c.least_of_terms.ensures ∙ ap (λ (ds : Domains). least_of_terms ds c.as_slice.result.now) c.domains.ensures.list ∙ ap (λ ts. least_of_terms p.domains ts) c.as_slice.ensures in
    subst (λ (v : ℤ). IsUngrown p → (a : List ℤ) → IsWithinDomains p.model a → v ≤ℤ objective_value p.model a) (sym (to_z-of_z w64 least fits))
    (least_objective_is p r r c.in-Cut.terms c.in-Cut._upper least c.of-counts.ensures.sound here c.in-Cut.is is)
