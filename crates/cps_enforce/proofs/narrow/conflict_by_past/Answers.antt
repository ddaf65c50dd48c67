-- What was narrowed before of what the task reads excludes the body.
use Rattle.std.specs.Prelude.{All}
use Rattle.std.proofs.Common.{◌≡◌, ◌∙◌, ◌<◌, ◌++◌, ℕ, List, [], length, ap, sym, subst, arith}
use Rattle.cps_instance.specs.Tasks.{subjects_of}
use Rattle.cps_propagate.proofs.Past.{DeniesPast-same}
use Rattle.cps_enforce.specs.Reasons.{task_of}
use Rattle.cps_enforce.proofs.Denials.{on_ok}
use Rattle.cps_enforce.proofs.Past.{past_conflict}
use Rattle.cps_enforce.proofs.narrow.conflict_by_past.Goals as goal

pub deny_all-requires-clause-place : goal.deny_all-requires-clause-place
deny_all-requires-clause-place g c = omega (arith, c.entries-place.ensures.views.same_length)

pub deny_all-requires-clause-subjects : goal.deny_all-requires-clause-subjects
deny_all-requires-clause-subjects g c =
    let t = task_of c.args.enforcement.now (g.R.Rule.body c.args.rule.now) in
    let read : c.as_slice.result.now ≡ subjects_of t = c.as_slice.ensures.value ∙ c.in_ok-push_all_subjects.ensures ∙ ap (λ (l : List ℕ). l ++ subjects_of t) c.clear.ensures.items in
    subst (λ (is : List ℕ). All (λ i. i < length c.args.store.now.first) is) (sym read) c.requires.force.fits.subjects

pub returns : goal.returns
returns g c =
    let b = g.R.Rule.body c.args.rule.now in
    let t = task_of c.args.enforcement.now b in
    let read : c.as_slice.result.now ≡ subjects_of t = c.as_slice.ensures.value ∙ c.in_ok-push_all_subjects.ensures ∙ ap (λ (l : List ℕ). l ++ subjects_of t) c.clear.ensures.items in
    let n = length c.entries-place.result.now in
    on_ok c.deny_all.result _ _ c.deny_all.ensures (λ denied.
    past_conflict c.args.store.now c.args.enforcement.now b n c.deny_all.new.reason.items c.entries-place.ensures.sound (omega (arith, c.entries-place.ensures.views.same_length))
    (DeniesPast-same c.args.store.now n c.as_slice.result.now (subjects_of t) [] c.deny_all.new.reason.items read denied) c.requires.force c.requires.impossible)
