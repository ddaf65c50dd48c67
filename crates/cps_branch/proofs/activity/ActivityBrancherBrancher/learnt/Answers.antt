-- The ranking follows the activities that the clause bumped, and nothing else changes but the pace.
use Rattle.std.proofs.Common.{◌≡◌, length, ap, ◌∙◌, arith, List, ℕ}
use Rattle.cps_branch.proofs.Lists.{refilled}
use Rattle.cps_branch.proofs.Parts.{gained_for, heard, heard_parts, saw_still}
use Rattle.cps_branch.proofs.activity.ActivityBrancherBrancher.learnt.Goals as goal

pub follow-requires-clause-others : goal.follow-requires-clause-others
follow-requires-clause-others c =
    let i = c.self.inside in
    let v = c.self.invariant in
    let news = c.bump_all-halved.new.activities in
    let same : length news ≡ length i.activities.items = omega arith in
    gained_for c.args.clause.now i.ranking i.activities.items c.deref_mut.result.now news c.deref.result.now c.bump_all-halved.result v.6 v.7 c.deref_mut.ensures.value c.bump_all-halved.ensures.gained
    (c.deref.ensures.value ∙ refilled i.activities.len i.activities.items news i.activities.ok.0 same)

pub invariant_of-self : goal.invariant_of-self
invariant_of-self c =
    let i = c.self.inside in
    let news = c.bump_all-halved.new.activities in
    let marks = c.bump_all-halved.new.marks in
    let same : length news ≡ length i.activities.items = omega arith in
    let same_marks : length marks ≡ length i.marks.items = omega arith in
    let is = refilled i.activities.len i.activities.items news i.activities.ok.0 same in
    let e = c.follow.ensures in
    heard_parts i.activities.items news c.deref.result.now _ i.marks.items marks _ i.hints.items i.ranking c.follow.new.self c.self.invariant same same_marks c.bump_all-halved.ensures.small c.bump_all-halved.ensures.unmarked e.ranking e.aside e.activities
    (c.deref.ensures.value ∙ is) is (refilled i.marks.len i.marks.items marks i.marks.ok.0 same_marks)

pub returns-clause-heard : goal.returns-clause-heard
returns-clause-heard c =
    let i = c.self.inside in
    let news = c.bump_all-halved.new.activities in
    let same : length news ≡ length i.activities.items = omega arith in
    heard i.activities.items i.restarts i.hints.items i.ranking c.args.self.now c.self.view_is c.args.clause.now c.deref_mut.result.now news _ c.conflict.new.self c.conflict.result c.deref_mut.ensures.value
    (refilled i.activities.len i.activities.items news i.activities.ok.0 same) c.bump_all-halved.ensures.bumped c.conflict.ensures

pub returns-clause-saw : goal.returns-clause-saw
returns-clause-saw c =
    let i = c.self.inside in
    let news = c.bump_all-halved.new.activities in
    let same : length news ≡ length i.activities.items = omega arith in
    saw_still i.activities.items i.restarts i.hints.items i.ranking c.args.self.now c.self.view_is _ c.follow.new.self
    (ap (λ (xs : List ℕ). length xs) (refilled i.activities.len i.activities.items news i.activities.ok.0 same) ∙ same) c.follow.ensures.aside
