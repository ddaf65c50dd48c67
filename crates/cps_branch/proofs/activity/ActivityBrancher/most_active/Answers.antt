use Rattle.std.proofs.Common.{length, subst}
use Rattle.cps_branch.specs.Activities.{ByActivity}
use Rattle.cps_branch.specs.SetAside.{AreFixedAside, aside_of}
use Rattle.cps_branch.proofs.SetAside.{back_fixed, choice_more, chosen_most, chosen_none, chosen_seen}
use Rattle.cps_branch.proofs.activity.ActivityBrancher.most_active.Goals as goal

pub most_active-requires-clause-fixed : goal.most_active-requires-clause-fixed
most_active-requires-clause-fixed c =
    let i = c.self.inside in
    let v = c.self.invariant in
    let e = c.put_back.ensures in
    back_fixed i.activities.items i.restarts i.hints.items i.ranking c.put_back.new.self c.put_back.new.self c.args.self.now c.args.store.now c.args.kept c.self.view_is v.6 v.7 c.requires.kept e.back e.count e.same e.ranking

pub returns-clause-choice : goal.returns-clause-choice
returns-clause-choice c =
    let i = c.self.inside in
    let v = c.self.invariant in
    let e = c.put_back.ensures in
    let mid = c.put_back.new.self in
    let new = c.most_active.new.self in
    choice_more c.most_active.result _ _ _ _
    (chosen_none i.activities.items i.restarts i.hints.items i.ranking mid new c.args.self.now c.args.store.now c.args.kept c.self.view_is v.6 v.7 c.requires.kept e.back e.count e.same e.ranking)
    (chosen_most i.activities.items i.restarts i.hints.items i.ranking mid new c.args.self.now c.args.store.now c.args.kept c.self.view_is v.6 v.7 c.requires.kept e.back e.count e.same e.ranking)
    c.most_active.ensures.choice

pub returns-clause-saw : goal.returns-clause-saw
returns-clause-saw c =
    let i = c.self.inside in
    let v = c.self.invariant in
    let e = c.put_back.ensures in
    let mid = c.put_back.new.self in
    let new = c.most_active.new.self in
    subst (λ (x : ByActivity). AreFixedAside (length x.activities) (aside_of new) c.args.store.now (length c.args.store.now.entries)) c.self.view_is
    (chosen_seen i.activities.items i.restarts i.hints.items i.ranking mid new c.args.self.now c.args.store.now c.args.kept c.self.view_is v.6 v.7 c.requires.kept e.back e.count e.same e.ranking c.most_active.ensures.sets)
