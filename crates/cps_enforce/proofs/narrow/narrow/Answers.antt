use Rattle.std.proofs.Common.{sym, subst}
use Rattle.cps_instance.specs.Tasks.{HoldsTask}
use Rattle.cps_trail.specs.Trail.{Trail, IsFalseNow}
use Rattle.cps_trail.specs.Notes.{ByTask}
use Rattle.cps_trail.proofs.Inferring.{Infers-same}
use Rattle.cps_trail.proofs.Storing.{kept_by_wiped, not_wiped}
use Rattle.cps_propagate.proofs.Noting.{Infers-noted}
use Rattle.cps_rule.specs.Rules.{IsGiven}
use Rattle.cps_enforce.specs.Reasons.{task_of}
use Rattle.cps_enforce.specs.Settling.{IsTaskInForce}
use Rattle.cps_enforce.proofs.Tasks.{forced_given}
use Rattle.cps_enforce.proofs.narrow.narrow.Goals as goal

pub returns-in-Narrowed-clause-infers : goal.returns-in-Narrowed-clause-infers
returns-in-Narrowed-clause-infers g c =
    let h = c.args.header.now in
    let b = g.R.Rule.body c.args.rule.now in
    Infers-noted h.number (HoldsTask (task_of h.enforcement.now b)) c.args.store.now c.imply_later.new.self c.args.narrowing.now.target _ _ c.in_ok-imply_later.ensures.noted
    (forced_given c.args.store.now h.enforcement.now b c.args.narrowing.now.target c.requires.force c.requires.given)

pub returns-in-Narrowed-clause-made : goal.returns-in-Narrowed-clause-made
returns-in-Narrowed-clause-made g c = λ _. c.in_ok-imply_later.ensures.true_now (not_wiped _ c.in-Narrowed.is)

pub contradict-requires-clause-force : goal.contradict-requires-clause-force
contradict-requires-clause-force g c =
    subst (λ (s : Trail). IsTaskInForce s c.args.header.now.enforcement.now (g.R.Rule.body c.args.rule.now)) (sym (kept_by_wiped _ _ _ c.in_ok-imply_later.ensures.kept c.in-Wiped.is)) c.requires.force

pub contradict-requires-clause-given : goal.contradict-requires-clause-given
contradict-requires-clause-given g c =
    subst (λ (s : Trail). IsGiven (g.R.Rule.body c.args.rule.now) s c.args.narrowing.now.target) (sym (kept_by_wiped _ _ _ c.in_ok-imply_later.ensures.kept c.in-Wiped.is)) c.requires.given

pub contradict-requires-clause-false_now : goal.contradict-requires-clause-false_now
contradict-requires-clause-false_now g c =
    subst (λ (s : Trail). IsFalseNow s c.args.narrowing.now.target) (sym (kept_by_wiped _ _ _ c.in_ok-imply_later.ensures.kept c.in-Wiped.is)) (c.in_ok-imply_later.ensures.wiped.0 c.in-Wiped.is)

pub returns-clause-infers : goal.returns-clause-infers
returns-clause-infers g c =
    Infers-same (ByTask c.args.header.now.number (HoldsTask (task_of c.args.header.now.enforcement.now (g.R.Rule.body c.args.rule.now)))) c.args.store.now c.imply_later.new.self (kept_by_wiped _ _ _ c.in_ok-imply_later.ensures.kept c.in-Wiped.is)
