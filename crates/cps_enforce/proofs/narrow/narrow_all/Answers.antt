-- Each narrowing is made in the store that those before it left.
use Rattle.std.specs.Prelude.{All}
use Rattle.std.proofs.Common.{List, Ok, ap, get_or, pos, subst}
use Rattle.std.proofs.lemmas.List.{take_all}
use Rattle.cps_instance.specs.Tasks.{HoldsTask}
use Rattle.cps_trail.specs.Trail.{IsTrueNow}
use Rattle.cps_trail.specs.Notes.{ByTask}
use Rattle.cps_trail.proofs.Inferring.{Infers-trans}
use Rattle.cps_rule.specs.declared.rule.Narrowing.{Narrowing}
use Rattle.cps_enforce.specs.Reasons.{task_of}
use Rattle.cps_enforce.proofs.Tasks.{no_atom, force_later, given_later}
use Rattle.cps_enforce.proofs.Passes.{Narrows-more}
use Rattle.cps_enforce.proofs.narrow.narrow_all.Goals as goal

abbrev no_narrowing : Narrowing
no_narrowing = record { target = no_atom; hint = record { a = pos 0; b = pos 0 } }

pub narrow-requires-clause-force : goal.narrow-requires-clause-force
narrow-requires-clause-force g c =
    let h = c.args.header.now in
    let b = g.R.Rule.body c.args.rule.now in
    force_later (ByTask h.number (HoldsTask (task_of h.enforcement.now b))) c.args.store.now c.loop-narrowing.store h.enforcement.now b c.loop-narrowing.invariant.infers c.requires.force

pub narrow-requires-clause-given : goal.narrow-requires-clause-given
narrow-requires-clause-given g c =
    let h = c.args.header.now in
    let b = g.R.Rule.body c.args.rule.now in
    let i = c.loop-narrowing.narrowing-index in
    given_later (ByTask h.number (HoldsTask (task_of h.enforcement.now b))) c.args.store.now c.loop-narrowing.store b (get_or c.args.found.now i no_narrowing).target c.loop-narrowing.invariant.infers
    (c.requires.given i no_narrowing c.loop-narrowing-test.true)

pub returns-in-Conflict-clause-infers : goal.returns-in-Conflict-clause-infers
returns-in-Conflict-clause-infers g c =
    let h = c.args.header.now in
    let b = g.R.Rule.body c.args.rule.now in
    Infers-trans (ByTask h.number (HoldsTask (task_of h.enforcement.now b))) c.args.store.now c.loop-narrowing.store c.narrow.new.store c.loop-narrowing.invariant.infers c.in_ok-narrow.ensures.infers

pub loop-narrowing-preserved : goal.loop-narrowing-preserved
loop-narrowing-preserved g c =
    let h = c.args.header.now in
    let b = g.R.Rule.body c.args.rule.now in
    Narrows-more h.number h.enforcement.now b c.args.store.now c.loop-narrowing.store c.narrow.new.store c.args.found.now c.loop-narrowing.narrowing-index no_narrowing c.loop-narrowing-test.true
    c.loop-narrowing.invariant c.in_ok-narrow.ensures.infers (c.in_ok-narrow.ensures.made (ap Ok c.in-NoConflict.is))

pub returns-clause-made : goal.returns-clause-made
returns-clause-made g c = λ _. subst (λ (l : List Narrowing). All (λ (n : Narrowing). IsTrueNow c.loop-narrowing.store n.target) l) (take_all c.loop-narrowing.narrowing-index c.args.found.now c.loop-narrowing-test.false) c.loop-narrowing.invariant.made
