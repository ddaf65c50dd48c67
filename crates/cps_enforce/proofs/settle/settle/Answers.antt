-- Each pass goes on from what the passes before left, with the same body.
use Rattle.std.proofs.Common.{◌∙◌, Ok, List, length, ap, sym, subst, arith, length-append}
use Rattle.cps_instance.specs.declared.task.Body.{Body}
use Rattle.cps_instance.specs.Tasks.{HoldsTask}
use Rattle.cps_trail.specs.Trail.{Entry}
use Rattle.cps_trail.specs.Adds.{Infers}
use Rattle.cps_trail.specs.Notes.{ByTask}
use Rattle.cps_trail.proofs.Inferring.{Infers-trans}
use Rattle.cps_enforce.specs.Reasons.{task_of}
use Rattle.cps_enforce.specs.Settling.{IsTaskInForce, IsRestingBody}
use Rattle.cps_enforce.proofs.Passes.{none_added}
use Rattle.cps_enforce.proofs.Tasks.{force_later}
use Rattle.cps_enforce.proofs.settle.settle.Goals as goal

pub pass-requires : goal.pass-requires
pass-requires g c =
    let h = c.args.header.now in
    let b = g.R.Rule.body c.args.rule.now in
    let later = force_later (ByTask h.number (HoldsTask (task_of h.enforcement.now b))) c.args.store.now c.loop-store.store h.enforcement.now b c.loop-store.invariant.infers c.requires.force in
    record { force = subst (λ (x : Body). IsTaskInForce c.loop-store.store c.args.header.now.enforcement.now x) (sym c.loop-store.invariant.keeps) later }

pub returns-in-Conflict-clause-infers : goal.returns-in-Conflict-clause-infers
returns-in-Conflict-clause-infers g c =
    let h = c.args.header.now in
    let b = g.R.Rule.body c.args.rule.now in
    Infers-trans (ByTask h.number (HoldsTask (task_of h.enforcement.now b))) c.args.store.now c.loop-store.store c.pass.new.store c.loop-store.invariant.infers
    (subst (λ (x : Body). Infers (ByTask c.args.header.now.number (HoldsTask (task_of c.args.header.now.enforcement.now x))) c.loop-store.store c.pass.new.store) c.loop-store.invariant.keeps c.in_ok-pass.ensures.infers)

pub returns-then-entries-before-clause-infers : goal.returns-then-entries-before-clause-infers
returns-then-entries-before-clause-infers g c =
    let h = c.args.header.now in
    let b = g.R.Rule.body c.args.rule.now in
    Infers-trans (ByTask h.number (HoldsTask (task_of h.enforcement.now b))) c.args.store.now c.loop-store.store c.pass.new.store c.loop-store.invariant.infers
    (subst (λ (x : Body). Infers (ByTask c.args.header.now.number (HoldsTask (task_of c.args.header.now.enforcement.now x))) c.loop-store.store c.pass.new.store) c.loop-store.invariant.keeps c.in_ok-pass.ensures.infers)

pub returns-in-Conflict-clause-keeps : goal.returns-in-Conflict-clause-keeps
returns-in-Conflict-clause-keeps g c = c.in_ok-pass.ensures.keeps ∙ c.loop-store.invariant.keeps

pub returns-then-entries-before-clause-keeps : goal.returns-then-entries-before-clause-keeps
returns-then-entries-before-clause-keeps g c = c.in_ok-pass.ensures.keeps ∙ c.loop-store.invariant.keeps

pub loop-store-preserved : goal.loop-store-preserved
loop-store-preserved g c =
    let h = c.args.header.now in
    let b = g.R.Rule.body c.args.rule.now in
    record {
      keeps = c.in_ok-pass.ensures.keeps ∙ c.loop-store.invariant.keeps;
      infers = Infers-trans (ByTask h.number (HoldsTask (task_of h.enforcement.now b))) c.args.store.now c.loop-store.store c.pass.new.store c.loop-store.invariant.infers
          (subst (λ (x : Body). Infers (ByTask c.args.header.now.number (HoldsTask (task_of c.args.header.now.enforcement.now x))) c.loop-store.store c.pass.new.store) c.loop-store.invariant.keeps c.in_ok-pass.ensures.infers);
    }

pub loop-store-smaller : goal.loop-store-smaller
loop-store-smaller g c =
    let infers = c.in_ok-pass.ensures.infers in
    omega (arith, c.if-entries-before.false, c.entries-before.ensures.views.same_length, c.entries.ensures.views.same_length, infers.fewer, ap (λ (es : List Entry). length es) infers.entries, length-append c.loop-store.store.entries infers.added)

pub returns-then-entries-before-clause-rest : goal.returns-then-entries-before-clause-rest
returns-then-entries-before-clause-rest g c = λ _.
    let infers = c.in_ok-pass.ensures.infers in
    subst (λ (x : Body). IsRestingBody x c.pass.new.store) c.loop-store.invariant.keeps
    (c.in_ok-pass.ensures.rest (ap Ok c.in-NoConflict.is) (none_added c.loop-store.store.entries c.pass.new.store.entries infers.added infers.entries (omega (arith, c.if-entries-before.true, c.entries-before.ensures.views.same_length, c.entries.ensures.views.same_length))))
