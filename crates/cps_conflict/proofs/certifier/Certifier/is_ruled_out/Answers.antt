-- One known entry on the way back rules the atom out.
use Rattle.std.proofs.Common.{◌-◌, ◌<◌, length, get_or, arith}
use Rattle.cps_literal.specs.declared.atom.Atom.{Atom}
use Rattle.cps_trail.proofs.Walks.{step_back}
use Rattle.cps_conflict.proofs.Uniting.{none_view, read, inside}
use Rattle.cps_conflict.proofs.Certifying.{marked_by, refuted_by_known}
use Rattle.cps_conflict.proofs.certifier.Certifier.is_ruled_out.Goals as goal

pub rules_out-requires : goal.rules_out-requires
rules_out-requires c = inside c.args.store.now.entries c.entries-entries.result.now (c.loop-count.count - 1) c.entries-entries.ensures.sound.inside c.entries-entries.ensures.views (omega (arith, c.loop-count.invariant.within, c.loop-count-test.true))

pub returns-then-rules_out : goal.returns-then-rules_out
returns-then-rules_out c = λ yes.
    let s = c.args.store.now in
    let known = c.args.self.now.known.items in
    let place = c.loop-count.count - 1 in
    let l : place < length s.entries = omega (arith, c.loop-count.invariant.within, c.loop-count-test.true) in
    let e : Atom = (get_or c.entries-entries.result.now place none_view).atom in
    refuted_by_known s c.args.self.now.clause.items known c.args.atom e place l (read s.entries c.entries-entries.result.now place c.entries-entries.ensures.views l) (marked_by known place c.index.result.now (omega (arith, l, c.requires.size)) c.index.ensures c.if-index.true)
    (c.rules_out.ensures.0 c.if-rules_out.true)

pub loop-count-smaller : goal.loop-count-smaller
loop-count-smaller c =
    (step_back c.args.store.now.entries c.args.atom.subject c.loop-count.count c.last_before-count.result (omega (arith, c.loop-count-test.true)) c.loop-count.invariant.within c.loop-count.invariant.here c.last_before-count.ensures).lower

pub loop-count-preserved : goal.loop-count-preserved
loop-count-preserved c =
    let step = step_back c.args.store.now.entries c.args.atom.subject c.loop-count.count c.last_before-count.result (omega (arith, c.loop-count-test.true)) c.loop-count.invariant.within c.loop-count.invariant.here c.last_before-count.ensures in
    record { within = step.within; here = step.here }
