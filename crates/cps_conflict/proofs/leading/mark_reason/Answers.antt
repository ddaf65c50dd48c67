-- One atom of the reason after another.
use Rattle.std.proofs.Common.{take, get_or, sym, subst, List, arith}
use Rattle.std.proofs.lemmas.List.{take_all, take_more}
use Rattle.cps_literal.specs.declared.atom.Atom.{Atom}
use Rattle.cps_conflict.specs.Leading.{MarksReason}
use Rattle.cps_conflict.proofs.Uniting.{none}
use Rattle.cps_conflict.proofs.Walking.{Reason-none, Reason-more}
use Rattle.cps_conflict.proofs.leading.mark_reason.Goals as goal

pub loop-atom-init : goal.loop-atom-init
loop-atom-init c = Reason-none c.args.store.now c.args.implied c.args.marks.now

pub loop-atom-preserved : goal.loop-atom-preserved
loop-atom-preserved c =
    subst (λ (us : List Atom). MarksReason c.args.store.now us c.args.implied c.args.marks.now c.mark_unless.new.marks) (sym (take_more c.args.reason.now c.loop-atom.atom-index none c.loop-atom-test.true))
    (Reason-more c.args.store.now (take c.loop-atom.atom-index c.args.reason.now) (get_or c.args.reason.now c.loop-atom.atom-index none) c.args.implied c.args.marks.now c.loop-atom.marks c.mark_unless.new.marks c.loop-atom.invariant c.mark_unless.ensures)

pub returns : goal.returns
returns c =
    subst (λ (us : List Atom). MarksReason c.args.store.now us c.args.implied c.args.marks.now c.loop-atom.marks) (take_all c.loop-atom.atom-index c.args.reason.now (omega arith)) c.loop-atom.invariant
