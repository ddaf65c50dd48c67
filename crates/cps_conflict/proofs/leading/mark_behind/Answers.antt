use Rattle.std.proofs.Common.{arith, true≢false, sym, ◌∙◌}
use Rattle.cps_conflict.proofs.Walking.{behind-single, behind-about, single-false, about-false}
use Rattle.cps_conflict.proofs.leading.mark_behind.Goals as goal

pub returns-then-is_ruled_out-clause-marks : goal.returns-then-is_ruled_out-clause-marks
returns-then-is_ruled_out-clause-marks c =
    behind-single c.args.store.now c.args.atom c.falsified-count.result c.args.marks.now c.mark.new.marks c.falsified-count.ensures (c.is_ruled_out.ensures.0 c.if-is_ruled_out.true) c.mark.ensures.same_length c.mark.ensures.here c.mark.ensures.others

pub returns-then-is_ruled_out-clause-falls : goal.returns-then-is_ruled_out-clause-falls
returns-then-is_ruled_out-clause-falls c =
    single-false c.args.store.now c.args.atom c.falsified-count.result c.mark.new.marks c.falsified-count.ensures (c.is_ruled_out.ensures.0 c.if-is_ruled_out.true)
    (omega (arith, c.falsified-count.ensures.within, c.mark.ensures.same_length, c.requires.marks)) c.mark.ensures.here

pub returns-clause-marks : goal.returns-clause-marks
returns-clause-marks c =
    behind-about c.args.store.now c.args.atom c.falsified-count.result c.args.marks.now c.mark_about.new.marks c.falsified-count.ensures (λ out. true≢false (sym (c.is_ruled_out.ensures.1 out) ∙ c.if-is_ruled_out.false)) c.mark_about.ensures

pub returns-clause-falls : goal.returns-clause-falls
returns-clause-falls c = about-false c.args.store.now c.args.atom c.falsified-count.result c.args.marks.now c.mark_about.new.marks c.falsified-count.ensures c.mark_about.ensures
