-- The place is tested against both lists, and the whole list fills the window.
use Rattle.std.proofs.Common.{rules, arith, FitsSigned}
use Rattle.std.proofs.lemmas.Int.{to_z-of_z}
use mir.Syntax.{w64}
use Rattle.cps_p_nooverlap.proofs.Crowding.{crowd_of_marks}
use Rattle.cps_p_nooverlap.proofs.edge_finding.part_of.Goals as goal

pub returns-then-is_overfull : goal.returns-then-is_overfull
returns-then-is_overfull c =
    let f : FitsSigned w64 c.args.crowd.from = search rules in
    let g : FitsSigned w64 c.args.crowd.to = search rules in
    let full = rw (to_z-of_z w64 c.args.crowd.to g) at (rw (to_z-of_z w64 c.args.crowd.from f) at (c.is_overfull.ensures c.if-is_overfull.true)) in
    crowd_of_marks c.args.spans c.args.marks.now.whole.items c.args.marks.now.part.items c.as_slice-whole.result.now c.as_slice-part.result.now c.args.crowd c.in_ok-all.all c.in_ok-late.late c.as_slice-whole.ensures.value c.as_slice-part.ensures.value
    (omega (arith, c.if-crowd-spans.false)) c.if-whole-spans.false c.in_ok-late.ensures c.if-whole-crowd-ne0.false c.if-part-crowd-ne0.false (omega (arith, c.if-crowd-eq0.false)) c.in_ok-all.ensures full
