use Rattle.std.proofs.Common.{◌≡◌, true, false, sym, ◌∙◌}
use Rattle.cps_p_sequence.proofs.Cutting.{off_more, off_whole}
use Rattle.cps_p_sequence.proofs.cuts.is_cut_off.Goals as goal
use Rattle.cps_p_sequence.proofs.cuts.is_cut_off.Goals.{else-is_reached-via-then-is_reached+else-last-state, else-is_reached-via-else-is_reached}

pub loop-state-preserved : goal.loop-state-preserved
loop-state-preserved c = off_more c.args.row.now c.args.last.now c.loop-state.state c.loop-state.invariant (elim c.else-is_reached.branch [
  | else-is_reached-via-then-is_reached+else-last-state w ↦ (λ a b. (let e : false ≡ true = sym w.if-last-state.false ∙ b in cc e))
  | else-is_reached-via-else-is_reached w ↦ (λ a b. (let e : false ≡ true = sym w.if-is_reached.false ∙ a in cc e))
])

pub returns : goal.returns
returns c e = off_whole c.args.row.now c.args.last.now c.loop-state.state c.loop-state-test.false c.loop-state.invariant
