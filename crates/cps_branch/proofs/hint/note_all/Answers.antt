use Rattle.std.proofs.Common.{rules, ◌-◌, get_or, pos, FitsSigned, w32, w64, sym, ◌∙◌, arith}
use Rattle.std.proofs.lemmas.Int.{to_z-of_z}
use Rattle.cps_branch.proofs.HintValues.{noted_none, noted_more}
use Rattle.cps_branch.proofs.hint.note_all.Goals as goal

pub loop-place-init : goal.loop-place-init
loop-place-init c = record {
  vars = omega arith;
  values = omega arith;
  same_length = omega arith;
  noted = λ i l. (c.requires i l ∙ sym (noted_none c.args.vars.now c.args.values.now c.min-place.result i (omega arith)));
}

pub loop-place-preserved : goal.loop-place-preserved
loop-place-preserved c =
    let rs = c.args.vars.now in
    let ws = c.args.values.now in
    let m = c.loop-place.place in
    let k = m - 1 in
    let r = get_or rs k (pos 0) in
    let w = get_or ws k (pos 0) in
    let fr : FitsSigned w32 r = search rules in
    let fw : FitsSigned w64 w = search rules in
    let said = simp to_z-of_z at c.note_one.ensures in
    let vars = c.loop-place.invariant.vars in
    let values = c.loop-place.invariant.values in
    let same = c.loop-place.invariant.same_length in
    record {
      vars = omega arith;
      values = omega arith;
      same_length = omega arith;
      noted = λ i l. noted_more rs ws k m i _ _ (omega arith) (omega arith) (omega arith) (said i (omega arith)) (c.loop-place.invariant.noted i (omega arith));
    }
