use Rattle.std.proofs.Common.{get_or, pos, refl, rules, arith, w64, FitsSigned}
use Rattle.std.proofs.lemmas.Int.{to_z-of_z}
use Rattle.cps_p_sequence.proofs.Numbering.{finals_begun, finals_found, finals_passed}
use Rattle.cps_p_sequence.proofs.states.mark_finals.Goals as goal

pub loop-state-init : goal.loop-state-init
loop-state-init c = finals_begun c.args.finals.now c.args.states.now c.blank.new.row.items c.in_ok-blank.ensures.size c.in_ok-blank.ensures.blank

pub index_mut-requires : goal.index_mut-requires
index_mut-requires c = let l = c.in-Some.ensures.some.inside in let size = c.loop-state.invariant.size in omega arith

pub loop-state-preserved-in-None : goal.loop-state-preserved-in-None
loop-state-preserved-in-None c =
    let n = c.loop-state.state-index in
    let x = get_or c.args.finals.now n (pos 0) in
    let fits : FitsSigned w64 x = search rules in
    let none = simp to_z-of_z at c.in-None.ensures.none in
    finals_passed c.args.finals.now c.args.states.now n c.loop-state.last.items x c.loop-state-test.true refl (none refl) c.loop-state.invariant

pub loop-state-preserved : goal.loop-state-preserved
loop-state-preserved c =
    let n = c.loop-state.state-index in
    let x = get_or c.args.finals.now n (pos 0) in
    let fits : FitsSigned w64 x = search rules in
    let number = simp to_z-of_z at c.in-Some.ensures.some in
    finals_found c.args.finals.now c.args.states.now n c.loop-state.last.items _ x c.in-Some.number c.requires c.loop-state-test.true refl number refl c.loop-state.invariant
