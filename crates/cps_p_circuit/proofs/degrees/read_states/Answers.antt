use Rattle.std.proofs.Common.{◌<◌, length, arith}
use Rattle.cps_p_circuit.proofs.TakenArcs.{subject_holds}
use Rattle.cps_p_circuit.proofs.Counting.{state_of, states_more, one_longer}
use Rattle.cps_p_circuit.proofs.degrees.read_states.Goals as goal

pub truth-state-requires : goal.truth-state-requires
truth-state-requires c = subject_holds (λ i. i < length c.args.store.now.first) c.args.literals.now c.loop-literal.literal-index _ (omega arith) c.requires

pub loop-literal-preserved : goal.loop-literal-preserved
loop-literal-preserved c =
    let s = c.args.store.now in
    let inside = subject_holds (λ i. i < length s.first) c.args.literals.now c.loop-literal.literal-index _ (omega arith) c.requires in
    record {
      len = one_longer _ _ _ _ c.in_ok-push.ensures.items c.loop-literal.invariant.len;
      at = states_more s c.args.literals.now c.loop-literal.literal-index _ c.loop-literal.states.items _ c.truth-state.result (omega arith) c.loop-literal.invariant.len c.in_ok-push.ensures.items
          (state_of s _ c.truth-state.result c.truth-state.ensures.yes c.truth-state.ensures.no (c.entries.ensures.sound.some_value _ inside)) c.loop-literal.invariant.at;
    }
