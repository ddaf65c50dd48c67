use Rattle.std.proofs.Common.{◌∙◌, ◌<◌, ◌≤◌, length, subst, arith}
use Rattle.cps_p_circuit.specs.declared.degrees.Degree.{Degree}
use Rattle.cps_p_circuit.specs.Counts.{IsLastOpen, nothing, degree_at}
use Rattle.cps_p_circuit.proofs.Counting.{any_default}
use Rattle.cps_p_circuit.proofs.ArcsAtNodes.{last_short, last_more, last_out_given, last_into_given, give_arc}
use Rattle.cps_p_circuit.proofs.degrees.Degrees.require.Goals as goal

pub add_arc-requires : goal.add_arc-requires
add_arc-requires c =
    let d = c.args.self.now in
    let same = c.requires.states in
    let last : IsLastOpen (degree_at d.out.items c.loop-v.v) c.last_open-out.result = subst (λ (g : Degree). IsLastOpen g c.last_open-out.result) (c.index.ensures ∙ any_default d.out.items c.loop-v.v _ nothing (let r = c.requires.counted.out.room in omega arith)) c.last_open-out.ensures in
    let short = last_short c.args.graph.now.from.items d.states.items (length c.args.graph.now.nodes.items) (length d.states.items) c.loop-v.v c.last_open-out.result d.out.items c.requires.counted.out (omega arith) last in
    omega arith

pub add_arc-requires-in-loop-v : goal.add_arc-requires-in-loop-v
add_arc-requires-in-loop-v c =
    let d = c.args.self.now in
    let same = c.requires.states in
    let last : IsLastOpen (degree_at d.into.items c.loop-v.v) c.last_open-into.result = subst (λ (g : Degree). IsLastOpen g c.last_open-into.result) (c.index-in-loop-v.ensures ∙ any_default d.into.items c.loop-v.v _ nothing (let r = c.requires.counted.into.room in omega arith)) c.last_open-into.ensures in
    let short = last_short c.args.graph.now.to.items d.states.items (length c.args.graph.now.nodes.items) (length d.states.items) c.loop-v.v c.last_open-into.result d.into.items c.requires.counted.into (omega arith) last in
    omega arith

pub loop-v-preserved : goal.loop-v-preserved
loop-v-preserved c =
    let g = c.args.graph.now in
    let ls = c.args.literals.now in
    let d = c.args.self.now in
    let v = c.loop-v.v in
    let same = c.requires.states in
    let l : v < length g.nodes.items = omega arith in
    let p = c.last_open-out.result in
    let q = c.last_open-into.result in
    let lp : IsLastOpen (degree_at d.out.items v) p = subst (λ (h : Degree). IsLastOpen h p) (c.index.ensures ∙ any_default d.out.items v _ nothing (let r = c.requires.counted.out.room in omega arith)) c.last_open-out.ensures in
    let lq : IsLastOpen (degree_at d.into.items v) q = subst (λ (h : Degree). IsLastOpen h q) (c.index-in-loop-v.ensures ∙ any_default d.into.items v _ nothing (let r = c.requires.counted.into.room in omega arith)) c.last_open-into.ensures in
    let sp = last_short g.from.items d.states.items (length g.nodes.items) (length d.states.items) v p d.out.items c.requires.counted.out l lp in
    let sq = last_short g.to.items d.states.items (length g.nodes.items) (length d.states.items) v q d.into.items c.requires.counted.into l lq in
    record {
      given = give_arc g ls d.states.items q c.args.found.now.items c.add_arc.new.found.items _ c.in_ok-add_arc-2.ensures
          (λ s known inside k e is. last_into_given g ls c.requires.tails c.requires.heads s d known inside c.requires.counted v k e l (omega arith) (lq.is k is))
          (give_arc g ls d.states.items p c.args.found.now.items c.loop-v.found.items c.add_arc.new.found.items c.in_ok-add_arc.ensures
          (λ s known inside k e is. last_out_given g ls c.requires.tails c.requires.heads s d known inside c.requires.counted v k e l (omega arith) (lp.is k is))
          c.loop-v.invariant.given);
      rests = last_more ls d v p q c.args.found.now.items c.loop-v.found.items c.add_arc.new.found.items _ lp lq c.in_ok-add_arc.ensures c.in_ok-add_arc-2.ensures c.loop-v.invariant.rests;
    }
