-- The arcs so far are those of them that are taken.
use Rattle.std.proofs.Common.{arith, rules, sym, ◌∙◌, add-one, FitsSigned, w32}
use Rattle.std.proofs.lemmas.Int.{to_z-of_z}
use Rattle.cps_p_circuit.proofs.TakenArcs.{none_taken, arcs_pushed, arcs_same, arcs_end}
use Rattle.cps_p_circuit.proofs.decided.taken_arcs.Goals as goal

pub loop-k-init : goal.loop-k-init
loop-k-init c = c.new-arcs.ensures.items ∙ sym (none_taken c.args.graph.now.nodes.items c.args.graph.now.from.items c.args.graph.now.to.items)

pub loop-k-preserved-then-not-taken-k : goal.loop-k-preserved-then-not-taken-k
loop-k-preserved-then-not-taken-k c = c.loop-k.invariant ∙ rw add-one (sym (arcs_same c.args.graph.now.nodes.items c.args.graph.now.from.items c.args.graph.now.to.items c.args.taken.now c.loop-k.k (omega (arith, c.arcs.ensures, c.min-count.ensures)) (omega (arith, c.arcs.ensures, c.min-count.ensures)) (omega (arith, c.arcs.ensures, c.min-count.ensures)) c.if-not-taken-k.true))

pub loop-k-preserved : goal.loop-k-preserved
loop-k-preserved c =
    let ft : FitsSigned w32 c.number-tail.result = search rules in
    let fh : FitsSigned w32 c.number-head.result = search rules in
    arcs_pushed c.args.graph.now.nodes.items c.args.graph.now.from.items c.args.graph.now.to.items c.args.taken.now c.loop-k.k _ _ _ _ c.tail.result c.head.result
    (omega (arith, c.arcs.ensures, c.min-count.ensures)) (omega (arith, c.arcs.ensures, c.min-count.ensures)) (omega (arith, c.arcs.ensures, c.min-count.ensures)) c.if-not-taken-k.false
    c.tail.ensures.is c.head.ensures.is (to_z-of_z w32 c.number-tail.result ft ∙ c.number-tail.ensures) (to_z-of_z w32 c.number-head.result fh ∙ c.number-head.ensures) c.in_ok-push.ensures.items c.loop-k.invariant

pub returns : goal.returns
returns c = c.loop-k.invariant ∙ arcs_end c.args.graph.now.nodes.items c.args.graph.now.from.items c.args.graph.now.to.items c.args.taken.now c.loop-k.k (omega (arith, c.arcs.ensures, c.min-count.ensures, c.loop-k-test.false))
