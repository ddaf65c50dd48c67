-- The ends of selected arcs are nodes.
use Rattle.std.specs.Prelude.{◌++◌}
use Rattle.std.proofs.Common.{◌≡◌, ◌∙◌}
use Rattle.cps_eval.proofs.Counting.{selected_leave, selected_enter}
use Rattle.cps_eval.proofs.circuits.have_circuit.Goals as goal

pub is_circuit-requires-clause-tails : goal.is_circuit-requires-clause-tails
is_circuit-requires-clause-tails c =
    let ts = c.args.tails.now in
    let hs = c.args.heads.now in
    let nodes : c.as_slice.result.now ≡ ts ++ hs = c.as_slice.ensures.value ∙ c.in_ok-nodes.ensures in
    let arcs = c.as_slice-2.ensures.value ∙ c.in_ok-arcs.ensures in
    rw (nodes, arcs) (selected_leave c.args.values.now ts hs c.args.literals.now)

pub is_circuit-requires-clause-heads : goal.is_circuit-requires-clause-heads
is_circuit-requires-clause-heads c =
    let ts = c.args.tails.now in
    let hs = c.args.heads.now in
    let nodes : c.as_slice.result.now ≡ ts ++ hs = c.as_slice.ensures.value ∙ c.in_ok-nodes.ensures in
    let arcs = c.as_slice-2.ensures.value ∙ c.in_ok-arcs.ensures in
    rw (nodes, arcs) (selected_enter c.args.values.now ts hs c.args.literals.now)
