-- The ends of arcs are places of nodes, and their numbers and the arcs that are taken are those of the circuit.
use Rattle.std.proofs.Common.{rules, ◌≡◌, ◌++◌, ◌<◌, map, length}
use Rattle.std.proofs.lemmas.List.Elements.{All-from_get_or}
use Rattle.cps_p_circuit.specs.Graphs.{number, arcs_by}
use Rattle.cps_p_circuit.proofs.TakenArcs.{tails_in, heads_in}
use Rattle.cps_p_circuit.proofs.decided.is_round.Goals as goal

pub add_numbers-requires : goal.add_numbers-requires
add_numbers-requires c =
    let g = c.args.graph.now in
    rw (c.as_slice.ensures.value, c.as_slice-2.ensures.value) (All-from_get_or (λ v. v < length g.nodes.items) g.from.items 0 g.numbered.tails)

pub add_numbers-requires-2 : goal.add_numbers-requires-2
add_numbers-requires-2 c =
    let g = c.args.graph.now in
    rw (c.as_slice-3.ensures.value, c.as_slice-4.ensures.value) (All-from_get_or (λ v. v < length g.nodes.items) g.to.items 0 g.numbered.heads)

pub is_circuit-requires-clause-tails : goal.is_circuit-requires-clause-tails
is_circuit-requires-clause-tails c =
    let ns = c.args.graph.now.nodes.items in
    let nodes : c.as_slice-5.result.now ≡ map (number ns) c.args.graph.now.from.items ++ map (number ns) c.args.graph.now.to.items = search rules in
    let arcs : c.as_slice-6.result.now ≡ arcs_by ns c.args.graph.now.from.items c.args.graph.now.to.items c.args.taken.now = search rules in
    rw (nodes, arcs) (tails_in ns c.args.graph.now.from.items c.args.graph.now.to.items c.args.taken.now)

pub is_circuit-requires-clause-heads : goal.is_circuit-requires-clause-heads
is_circuit-requires-clause-heads c =
    let ns = c.args.graph.now.nodes.items in
    let nodes : c.as_slice-5.result.now ≡ map (number ns) c.args.graph.now.from.items ++ map (number ns) c.args.graph.now.to.items = search rules in
    let arcs : c.as_slice-6.result.now ≡ arcs_by ns c.args.graph.now.from.items c.args.graph.now.to.items c.args.taken.now = search rules in
    rw (nodes, arcs) (heads_in ns c.args.graph.now.from.items c.args.graph.now.to.items c.args.taken.now)
