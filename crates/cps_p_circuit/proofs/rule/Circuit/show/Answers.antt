use Rattle.std.proofs.Common.{Ok, ap}
use Rattle.cps_p_circuit.proofs.ShownFacts.{shown}
use Rattle.cps_p_circuit.proofs.rule.Circuit.show.Goals as goal

pub returns : goal.returns
returns c = λ ok. shown c.args.past.now c.args.self.now.graph.nodes.items c.args.self.now.graph.from.items c.args.self.now.graph.to.items c.args.self.now.literals.items c.args.denied c.clash.new.used.items _
    (c.in_ok-clash.ensures (ap Ok c.if-not-branch.false)) (rw c.as_slice-2.ensures.value at (rw c.as_slice.ensures.value at (c.keep.ensures ok)))
