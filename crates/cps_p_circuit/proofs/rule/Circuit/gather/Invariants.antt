use Rattle.std.specs.Prelude.{All}
use Rattle.cps_rule.specs.Rules.{IsGiven}
use Rattle.cps_p_circuit.specs.Showing.{body_by}
use Rattle.cps_p_circuit.specs.Counts.{AreTrue}
use Rattle.cps_p_circuit.proofs.rule.Circuit.gather.Given as goal

abbrev pub invariant-loop-k : goal.invariant-loop-k
invariant-loop-k l = record {
  given : All (λ n. IsGiven (body_by l.self.graph.nodes.items l.self.graph.from.items l.self.graph.to.items l.self.literals.items) l.store n.target) l.initial.found.items
      → All (λ n. IsGiven (body_by l.self.graph.nodes.items l.self.graph.from.items l.self.graph.to.items l.self.literals.items) l.store n.target) l.found.items;
  before : AreTrue l.store l.found.items → AreTrue l.store l.initial.found.items;
}
