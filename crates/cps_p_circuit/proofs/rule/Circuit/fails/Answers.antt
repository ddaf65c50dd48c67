use Rattle.std.proofs.Common.{subst}
use Rattle.std.specs.Prelude.{None}
use Rattle.cps_trail.specs.Trail.{Trail}
use Rattle.cps_p_circuit.specs.Showing.{IsShown, body_by}
use Rattle.cps_p_circuit.proofs.ShownFacts.{impossible}
use Rattle.cps_p_circuit.proofs.rule.Circuit.fails.Goals as goal

pub returns : goal.returns
returns c = λ ok. impossible _ c.args.store.now c.show.new.facts.items (subst (λ (s : Trail). IsShown (body_by c.args.self.now.graph.nodes.items c.args.self.now.graph.from.items c.args.self.now.graph.to.items c.args.self.now.literals.items) s None c.show.new.facts.items) c.present-past.ensures (c.show.ensures ok))
