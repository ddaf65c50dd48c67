use Rattle.cps_port.proofs.StoredStates.{sees_lower}
use Rattle.cps_port.proofs.state.CoreState.see_lower.Goals as goal

pub invariant_of-self : goal.invariant_of-self
invariant_of-self c = let s = c.self.inside in let k = sees_lower s.model.now s.rows.items s.next s.seats.items s.upper s.lower s.bounds.items c.args.self.now c.self.view_is c.self.invariant c.args.actor c.requires.actor c.index-part.result.now c.index-part.ensures c.counted.result c.counted.ensures in k.whole

pub returns-clause-sound : goal.returns-clause-sound
returns-clause-sound c = let s = c.self.inside in let k = sees_lower s.model.now s.rows.items s.next s.seats.items s.upper s.lower s.bounds.items c.args.self.now c.self.view_is c.self.invariant c.args.actor c.requires.actor c.index-part.result.now c.index-part.ensures c.counted.result c.counted.ensures in k.sound
