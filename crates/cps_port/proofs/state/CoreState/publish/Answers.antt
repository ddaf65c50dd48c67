use Rattle.std.proofs.Common.{arith}
use Rattle.cps_port.proofs.StoredStates.{among, publishes_within, publishes}
use Rattle.cps_port.proofs.state.CoreState.publish.Goals as goal

pub index-seat-requires : goal.index-seat-requires
index-seat-requires c = let s = c.self.inside in let n = among s.model.now s.rows.items s.next s.seats.items s.upper s.lower s.bounds.items c.args.self.now c.self.view_is c.self.invariant c.args.actor c.requires.actor in omega arith

pub index_mut-requires : goal.index_mut-requires
index_mut-requires c = let s = c.self.inside in let n = among s.model.now s.rows.items s.next s.seats.items s.upper s.lower s.bounds.items c.args.self.now c.self.view_is c.self.invariant c.args.actor c.requires.actor in omega arith

pub index_mut-requires-2 : goal.index_mut-requires-2
index_mut-requires-2 c = let s = c.self.inside in let n = publishes_within s.model.now s.rows.items s.next s.seats.items s.upper s.lower s.bounds.items c.args.self.now c.self.view_is c.self.invariant c.args.actor c.requires.actor c.index-seat.result.now c.index-seat.ensures c.args.entry c.requires.lawful in omega arith

pub invariant_of-self : goal.invariant_of-self
invariant_of-self c = let s = c.self.inside in let k = publishes s.model.now s.rows.items s.next s.seats.items s.upper s.lower s.bounds.items c.args.self.now c.self.view_is c.self.invariant c.args.actor c.requires.actor c.index-seat.result.now c.index-seat.ensures c.args.entry c.requires.lawful in k.whole

pub returns-clause-state : goal.returns-clause-state
returns-clause-state c = let s = c.self.inside in let k = publishes s.model.now s.rows.items s.next s.seats.items s.upper s.lower s.bounds.items c.args.self.now c.self.view_is c.self.invariant c.args.actor c.requires.actor c.index-seat.result.now c.index-seat.ensures c.args.entry c.requires.lawful in k.state

pub returns-clause-sound : goal.returns-clause-sound
returns-clause-sound c = let s = c.self.inside in let k = publishes s.model.now s.rows.items s.next s.seats.items s.upper s.lower s.bounds.items c.args.self.now c.self.view_is c.self.invariant c.args.actor c.requires.actor c.index-seat.result.now c.index-seat.ensures c.args.entry c.requires.lawful in k.sound
