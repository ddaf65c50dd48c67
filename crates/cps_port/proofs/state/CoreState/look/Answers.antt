use Rattle.std.proofs.Common.{arith}
use Rattle.cps_port.proofs.StoredStates.{among, looks_within, looks_few, looks_closed, looks_open}
use Rattle.cps_port.proofs.state.CoreState.look.Goals as goal

pub index-seat-requires : goal.index-seat-requires
index-seat-requires c = let s = c.self.inside in let n = among s.model.now s.rows.items s.next s.seats.items s.upper s.lower s.bounds.items c.args.self.now c.self.view_is c.self.invariant c.args.actor c.requires.actor in omega arith

pub index_mut-requires : goal.index_mut-requires
index_mut-requires c = let s = c.self.inside in let n = among s.model.now s.rows.items s.next s.seats.items s.upper s.lower s.bounds.items c.args.self.now c.self.view_is c.self.invariant c.args.actor c.requires.actor in omega arith

pub index_mut-requires-2 : goal.index_mut-requires-2
index_mut-requires-2 c = let s = c.self.inside in let n = among s.model.now s.rows.items s.next s.seats.items s.upper s.lower s.bounds.items c.args.self.now c.self.view_is c.self.invariant c.args.actor c.requires.actor in omega arith

pub index-row-requires : goal.index-row-requires
index-row-requires c = let s = c.self.inside in let n = looks_within s.model.now s.rows.items s.next s.seats.items s.upper s.lower s.bounds.items c.args.self.now c.self.view_is c.self.invariant c.args.actor c.requires.actor c.index-seat.result.now c.index-seat.ensures c.requires.lawful in omega arith

pub overflow_add-seat : goal.overflow_add-seat
overflow_add-seat c = let s = c.self.inside in let n = looks_few s.model.now s.rows.items s.next s.seats.items s.upper s.lower s.bounds.items c.args.self.now c.self.view_is c.self.invariant c.args.actor c.requires.actor c.index-seat.result.now c.index-seat.ensures c.requires.lawful in omega arith

pub invariant_of-self : goal.invariant_of-self
invariant_of-self c = let s = c.self.inside in let k = looks_open s.model.now s.rows.items s.next s.seats.items s.upper s.lower s.bounds.items c.args.self.now c.self.view_is c.self.invariant c.args.actor c.requires.actor c.index-seat.result.now c.index-seat.ensures c.index-row.result.now c.index-row.ensures c.requires.lawful c.if-row.true in k.0.whole

pub returns-then-row-clause-state : goal.returns-then-row-clause-state
returns-then-row-clause-state c = let s = c.self.inside in let k = looks_open s.model.now s.rows.items s.next s.seats.items s.upper s.lower s.bounds.items c.args.self.now c.self.view_is c.self.invariant c.args.actor c.requires.actor c.index-seat.result.now c.index-seat.ensures c.index-row.result.now c.index-row.ensures c.requires.lawful c.if-row.true in k.0.state

pub returns-then-row-clause-entry : goal.returns-then-row-clause-entry
returns-then-row-clause-entry c = let s = c.self.inside in let k = looks_open s.model.now s.rows.items s.next s.seats.items s.upper s.lower s.bounds.items c.args.self.now c.self.view_is c.self.invariant c.args.actor c.requires.actor c.index-seat.result.now c.index-seat.ensures c.index-row.result.now c.index-row.ensures c.requires.lawful c.if-row.true in k.1

pub returns-then-row-clause-sound : goal.returns-then-row-clause-sound
returns-then-row-clause-sound c = let s = c.self.inside in let k = looks_open s.model.now s.rows.items s.next s.seats.items s.upper s.lower s.bounds.items c.args.self.now c.self.view_is c.self.invariant c.args.actor c.requires.actor c.index-seat.result.now c.index-seat.ensures c.index-row.result.now c.index-row.ensures c.requires.lawful c.if-row.true in k.0.sound

pub invariant_of-self-2 : goal.invariant_of-self-2
invariant_of-self-2 c = let s = c.self.inside in let k = looks_closed s.model.now s.rows.items s.next s.seats.items s.upper s.lower s.bounds.items c.args.self.now c.self.view_is c.self.invariant c.args.actor c.requires.actor c.index-seat.result.now c.index-seat.ensures c.index-row.result.now c.counted.result c.index-row.ensures c.requires.lawful c.if-row.false c.counted.ensures in k.0.whole

pub returns-clause-state : goal.returns-clause-state
returns-clause-state c = let s = c.self.inside in let k = looks_closed s.model.now s.rows.items s.next s.seats.items s.upper s.lower s.bounds.items c.args.self.now c.self.view_is c.self.invariant c.args.actor c.requires.actor c.index-seat.result.now c.index-seat.ensures c.index-row.result.now c.counted.result c.index-row.ensures c.requires.lawful c.if-row.false c.counted.ensures in k.0.state

pub returns-clause-entry : goal.returns-clause-entry
returns-clause-entry c = let s = c.self.inside in let k = looks_closed s.model.now s.rows.items s.next s.seats.items s.upper s.lower s.bounds.items c.args.self.now c.self.view_is c.self.invariant c.args.actor c.requires.actor c.index-seat.result.now c.index-seat.ensures c.index-row.result.now c.counted.result c.index-row.ensures c.requires.lawful c.if-row.false c.counted.ensures in k.1

pub returns-clause-sound : goal.returns-clause-sound
returns-clause-sound c = let s = c.self.inside in let k = looks_closed s.model.now s.rows.items s.next s.seats.items s.upper s.lower s.bounds.items c.args.self.now c.self.view_is c.self.invariant c.args.actor c.requires.actor c.index-seat.result.now c.index-seat.ensures c.index-row.result.now c.counted.result c.index-row.ensures c.requires.lawful c.if-row.false c.counted.ensures in k.0.sound
