-- A row is drawn where one is left, and else the actor is past the last.
use Rattle.std.proofs.Common.{arith}
use Rattle.cps_port.proofs.StoredStates.{among, next_small, row_small, row_left, no_row_left, draws_row, draws_past}
use Rattle.cps_port.proofs.state.CoreState.draw.Goals as goal

pub index-seat-requires : goal.index-seat-requires
index-seat-requires c = let s = c.self.inside in let n = among s.model.now s.rows.items s.next s.seats.items s.upper s.lower s.bounds.items c.args.self.now c.self.view_is c.self.invariant c.args.actor c.requires.actor in omega arith

pub index_mut-requires : goal.index_mut-requires
index_mut-requires c = let s = c.self.inside in let n = among s.model.now s.rows.items s.next s.seats.items s.upper s.lower s.bounds.items c.args.self.now c.self.view_is c.self.invariant c.args.actor c.requires.actor in omega arith

pub index_mut-requires-2 : goal.index_mut-requires-2
index_mut-requires-2 c = let s = c.self.inside in let n = among s.model.now s.rows.items s.next s.seats.items s.upper s.lower s.bounds.items c.args.self.now c.self.view_is c.self.invariant c.args.actor c.requires.actor in omega arith

pub overflow_add-self : goal.overflow_add-self
overflow_add-self c = let s = c.self.inside in let n = next_small s.model.now s.rows.items s.next s.seats.items s.upper s.lower s.bounds.items c.args.self.now c.self.view_is c.self.invariant c.args.actor c.requires.actor in omega arith

pub invariant_of-self : goal.invariant_of-self
invariant_of-self c = let s = c.self.inside in let k = draws_past s.model.now s.rows.items s.next s.seats.items s.upper s.lower s.bounds.items c.args.self.now c.self.view_is c.self.invariant c.args.actor c.requires.actor c.index-seat.result.now c.index-seat.ensures c.requires.lawful (omega arith) in k.whole

pub returns-then-row-len-clause-state : goal.returns-then-row-len-clause-state
returns-then-row-len-clause-state c = let s = c.self.inside in let k = draws_past s.model.now s.rows.items s.next s.seats.items s.upper s.lower s.bounds.items c.args.self.now c.self.view_is c.self.invariant c.args.actor c.requires.actor c.index-seat.result.now c.index-seat.ensures c.requires.lawful (omega arith) in k.state

pub returns-then-row-len-clause-sound : goal.returns-then-row-len-clause-sound
returns-then-row-len-clause-sound c = let s = c.self.inside in let k = draws_past s.model.now s.rows.items s.next s.seats.items s.upper s.lower s.bounds.items c.args.self.now c.self.view_is c.self.invariant c.args.actor c.requires.actor c.index-seat.result.now c.index-seat.ensures c.requires.lawful (omega arith) in k.sound

pub invariant_of-self-2 : goal.invariant_of-self-2
invariant_of-self-2 c = let s = c.self.inside in let k = draws_row s.model.now s.rows.items s.next s.seats.items s.upper s.lower s.bounds.items c.args.self.now c.self.view_is c.self.invariant c.args.actor c.requires.actor c.index-seat.result.now c.index-seat.ensures c.requires.lawful (omega arith) in k.whole

pub returns-clause-state : goal.returns-clause-state
returns-clause-state c = let s = c.self.inside in let k = draws_row s.model.now s.rows.items s.next s.seats.items s.upper s.lower s.bounds.items c.args.self.now c.self.view_is c.self.invariant c.args.actor c.requires.actor c.index-seat.result.now c.index-seat.ensures c.requires.lawful (omega arith) in k.state

pub returns-clause-sound : goal.returns-clause-sound
returns-clause-sound c = let s = c.self.inside in let k = draws_row s.model.now s.rows.items s.next s.seats.items s.upper s.lower s.bounds.items c.args.self.now c.self.view_is c.self.invariant c.args.actor c.requires.actor c.index-seat.result.now c.index-seat.ensures c.requires.lawful (omega arith) in k.sound

pub overflow_cast-seat : goal.overflow_cast-seat
overflow_cast-seat c = let s = c.self.inside in let n = row_small s.model.now s.rows.items s.next s.seats.items s.upper s.lower s.bounds.items c.args.self.now c.self.view_is c.self.invariant c.args.actor c.requires.actor (omega arith) in omega arith

pub overflow_cast-result : goal.overflow_cast-result
overflow_cast-result c = let s = c.self.inside in let n = row_small s.model.now s.rows.items s.next s.seats.items s.upper s.lower s.bounds.items c.args.self.now c.self.view_is c.self.invariant c.args.actor c.requires.actor (omega arith) in omega arith

pub returns-then-row-len-clause-row : goal.returns-then-row-len-clause-row
returns-then-row-len-clause-row c = let s = c.self.inside in no_row_left s.model.now s.rows.items s.next s.seats.items s.upper s.lower s.bounds.items c.args.self.now c.self.view_is c.self.invariant c.args.actor c.requires.actor (omega arith)

pub returns-clause-row : goal.returns-clause-row
returns-clause-row c = let s = c.self.inside in row_left s.model.now s.rows.items s.next s.seats.items s.upper s.lower s.bounds.items c.args.self.now c.self.view_is c.self.invariant c.args.actor c.requires.actor (omega arith)
