use Rattle.std.proofs.Common.{arith}
use Rattle.cps_port.proofs.StoredStates.{among, full_is}
use Rattle.cps_port.proofs.state.CoreState.is_full.Goals as goal

pub index-requires : goal.index-requires
index-requires c = let s = c.self.inside in let n = among s.model.now s.rows.items s.next s.seats.items s.upper s.lower s.bounds.items c.args.self.now c.self.view_is c.self.invariant c.args.actor c.requires in omega arith

pub returns : goal.returns
returns c = let s = c.self.inside in full_is s.model.now s.rows.items s.next s.seats.items s.upper s.lower s.bounds.items c.args.self.now c.self.view_is c.self.invariant c.args.actor c.requires c.index.result.now c.index.ensures
