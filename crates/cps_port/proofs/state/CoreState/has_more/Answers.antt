use Rattle.std.proofs.Common.{arith}
use Rattle.std.proofs.lemmas.Bool.{lt-ltb, ltb-true}
use Rattle.cps_port.proofs.StoredStates.{among, taken_is, rows_is}
use Rattle.cps_port.proofs.state.CoreState.has_more.Goals as goal

pub index-requires : goal.index-requires
index-requires c = let s = c.self.inside in let n = among s.model.now s.rows.items s.next s.seats.items s.upper s.lower s.bounds.items c.args.self.now c.self.view_is c.self.invariant c.args.actor c.requires in omega arith

pub returns-clause-more : goal.returns-clause-more
returns-clause-more c =
    let s = c.self.inside in
    let a = taken_is s.model.now s.rows.items s.next s.seats.items s.upper s.lower s.bounds.items c.args.self.now c.self.view_is c.self.invariant c.args.actor c.requires c.index.result.now c.index.ensures in
    let b = rows_is s.model.now s.rows.items s.next s.seats.items s.upper s.lower s.bounds.items c.args.self.now c.self.view_is c.self.invariant c.args.actor c.requires c.index.result.now c.index.ensures in
    let l = c.len.ensures in
    ((λ h. let less = ltb-true c.index.result.now.taken c.len.result h in omega arith), λ h. lt-ltb c.index.result.now.taken c.len.result (omega arith))
