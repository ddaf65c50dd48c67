use Rattle.cps_p_arith.proofs.Holding.{is_member}
use Rattle.cps_p_arith.proofs.Resting.{is_member_place}
use Rattle.cps_p_arith.proofs.narrow.member.Goals as goal

pub returns-clause-held : goal.returns-clause-held
returns-clause-held c = is_member c.args.bounds.now c.args.demand.now c.args.k c.index.result.now c.index-2.result.now c.requires.place c.requires.len c.index.ensures c.index-2.ensures

pub returns-clause-is : goal.returns-clause-is
returns-clause-is c = is_member_place c.args.bounds.now c.args.demand.now c.args.k c.index.result.now c.index-2.result.now c.requires.place c.requires.len c.index.ensures c.index-2.ensures
