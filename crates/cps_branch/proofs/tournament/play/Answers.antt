use Rattle.std.proofs.Common.{arith}
use Rattle.cps_branch.proofs.Tournaments.{others_set, played}
use Rattle.cps_branch.proofs.tournament.play.Goals as goal

pub returns-clause-won : goal.returns-clause-won
returns-clause-won c = played c.args.nodes.now c.args.node c.winner.result c.requires.low (omega arith) c.winner.ensures

pub returns-clause-others : goal.returns-clause-others
returns-clause-others c = others_set c.args.nodes.now c.args.node c.winner.result
