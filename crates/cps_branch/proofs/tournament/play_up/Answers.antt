use Rattle.std.proofs.Common.{◌/◌, ◌∙◌, arith}
use Rattle.cps_branch.proofs.Tournaments.{won_all, won_up}
use Rattle.cps_branch.proofs.tournament.play_up.Goals as goal

pub loop-node-preserved : goal.loop-node-preserved
loop-node-preserved c =
    let i = c.loop-node.invariant in
    let p = c.loop-node.node / 2 in
    record {
      size = omega arith;
      low = omega arith;
      high = omega arith;
      below = won_up c.args.count p c.loop-node.nodes c.play.new.nodes i.below c.play.ensures.won c.play.ensures.others;
      variables = λ k l. c.play.ensures.others k (λ e. omega (arith, e, l)) ∙ i.variables k l;
    }

pub returns-clause-won : goal.returns-clause-won
returns-clause-won c = won_all c.args.count (c.loop-node.node / 2) c.loop-node.nodes (omega arith) c.loop-node.invariant.below
