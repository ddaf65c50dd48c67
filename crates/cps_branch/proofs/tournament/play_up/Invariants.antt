-- One match is left to be played.
use Rattle.std.proofs.Common.{◌*◌, ◌/◌, ◌≤◌, ◌<◌, ◌≡◌, length}
use Rattle.cps_branch.specs.Tournament.{AreWonBut, SameVariables}
use Rattle.cps_branch.proofs.tournament.play_up.Given as goal

abbrev pub invariant-loop-node : goal.invariant-loop-node
invariant-loop-node l = record {
  size : length l.nodes ≡ 2 * l.count;
  low : 1 ≤ l.node;
  high : l.node < 2 * l.count;
  below : AreWonBut l.count l.nodes (l.node / 2);
  variables : SameVariables l.count l.initial.nodes l.nodes;
}

abbrev pub decreases-loop-node : goal.decreases-loop-node
decreases-loop-node l = l.node
