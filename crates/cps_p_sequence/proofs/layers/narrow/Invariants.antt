use Rattle.std.proofs.Common.{drop, length}
use Rattle.cps_p_sequence.specs.Runs.{AreRows, AreReached, AreFound}
use Rattle.cps_p_sequence.proofs.layers.narrow.Given as goal

abbrev pub invariant-loop-subject : goal.invariant-loop-subject
invariant-loop-subject l = record {
  rows : AreRows l.store l.net.steps.now l.net.last.now (drop l.subject-index l.net.subjects.now) l.room.rows.items;
  reached : AreReached l.store l.net.steps.now l.net.first (length l.net.last.now) l.net.subjects.now l.subject-index l.room.reached.items;
  found : AreFound l.store l.net.steps.now l.net.first l.net.last.now l.net.subjects.now l.subject-index l.found.items;
}
