use Rattle.cps_p_sequence.proofs.Layering.{AreBack}
use Rattle.cps_p_sequence.proofs.layers.end_rows.Given as goal

abbrev pub invariant-loop-after : goal.invariant-loop-after
invariant-loop-after l = AreBack l.store l.net.steps.now l.net.last.now l.net.subjects.now l.after l.room.rows.items l.room.row.items
