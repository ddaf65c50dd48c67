use Rattle.cps_p_arith.specs.Demands.{AreEndsNow}
use Rattle.cps_p_arith.proofs.Zips.{zip_more, longer}
use Rattle.cps_p_arith.proofs.bounds.measure_each.Goals as goal

pub loop-subject-preserved : goal.loop-subject-preserved
loop-subject-preserved c =
    rw c.in_ok-push.ensures.items
    (record {
      len = longer c.loop-subject.ends.items c.ends_of-each.result c.loop-subject.subject-index c.loop-subject.invariant.len;
      hulls = zip_more (AreEndsNow c.args.past.now) c.args.exprs.now c.loop-subject.ends.items c.loop-subject.subject-index c.ends_of-each.result c.loop-subject-test.true c.loop-subject.invariant.hulls c.ends_of-each.ensures;
    })
