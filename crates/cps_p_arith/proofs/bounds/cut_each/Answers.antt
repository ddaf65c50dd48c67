use Rattle.cps_p_arith.specs.Demands.{IsHeldIn, AreEndsNow, IsCutAt}
use Rattle.cps_p_arith.proofs.Zips.{zip_more, zip_at, longer}
use Rattle.cps_p_arith.proofs.bounds.cut_each.Goals as goal

pub loop-k-preserved : goal.loop-k-preserved
loop-k-preserved c =
    rw c.in_ok-push.ensures.items
    (record {
      len = longer c.loop-k.ends.items c.chosen-each.result c.loop-k.k c.loop-k.invariant.len;
      held = λ xs h p. zip_more (IsHeldIn xs) c.args.exprs.now c.loop-k.ends.items c.loop-k.k c.chosen-each.result c.loop-k-test.true (c.loop-k.invariant.held xs h p)
          (c.chosen-each.ensures.held xs (zip_at (IsHeldIn xs) c.args.exprs.now c.args.whole.now c.loop-k.k 0 _ h c.loop-k-test.true) p);
      cut = λ s h. zip_more (IsCutAt s c.args.piece) c.args.exprs.now c.loop-k.ends.items c.loop-k.k c.chosen-each.result c.loop-k-test.true (c.loop-k.invariant.cut s h)
          (c.chosen-each.ensures.cut s (zip_at (AreEndsNow s) c.args.exprs.now c.args.whole.now c.loop-k.k 0 _ h c.loop-k-test.true));
    })
