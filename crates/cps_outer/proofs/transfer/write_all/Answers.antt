-- The sink took the next bytes.
use Rattle.std.proofs.Common.{◌∙◌}
use Rattle.cps_outer.proofs.Parts.{Appends-next, next_within}
use Rattle.cps_outer.proofs.transfer.write_all.Goals as goal

pub loop-at-preserved : goal.loop-at-preserved
loop-at-preserved g c =
    record {
      taken = Appends-next _ _ _ c.args.bytes.now c.loop-at.at c.in-Ok.count c.loop-at.invariant.taken c.in-Ok.ensures.bytes;
      few = next_within c.args.bytes.now c.loop-at.at c.in-Ok.count c.loop-at.invariant.few c.in-Ok.ensures.some.1;
      kept = c.in-Ok.ensures.cause.succeeded ∙ c.loop-at.invariant.kept;
    }
