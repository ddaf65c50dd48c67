use Rattle.std.proofs.Common.{◌<◌, length, sym, subst}
use Rattle.cps_p_cumulative.proofs.Levelled.{on_change}
use Rattle.cps_p_cumulative.proofs.pushes.push_change.Goals as goal

pub returns-then-bounds-lt0 : goal.returns-then-bounds-lt0
returns-then-bounds-lt0 c = subst (λ i. i < length c.args.past.now.first) (sym c.at_most_toward.ensures) (on_change (λ i. i < length c.args.past.now.first) c.args.event.now c.requires)
