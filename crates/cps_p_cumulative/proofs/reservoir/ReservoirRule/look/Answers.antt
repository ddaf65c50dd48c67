use Rattle.std.proofs.Common.{subst, sym}
use Rattle.std.specs.Prelude.{IfOk}
use Rattle.cps_trail.specs.Trail.{Trail}
use Rattle.cps_rule.specs.Rules.{IsFittingRule, IsAtRest, IsSeen}
use Rattle.cps_p_cumulative.specs.Levels.{tank_body}
use Rattle.cps_p_cumulative.proofs.Levelled.{tank_inside, tank_seen}
use Rattle.cps_p_cumulative.proofs.reservoir.ReservoirRule.look.Goals as goal

pub look_at-requires : goal.look_at-requires
look_at-requires c = record {
  tank = tank_inside c.present.result.first c.args.self.now.tank (subst (λ (s : Trail). IsFittingRule s.first (tank_body c.args.self.now.tank)) (sym c.present.ensures) c.requires.fits);
  zero = record { low = c.requires.fits.body.low; high = c.requires.fits.body.high };
}

pub returns-clause-rest : goal.returns-clause-rest
returns-clause-rest c = λ ok all. subst (λ (s : Trail). IsAtRest (tank_body c.args.self.now.tank) s) c.present.ensures (c.look_at.ensures.possible ok)

pub returns-clause-seen : goal.returns-clause-seen
returns-clause-seen c =
    let k = c.args.self.now.tank in
    subst (λ (s : Trail). IfOk c.look_at.result (IsSeen (tank_body k) s)) c.present.ensures (tank_seen c.present.result k c.look_at.result c.look_at.ensures.impossible c.look_at.ensures.possible)
