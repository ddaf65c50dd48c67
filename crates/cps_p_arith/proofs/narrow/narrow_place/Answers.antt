use Rattle.cps_p_arith.proofs.Holding.{implied_more}
use Rattle.cps_p_arith.proofs.Resting.{place_tried, tried_implied}
use Rattle.cps_p_arith.specs.declared.narrow.Side.TheVariants.{Low, High}
use Rattle.cps_p_arith.proofs.narrow.narrow_place.Goals as goal

pub returns-clause-implied : goal.returns-clause-implied
returns-clause-implied c =
    implied_more c.args.bounds.now c.args.demand.now c.in_ok-high.high c.add.new.found.items c.add-2.new.found.items c.in_ok-add-2.ensures
    (implied_more c.args.bounds.now c.args.demand.now c.in_ok-low.low c.args.found.now.items c.add.new.found.items c.in_ok-add.ensures c.requires.given
    (tried_implied c.args.bounds.now c.args.demand.now c.args.place Low c.in_ok-low.low c.in_ok-low.ensures))
    (tried_implied c.args.bounds.now c.args.demand.now c.args.place High c.in_ok-high.high c.in_ok-high.ensures)

pub returns-clause-tried : goal.returns-clause-tried
returns-clause-tried c =
    place_tried c.args.bounds.now c.args.demand.now c.args.place c.in_ok-low.low c.in_ok-high.high c.args.found.now.items c.add.new.found.items c.add-2.new.found.items
    c.in_ok-low.ensures c.in_ok-high.ensures c.in_ok-add.ensures c.in_ok-add-2.ensures
