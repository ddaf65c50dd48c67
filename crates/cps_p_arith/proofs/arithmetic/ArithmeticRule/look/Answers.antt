use Rattle.std.proofs.Common.{rules}
use Rattle.cps_p_arith.proofs.Holding.{known_of, impossible, given, at_rest}
use Rattle.cps_p_arith.proofs.Resting.{admitted_now, unseen, strong}
use Rattle.cps_p_arith.proofs.arithmetic.ArithmeticRule.look.Goals as goal

pub measure_root-requires : goal.measure_root-requires
measure_root-requires c = known_of c.args.store.now.first c.args.self.now.demand c.requires.fits

pub measure-requires : goal.measure-requires
measure-requires c = rw c.present.ensures (known_of c.args.store.now.first c.args.self.now.demand c.requires.fits)

pub returns-then-exclude-clause-seen : goal.returns-then-exclude-clause-seen
returns-then-exclude-clause-seen c =
    let m = rw c.present.ensures at c.in_ok-measure.ensures.ends in
    impossible c.args.store.now c.args.self.now.demand c.measure.new.self m (known_of c.args.store.now.first c.args.self.now.demand c.requires.fits) (c.exclude.ensures.sound (search rules))

pub returns-clause-given : goal.returns-clause-given
returns-clause-given c =
    let m = rw c.present.ensures at c.in_ok-measure.ensures.ends in
    given c.args.store.now c.args.self.now.demand c.measure.new.self c.narrow.new.found.items m (known_of c.args.store.now.first c.args.self.now.demand c.requires.fits) c.in_ok-narrow.ensures.implied

pub returns-clause-seen : goal.returns-clause-seen
returns-clause-seen c =
    let m = rw c.present.ensures at c.in_ok-measure.ensures.ends in
    unseen c.args.store.now c.args.self.now.demand c.measure.new.self (admitted_now c.args.store.now c.args.self.now.demand c.measure.new.self m (c.exclude.ensures.possible c.if-exclude.false))

pub returns-clause-rest : goal.returns-clause-rest
returns-clause-rest c = λ _ trues.
    let m = rw c.present.ensures at c.in_ok-measure.ensures.ends in
    let a = admitted_now c.args.store.now c.args.self.now.demand c.measure.new.self m (c.exclude.ensures.possible c.if-exclude.false) in
    at_rest c.args.store.now c.args.self.now.demand c.measure.new.self m (c.exclude.ensures.exact c.if-exclude.false)
    (strong c.args.store.now c.args.self.now.demand c.measure.new.self a (c.in_ok-narrow.ensures.tried c.args.store.now a trues))
