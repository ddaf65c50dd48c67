use Rattle.cps_p_arith.proofs.Holding.{known_of, sound_of, refuted}
use Rattle.cps_p_arith.proofs.arithmetic.ArithmeticRule.refute.Goals as goal

pub measure-requires : goal.measure-requires
measure-requires c = known_of c.args.past.now.first c.args.self.now.demand c.requires.fits

pub justify-requires-clause-known : goal.justify-requires-clause-known
justify-requires-clause-known c = known_of c.args.past.now.first c.args.self.now.demand c.requires.fits

pub justify-requires-clause-sound : goal.justify-requires-clause-sound
justify-requires-clause-sound c = sound_of c.args.past.now.first c.args.self.now.demand c.requires.fits

pub returns : goal.returns
returns c = λ t. refuted c.args.past.now c.args.self.now.demand c.justify.new.facts.items (c.justify.ensures t)
