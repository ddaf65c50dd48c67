-- At least one more is the opposite of at most, and at most one less of at least.
use Rattle.std.proofs.Common.{pos, ◌+ℤ◌, ◌-ℤ◌}
use Rattle.cps_domain.proofs.Taking.{bits}
use Rattle.cps_literal.proofs.Negating.{one_more, one_more_fits, one_less, one_less_fits, le_negated, ge_negated}
use Rattle.cps_literal.proofs.atom.Atom.negate.Goals as goal

pub overflow_add-result : goal.overflow_add-result
overflow_add-result c = one_more_fits c.args.self.value c.requires.low (c.requires.above c.in-Le.is)

pub returns-in-Le-clause-negated : goal.returns-in-Le-clause-negated
returns-in-Le-clause-negated c =
    let v = c.args.self.value in
    λ x. le_negated c.args.self.op v (bits (bits v +ℤ pos 1)) x c.in-Le.is (one_more v c.requires.low (c.requires.above c.in-Le.is)).is

pub returns-in-Le-clause-low : goal.returns-in-Le-clause-low
returns-in-Le-clause-low c = (one_more c.args.self.value c.requires.low (c.requires.above c.in-Le.is)).low

pub returns-in-Le-clause-high : goal.returns-in-Le-clause-high
returns-in-Le-clause-high c = (one_more c.args.self.value c.requires.low (c.requires.above c.in-Le.is)).high

pub overflow_sub-result : goal.overflow_sub-result
overflow_sub-result c = one_less_fits c.args.self.value (c.requires.below c.in-Ge.is) c.requires.high

pub returns-in-Ge-clause-negated : goal.returns-in-Ge-clause-negated
returns-in-Ge-clause-negated c =
    let v = c.args.self.value in
    λ x. ge_negated c.args.self.op v (bits (bits v -ℤ pos 1)) x c.in-Ge.is (one_less v (c.requires.below c.in-Ge.is) c.requires.high).is

pub returns-in-Ge-clause-low : goal.returns-in-Ge-clause-low
returns-in-Ge-clause-low c = (one_less c.args.self.value (c.requires.below c.in-Ge.is) c.requires.high).low

pub returns-in-Ge-clause-high : goal.returns-in-Ge-clause-high
returns-in-Ge-clause-high c = (one_less c.args.self.value (c.requires.below c.in-Ge.is) c.requires.high).high
