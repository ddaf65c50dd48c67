-- A test that holds leaves no interval; where all fail, there is one.
use Rattle.std.proofs.Common.{◌<ℤ◌, ◌+ℤ◌, pos, inl, inr, refl, rules, arith}
use Rattle.std.proofs.lemmas.Int.{ints, clamps}
use Rattle.cps_p_interval.specs.Intervals.{least_end}
use Rattle.cps_p_interval.proofs.Bounding.{impossible}
use Rattle.cps_p_span.proofs.Refusing.{not_lacking}
use Rattle.cps_p_interval.proofs.interval.contradiction.Goals as goal

pub returns-then-hulls-lt0-clause-some : goal.returns-then-hulls-lt0-clause-some
returns-then-hulls-lt0-clause-some c =
    let less : c.args.hulls.size.high <ℤ pos 0 = search rules in
    λ s p l m. impossible s p c.args.hulls l m (inl less)

pub returns-then-hulls-max-clause-some : goal.returns-then-hulls-max-clause-some
returns-then-hulls-max-clause-some c =
    let a = c.requires.start_low in
    let b = c.requires.start_high in
    let d = c.requires.end_low in
    let e = c.requires.end_high in
    let f = c.requires.size_low in
    let g = c.requires.size_high in
    let test = c.if-hulls-max.true in
    let less : c.args.hulls.end.high <ℤ least_end c.args.hulls = omega (arith, ints, clamps) in
    λ s p l m. impossible s p c.args.hulls l m (inr (inl less))

pub returns-then-hulls-clause-some : goal.returns-then-hulls-clause-some
returns-then-hulls-clause-some c =
    let less : (c.args.hulls.start.high +ℤ c.args.hulls.size.high) <ℤ c.args.hulls.end.low = search rules in
    λ s p l m. impossible s p c.args.hulls l m (inr (inr less))

pub returns-then-hulls-max-clause-none : goal.returns-then-hulls-max-clause-none
returns-then-hulls-max-clause-none c e = not_lacking _ e

pub returns-then-hulls-clause-none : goal.returns-then-hulls-clause-none
returns-then-hulls-clause-none c e = not_lacking _ e

pub returns-clause-none : goal.returns-clause-none
returns-clause-none c none =
    let a = c.requires.start_low in
    let b = c.requires.start_high in
    let d = c.requires.end_low in
    let e = c.requires.end_high in
    let f = c.requires.size_low in
    let g = c.requires.size_high in
    let first = c.if-hulls-lt0.false in
    let second = c.if-hulls-max.false in
    let third = c.if-hulls.false in
    record { some = omega (arith, ints, clamps); not_before = omega (arith, ints, clamps); not_after = omega (arith, ints, clamps) }

pub returns-then-hulls-lt0-clause-test : goal.returns-then-hulls-lt0-clause-test
returns-then-hulls-lt0-clause-test c =
    let less : c.args.hulls.size.high <ℤ pos 0 = search rules in
    inl (refl, less)

pub returns-then-hulls-max-clause-test : goal.returns-then-hulls-max-clause-test
returns-then-hulls-max-clause-test c =
    let a = c.requires.start_low in
    let b = c.requires.start_high in
    let d = c.requires.end_low in
    let e = c.requires.end_high in
    let f = c.requires.size_low in
    let g = c.requires.size_high in
    let test = c.if-hulls-max.true in
    let less : c.args.hulls.end.high <ℤ least_end c.args.hulls = omega (arith, ints, clamps) in
    inr (inl (refl, less))

pub returns-then-hulls-clause-test : goal.returns-then-hulls-clause-test
returns-then-hulls-clause-test c =
    let less : (c.args.hulls.start.high +ℤ c.args.hulls.size.high) <ℤ c.args.hulls.end.low = search rules in
    inr (inr (refl, less))
