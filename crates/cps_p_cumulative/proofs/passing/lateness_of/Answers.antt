-- An event that comes after the time has not taken place by then.
use Rattle.std.proofs.Common.{◌<◌, ◌+ℤ◌, ◌<ℤ◌, ℤ, pos, length, rules, arith, FitsSigned, w64}
use Rattle.std.proofs.lemmas.Int.{ints, to_z-of_z}
use Rattle.cps_p_cumulative.proofs.Energy.{next_fits}
use Rattle.cps_p_cumulative.proofs.Levelled.{on_time, rest-later}
use Rattle.cps_p_cumulative.proofs.NegatableValues.{tested}
use Rattle.cps_p_cumulative.proofs.passing.lateness_of.Goals as goal

next : (t : ℤ) → t <ℤ (t +ℤ pos 1)
next t = omega (arith, ints)

pub overflow_add-case : goal.overflow_add-case
overflow_add-case c = next_fits _ (c.is_inside.ensures c.if-not-is_inside.false)

pub is_known-requires : goal.is_known-requires
is_known-requires c = let l = on_time (λ i. i < length c.args.past.now.first) c.args.event.now c.requires in rw c.at_least-later.ensures l

pub returns-then-is_known : goal.returns-then-is_known
returns-then-is_known c =
    let t = c.args.case.time in
    let f : FitsSigned w64 t = search rules in
    let g : FitsSigned w64 (t +ℤ pos 1) = next_fits t (tested t f (c.is_inside.ensures c.if-not-is_inside.false)) in
    let is = rw (to_z-of_z w64 t f, to_z-of_z w64 (t +ℤ pos 1) g) at c.at_least-later.ensures in
    rest-later c.args.past.now.first t (t +ℤ pos 1) c.args.event.now c.at_least-later.result c.requires is (next t)
