use Rattle.std.proofs.Common.{◌≡◌, pos, ◌+ℤ◌, ◌-ℤ◌, ◌≤ℤ◌, rules, FitsSigned, w64, arith}
use Rattle.std.proofs.lemmas.Int.{ints, to_z-of_z}
use Rattle.cps_literal.specs.declared.atom.Op.TheVariants.{Le, Ge}
use Rattle.cps_p_alldiff.proofs.BarAtoms.{bound_low, bound_high}
use Rattle.cps_p_alldiff.proofs.facts.near_of.Goals as goal

pub returns-then-target-hall-clause-some : goal.returns-then-target-hall-clause-some
returns-then-target-hall-clause-some c =
    let h = c.args.hall.now in
    let t = c.args.target in
    let fl : FitsSigned w64 h.low = search rules in
    let is-ge : t.op ≡ Ge = search rules in
    let a : t.value ≤ℤ (h.high +ℤ pos 1) = search (rules, ints) in
    rw (to_z-of_z w64 h.low fl) (bound_low t h c.requires is-ge a)

pub returns-then-hall-target-clause-some : goal.returns-then-hall-target-clause-some
returns-then-hall-target-clause-some c =
    let h = c.args.hall.now in
    let t = c.args.target in
    let fh : FitsSigned w64 h.high = search rules in
    let is-le : t.op ≡ Le = search rules in
    let a : (h.low -ℤ pos 1) ≤ℤ t.value = search (rules, ints) in
    rw (to_z-of_z w64 h.high fh) (bound_high t h c.requires is-le (omega (arith, ints)))
