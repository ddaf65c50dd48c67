-- An end that lies in the interval is passed, and its one number is left out.
use Rattle.std.proofs.Common.{◌≡◌, pos, ◌+ℤ◌, ◌-ℤ◌, refl, rules, FitsSigned, w64}
use Rattle.std.proofs.lemmas.Int.{ints, to_z-of_z}
use Rattle.cps_p_alldiff.proofs.NumberTests.{read_at_most, above_fits, below_fits, down_up}
use Rattle.cps_p_alldiff.proofs.BarAtoms.{bar_low, bar_high, bar_one}
use Rattle.cps_p_alldiff.proofs.bars.bar_of.Goals as goal

pub returns-then-ends-hall : goal.returns-then-ends-hall
returns-then-ends-hall c =
    let h = c.args.hall.now in
    let e = c.args.ends.now in
    let fh : FitsSigned w64 h.high = search rules in
    let fl : FitsSigned w64 h.low = search rules in
    let fe : FitsSigned w64 e.low = search rules in
    rw (to_z-of_z w64 h.high fh, to_z-of_z w64 (h.high +ℤ pos 1) (above_fits h.high c.requires.range.high)) (bar_low c.args.subject e h (h.high +ℤ pos 1) (read_at_most h.low e.low fl fe c.if-hall-ends.true) refl)

pub returns-then-ends-hall-2 : goal.returns-then-ends-hall-2
returns-then-ends-hall-2 c =
    let h = c.args.hall.now in
    let e = c.args.ends.now in
    let fl : FitsSigned w64 h.low = search rules in
    let fh : FitsSigned w64 h.high = search rules in
    let fe : FitsSigned w64 e.high = search rules in
    rw (to_z-of_z w64 h.low fl, to_z-of_z w64 (h.low -ℤ pos 1) (below_fits h.low c.requires.range.low)) (bar_high c.args.subject e h (h.low -ℤ pos 1) (read_at_most e.high h.high fe fh c.if-ends-hall-2.true) (down_up h.low))

pub returns-then-contains : goal.returns-then-contains
returns-then-contains c =
    let h = c.args.hall.now in
    let fl : FitsSigned w64 h.low = search rules in
    let one : h.low ≡ h.high = search (rules, ints) in
    rw (to_z-of_z w64 h.low fl) (bar_one c.args.subject c.args.ends.now h h.low one refl)
