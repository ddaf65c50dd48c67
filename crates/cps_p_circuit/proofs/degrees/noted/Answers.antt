use Rattle.std.proofs.Common.{◌≡◌, get_or}
use Rattle.cps_literal.specs.declared.atom.Truth.TheVariants.{No, Undecided}
use Rattle.cps_p_circuit.proofs.Counting.{counted_open, counted_left}
use Rattle.cps_p_circuit.proofs.degrees.noted.Goals as goal

pub returns-in-Undecided : goal.returns-in-Undecided
returns-in-Undecided c = λ ends states v k e at is h.
    let here = c.in-Undecided.is in
    let state : get_or states k No ≡ Undecided = cc in
    counted_open ends states v k c.args.degree h at c.args.by e state

pub returns-in-No : goal.returns-in-No
returns-in-No c = λ ends states v k e at is h.
    let here = c.in-No.is in
    let state : get_or states k No ≡ No = cc in
    counted_left ends states v k c.args.degree h at state
