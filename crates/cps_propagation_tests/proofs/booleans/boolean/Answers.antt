use Rattle.std.proofs.Common.{◌≡◌, refl, sym, subst}
use Rattle.cps_instance.specs.declared.task.Task.{Task}
use Rattle.cps_instance.specs.Fitting.{IsFitting}
use Rattle.cps_propagation_tests.specs.Bits.{four_bits}
use Rattle.cps_propagation_tests.proofs.BitFits.{bits_fit}
use Rattle.cps_propagation_tests.proofs.booleans.boolean.Goals as goal

pub returns : goal.returns
returns c =
    let task : Task = record { enforcement = c.args.enforcement.now; body = c.in_ok-body.body } in
    let same : c.in_ok-propagator.propagator ≡ task = cc (c.in_ok-propagator.ensures, c.from_vec.ensures, c.in_ok-from_slice.ensures.items) in
    subst (λ (t : Task). IsFitting four_bits t) (sym same) (bits_fit four_bits task refl c.requires.enforcement c.in_ok-body.ensures)
