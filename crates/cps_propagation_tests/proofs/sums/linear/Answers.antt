use Rattle.std.proofs.Common.{◌≡◌, refl, sym, subst}
use Rattle.cps_instance.specs.declared.task.Task.{Task}
use Rattle.cps_instance.specs.Fitting.{IsFitting}
use Rattle.cps_propagation_tests.specs.Sums.{five_domains, linear_task}
use Rattle.cps_propagation_tests.proofs.SumFits.{sums_fit}
use Rattle.cps_propagation_tests.proofs.sums.linear.Goals as goal

pub returns : goal.returns
returns c =
    let same : c.in_ok-linear.linear.task ≡ linear_task c.args.enforcement.now c.args.terms.now c.args.bounds.now = cc (c.in_ok-linear.ensures, c.from_vec.ensures, c.from_vec-2.ensures, c.from_vec-3.ensures, c.in_ok-from_slice.ensures.items, c.in_ok-from_slice-2.ensures.items, c.in_ok-from_slice-3.ensures.items) in
    subst (λ (t : Task). IsFitting five_domains t) (sym same) (sums_fit five_domains c.args.enforcement.now c.args.terms.now c.args.bounds.now refl c.requires.enforcement c.requires.terms c.requires.bounds)
