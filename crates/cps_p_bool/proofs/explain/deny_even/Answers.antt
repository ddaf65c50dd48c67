-- No literal was open, and an even number was true.
use Rattle.std.proofs.Common.{arith}
use Rattle.cps_propagate.specs.Now.{IsKnownNow}
use Rattle.cps_p_bool.proofs.AtomPlaces.{all_passed}
use Rattle.cps_p_bool.proofs.Parity.{Excludes-even}
use Rattle.cps_p_bool.proofs.explain.deny_even.Goals as goal

pub count_true-requires-clause-known : goal.count_true-requires-clause-known
count_true-requires-clause-known c = all_passed (IsKnownNow c.args.past.now) c.args.atoms.now c.seek-place.result c.seek-place.ensures.passed (omega (arith, c.if-place-atoms.false))

pub returns : goal.returns
returns c = λ _. record {
  used = c.args.atoms.now;
  excludes = Excludes-even c.args.past.now c.args.atoms.now c.count_true.result c.count_true.ensures.count c.if-count_true-eq1.false;
  denies = c.in_ok-deny_antecedents.ensures;
}

pub seek-place-requires-clause-subjects : goal.seek-place-requires-clause-subjects
seek-place-requires-clause-subjects c = λ k d l. (c.requires.atoms_fit k d l).subject
