-- The bounds are pairs that rise.
use Rattle.std.proofs.Common.{◌∙◌, ap}
use Rattle.cps_domain.specs.Window.{contains, is_among, pairs_of}
use Rattle.cps_subjects.proofs.Bounds.{shaped_of, among_pairs}
use Rattle.cps_subjects.proofs.domains.domain_of.Goals as goal

pub of_bounds-requires-clause-pairs : goal.of_bounds-requires-clause-pairs
of_bounds-requires-clause-pairs c = rw c.as_slice.ensures (shaped_of c.args.variable.now c.requires).pairs

pub of_bounds-requires-clause-some : goal.of_bounds-requires-clause-some
of_bounds-requires-clause-some c = rw c.as_slice.ensures (shaped_of c.args.variable.now c.requires).some

pub of_bounds-requires-clause-rising : goal.of_bounds-requires-clause-rising
of_bounds-requires-clause-rising c = rw c.as_slice.ensures (shaped_of c.args.variable.now c.requires).rises

pub returns : goal.returns
unfolding contains
returns c = λ x. ap (λ ps. is_among ps x) (c.in_ok-domain.ensures.ok ∙ ap pairs_of c.as_slice.ensures) ∙ among_pairs c.args.variable.now.domain x
