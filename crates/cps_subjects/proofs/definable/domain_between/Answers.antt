-- One interval.
use Rattle.std.proofs.Common.{◌∷◌, [], ◌∙◌, ap, w64}
use Rattle.std.proofs.lemmas.Int.{to_z-of_z}
use Rattle.cps_domain.specs.Window.{contains, is_among}
use Rattle.cps_subjects.proofs.Bounds.{among_pairs}
use Rattle.cps_subjects.proofs.definable.domain_between.Goals as goal

pub returns : goal.returns
unfolding contains
returns c =
    let said = rw (to_z-of_z w64 c.args.low c.ranges.low, to_z-of_z w64 c.args.high c.ranges.high) at c.in_ok-domain.ensures.ok in
    λ x. ap (λ ps. is_among ps x) said ∙ among_pairs (c.args.low ∷ c.args.high ∷ []) x
