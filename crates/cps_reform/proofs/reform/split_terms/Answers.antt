use Rattle.std.proofs.Common.{refl, ◌∙◌}
use Rattle.cps_reform.specs.Cores.{least_weight}
use Rattle.cps_reform.proofs.Rooms.{weigh-least, weigh-pushed}
use Rattle.cps_reform.proofs.reform.split_terms.Goals as goal

pub lessen_all-requires : goal.lessen_all-requires
lessen_all-requires c =
    let ts = c.args.terms.now.items in
    let is = c.as_mut_slice.ensures.value ∙ c.in_ok-push.ensures.items in
    rw (is, c.requires.weight) (weigh-pushed (least_weight ts) ts _ refl (weigh-least ts))
