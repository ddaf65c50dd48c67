-- The whole list is in force, as the window is as long as it.
use Rattle.std.proofs.Common.{rules, ◌-◌, ◌≡◌, length, ap, ◌∙◌}
use Rattle.cps_domain.specs.Window.{interval_at}
use Rattle.cps_domain.proofs.Holding.{whole_written, whole_intervals}
use Rattle.cps_domain.proofs.domain.Domain.of_list.Goals as goal

all_kept : (c : goal.After-hull_of-hull) → c.in_ok-to.to ≡ length c.args.list.items
all_kept c = search rules

pub invariant_of-result : goal.invariant_of-result
invariant_of-result c =
    let t = all_kept c in
    let w = whole_written c.hull_of-hull.result c.args.list.items c.in_ok-to.to c.requires.some t c.requires.rising
    (c.hull_of-hull.ensures.first ∙ ap (λ ps. (interval_at ps 0).0) c.as_slice.ensures.value)
    (c.hull_of-hull.ensures.last ∙ ap (λ ps. (interval_at ps (c.in_ok-to.to - 1)).1) c.as_slice.ensures.value) in
    record { domain = w.domain; first = w.first; last = w.last }

pub returns : goal.returns
returns c =
    let t = all_kept c in
    whole_intervals c.hull_of-hull.result c.args.list.items c.in_ok-to.to t (whole_written c.hull_of-hull.result c.args.list.items c.in_ok-to.to c.requires.some t c.requires.rising
    (c.hull_of-hull.ensures.first ∙ ap (λ ps. (interval_at ps 0).0) c.as_slice.ensures.value)
    (c.hull_of-hull.ensures.last ∙ ap (λ ps. (interval_at ps (c.in_ok-to.to - 1)).1) c.as_slice.ensures.value))
