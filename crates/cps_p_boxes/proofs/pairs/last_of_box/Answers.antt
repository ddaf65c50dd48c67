use Rattle.std.proofs.Common.{sym, ap, ◌∙◌}
use Rattle.cps_p_span.specs.declared.seen.Seen.{Seen}
use Rattle.cps_p_span.proofs.Timing.{IfSome-map}
use Rattle.cps_p_boxes.proofs.Boxing.{sure_makes}
use Rattle.cps_p_boxes.proofs.pairs.last_of_box.Goals as goal

pub returns-then-seen_of-clause-present : goal.returns-then-seen_of-clause-present
returns-then-seen_of-clause-present c =
    let sure = sym (ap (λ (w : Seen). w.presence.sure) c.seen_of.ensures) ∙ c.if-seen_of.true in
    IfSome-map c.last_atom.result (λ u h. λ s is has. record { along = sure_makes s c.args.along.now is c.args.place u c.requires.in_along sure (h s has).subject (h s has).small; across = h s has }) c.last_atom.ensures.present

pub returns-then-seen_of-2-clause-present : goal.returns-then-seen_of-2-clause-present
returns-then-seen_of-2-clause-present c =
    let sure = sym (ap (λ (w : Seen). w.presence.sure) c.seen_of-2.ensures) ∙ c.if-seen_of-2.true in
    IfSome-map c.last_atom-then-seen_of-2.result (λ u h. λ s is has. record { along = h s is; across = sure_makes s c.args.across.now has c.args.place u c.requires.in_across sure (h s is).subject (h s is).small }) c.last_atom-then-seen_of-2.ensures.present
