use Rattle.std.proofs.Common.{Some}
use Rattle.cps_p_span.proofs.Settling.{proposed}
use Rattle.cps_p_boxes.proofs.Boxing.{adds_proposed, box_denied}
use Rattle.cps_p_boxes.proofs.pairs.exclude.Goals as goal

pub returns-in_ok-push-clause-kept : goal.returns-in_ok-push-clause-kept
returns-in_ok-push-clause-kept c = λ s h. (proposed s (Some c.negate.result) c.args.found.now.items c.push.new.self.items (c.hint.result, c.in_ok-push.ensures.items) h).0

pub returns-in_ok-push-clause-given : goal.returns-in_ok-push-clause-given
returns-in_ok-push-clause-given c =
    let v = c.args.x.now in
    let w = c.args.y.now in
    adds_proposed v w (Some c.negate.result) c.args.found.now.items c.push.new.self.items
    (λ s is has b keeps. box_denied s v.spans w.spans c.args.pair.before c.in-Some.atom c.negate.result b (c.in-Some.ensures.present s is has) (c.requires.absent s is has) c.negate.ensures.subject c.negate.ensures.negated keeps) (c.hint.result, c.in_ok-push.ensures.items)
