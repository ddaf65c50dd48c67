use Rattle.std.proofs.Common.{Ok, ◌≡◌, ◌<◌, true, [], length, rules, sym, subst}
use Rattle.cps_p_nooverlap.specs.declared.crowd.PushedSpan.{PushedSpan}
use Rattle.cps_p_span.specs.Citing.{Cites}
use Rattle.cps_p_nooverlap.specs.Crowds.{StartsFrom}
use Rattle.cps_p_nooverlap.proofs.Claims.{reasoned_absence}
use Rattle.cps_p_nooverlap.proofs.set_reasons.give_absence.Goals as goal
use Rattle.cps_instance.specs.Tasks.{span_subjects}

pub returns-else-not-branch-2 : goal.returns-else-not-branch-2
returns-else-not-branch-2 c =
    let one : c.cite_push.result ≡ Ok true = search rules in
    let two : c.cite_absence.result ≡ Ok true = search rules in
    let none : c.clear.new.self.items ≡ [] = c.clear.ensures.items in
    let l : c.pushed-pushed.result.place < length c.args.spans.now = search rules in
    let pushes = subst (λ (q : PushedSpan). Cites c.args.past.now (span_subjects c.args.spans.now) c.clear.new.self.items c.cite_push.new.facts.items (λ xs. StartsFrom q.is_reversed xs c.args.spans.now q.place q.time)) (sym c.pushed-pushed.ensures) (c.cite_push.ensures one) in
    reasoned_absence c.args.past.now c.args.spans.now c.clear.new.self.items c.cite_push.new.facts.items c.cite_absence.new.facts.items c.pushed-pushed.result.place c.pushed-pushed.result.is_reversed c.pushed-pushed.result.time c.index-spans-pushed.result c.in-Some.target c.requires l c.index-spans-pushed.is none
    pushes (c.cite_absence.ensures two) c.in-Some.ensures
