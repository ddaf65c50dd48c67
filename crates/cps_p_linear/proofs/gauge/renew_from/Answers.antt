use Rattle.std.proofs.Common.{sym, ap, ◌∙◌, ◌<◌, length, arith}
use Rattle.cps_literal.specs.declared.atom.Atom.{Atom}
use Rattle.cps_p_linear.proofs.Gauges.{due_more}
use Rattle.cps_p_linear.proofs.gauge.renew_from.Goals as goal

pub loop-entry-preserved : goal.loop-entry-preserved
loop-entry-preserved c =
    let s = c.args.store.now in
    let k = c.loop-entry.entry in
    let e = c.renew_on.ensures in
    let views = c.entries-entries.ensures.views in
    let l : k < length s.entries = omega (arith, c.loop-entry-test.true, views.same_length) in
    record {
      held = e.held;
      is_read = e.is_read ∙ c.loop-entry.invariant.is_read;
      due = due_more s c.args.terms.now c.renew_on.new.gauge k _ l (λ d. sym (ap (λ (a : Atom). a.subject) (views.each k d _ l).atom)) (e.due k c.loop-entry.invariant.due) e.now;
    }
