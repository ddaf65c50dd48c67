-- The entry itself where it moves an end, and else what was so before it.
use Rattle.std.proofs.Common.{length, arith, ap, refl, sym, ◌∙◌}
use Rattle.cps_literal.specs.declared.atom.Atom.{Atom}
use Rattle.cps_literal.specs.Truth.{meets}
use Rattle.cps_domain.specs.Window.{contains}
use Rattle.cps_trail.specs.Trail.{admits}
use Rattle.cps_trail.proofs.Keeping.{hull_same}
use Rattle.cps_trail.proofs.LastEnds.{end_here, end_stays, end_whole}
use Rattle.cps_trail.proofs.Walks.{last_all}
use Rattle.cps_trail.proofs.history.History.next_end.Goals as goal

pub returns-then-moves_end : goal.returns-then-moves_end
returns-then-moves_end c = λ e same. end_here c.args.self.now.first c.args.self.now.entries e c.args.atom.subject c.args.count (ap (λ (t : Atom). t.subject) same) c.requires.count

pub returns : goal.returns
returns c = λ e same.
    let es = c.args.self.now.entries in
    let i = c.args.atom.subject in
    let kept = c.if-moves_end.ensures.0 refl in
    let last = end_whole c.args.self.now.first es c.args.atom.subject c.end_at.result (c.end_at.ensures (length es) c.args.atom.subject (omega arith) (last_all es c.args.atom.subject c.last_on.result c.last_on.ensures)) in
    let ends = hull_same (contains c.domain.result.now) (admits c.args.self.now.first es c.args.atom.subject) c.hull_of.result (λ x. sym (c.domain.ensures x)) c.hull_of.ensures in
    end_stays c.args.self.now.first es e c.args.atom.subject c.end_at.result c.hull_of.result (ap (λ (t : Atom). t.subject) same) last ends
    (ap (λ (t : Atom). meets t.op t.value c.hull_of.result.0) same ∙ kept.0) (ap (λ (t : Atom). meets t.op t.value c.hull_of.result.1) same ∙ kept.1)
