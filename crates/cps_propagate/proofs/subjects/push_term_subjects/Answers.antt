-- Each term that is seen adds its subject; all were seen at the end.
use Rattle.std.proofs.Common.{◌≡◌, ◌++◌, List, pos}
use Rattle.cps_instance.specs.declared.term.Term.{Term}
use Rattle.cps_instance.specs.Terms.{term_subjects}
use Rattle.cps_propagate.proofs.Ending.{at_end, gains_more}
use Rattle.cps_propagate.proofs.subjects.push_term_subjects.Goals as goal

pub loop-term-preserved : goal.loop-term-preserved
loop-term-preserved c =
    gains_more (λ (t : Term). t.subject) c.args.terms.now c.loop-term.term-index (record { coeff = pos 0; subject = 0 }) c.args.subjects.now.items c.loop-term.subjects.items c.push.new.self.items c.loop-term-test.true c.in_ok-push.ensures.items c.loop-term.invariant

pub returns : goal.returns
returns c = at_end (λ (seen : List Term). c.loop-term.subjects.items ≡ c.args.subjects.now.items ++ term_subjects seen) c.args.terms.now c.loop-term.term-index c.loop-term-test.false c.loop-term.invariant
