-- The core of the terms so far, and that of those that are left.
use Rattle.std.proofs.Common.{◌∙◌, ap, false, pos}
use Rattle.cps_reform.specs.declared.held.Held.{Held}
use Rattle.cps_reform.specs.Cores.{core_terms}
use Rattle.cps_reform.specs.Forms.{Form}
use Rattle.cps_reform.proofs.Loops.{core-last, core-step}
use Rattle.cps_reform.proofs.reform.Reform.core_terms.Goals as goal

abbrev none : Held
none = record { weight = 0; subject = 0; bound = pos 0; in_core = false }

pub loop-term-preserved : goal.loop-term-preserved
loop-term-preserved c =
    core-step c.deref-term-items.result.now c.args.self.now.terms c.loop-term.term-index none (core_terms c.args.self.now.terms) c.loop-term.terms.items c.push_core.new.terms.items
    (c.deref-term-items.ensures.value ∙ ap (λ (f : Form). f.terms) c.self.view_is) c.loop-term-test.true c.in_ok-push_core.ensures c.loop-term.invariant

pub returns : goal.returns
returns c =
    core-last c.deref-term-items.result.now c.args.self.now.terms c.loop-term.term-index (core_terms c.args.self.now.terms) c.loop-term.terms.items
    (c.deref-term-items.ensures.value ∙ ap (λ (f : Form). f.terms) c.self.view_is) c.loop-term-test.false c.loop-term.invariant
