-- Each fact's negation is added; the facts that were seen are all facts at the end.
use Rattle.std.proofs.Common.{List, refl, get_or}
use Rattle.cps_literal.specs.declared.atom.Atom.{Atom}
use Rattle.cps_propagate.specs.Reasons.{Refutes}
use Rattle.cps_propagate.proofs.Past.{none}
use Rattle.cps_propagate.proofs.Explaining.{Refutes-none, Refutes-more}
use Rattle.cps_propagate.proofs.Ending.{at_end}
use Rattle.cps_propagate.proofs.Negating.{negatable_low, negatable_high, negatable_above, negatable_below}
use Rattle.cps_propagate.proofs.explain.deny.Goals as goal

pub loop-fact-init : goal.loop-fact-init
loop-fact-init c = Refutes-none c.args.reason.now.items

pub negate-requires-clause-low : goal.negate-requires-clause-low
negate-requires-clause-low c = negatable_low _ (c.requires c.loop-fact.fact-index none c.loop-fact-test.true)

pub negate-requires-clause-high : goal.negate-requires-clause-high
negate-requires-clause-high c = negatable_high _ (c.requires c.loop-fact.fact-index none c.loop-fact-test.true)

pub negate-requires-clause-above : goal.negate-requires-clause-above
negate-requires-clause-above c = λ _. negatable_above _ (c.requires c.loop-fact.fact-index none c.loop-fact-test.true)

pub negate-requires-clause-below : goal.negate-requires-clause-below
negate-requires-clause-below c = λ _. negatable_below _ (c.requires c.loop-fact.fact-index none c.loop-fact-test.true)

pub loop-fact-preserved : goal.loop-fact-preserved
loop-fact-preserved c =
    rw c.in_ok-push.ensures.items (
    Refutes-more _ _ c.args.facts.now c.loop-fact.fact-index none (get_or c.args.facts.now c.loop-fact.fact-index none) c.negate.result c.loop-fact-test.true refl
    c.negate.ensures.subject c.negate.ensures.negated c.loop-fact.invariant)

pub returns : goal.returns
returns c =
    at_end (λ (seen : List Atom). Refutes c.args.reason.now.items c.loop-fact.reason.items seen) c.args.facts.now c.loop-fact.fact-index c.loop-fact-test.false c.loop-fact.invariant
