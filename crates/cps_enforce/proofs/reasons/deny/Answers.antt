-- A fact can be negated, and was true.
use Rattle.std.proofs.Common.{List, get_or, subst}
use Rattle.std.proofs.lemmas.List.{get_or_default, take_all}
use Rattle.cps_literal.specs.declared.atom.Atom.{Atom}
use Rattle.cps_enforce.specs.Reasons.{DeniesFacts}
use Rattle.cps_enforce.proofs.Tasks.{no_atom}
use Rattle.cps_enforce.proofs.Denials.{Denies-skip, Denies-more}
use Rattle.cps_enforce.proofs.Negating.{negatable_low, negatable_high, negatable_above, negatable_below}
use Rattle.cps_enforce.proofs.reasons.deny.Goals as goal
use Rattle.cps_enforce.proofs.reasons.deny.Goals.{then-not-was_always+in_ok-push, else-not-was_always}

pub loop-fact-preserved : goal.loop-fact-preserved
loop-fact-preserved c =
    let s = c.args.past.now in
    let us = c.args.facts.now in
    let i = c.loop-fact.fact-index in
    let l = c.loop-fact-test.true in
    let t = get_or us i no_atom in
    elim c.if-not-was_always.branch [
      | then-not-was_always+in_ok-push w ↦ rw (w.reason-is, w.in_ok-push.ensures.items)
          (Denies-more s us c.args.reason.now.items c.loop-fact.reason.items i t l (get_or_default us i no_atom t l) (c.requires i no_atom l) c.loop-fact.invariant w.negate.result w.negate.ensures.subject w.negate.ensures.negated)
      | else-not-was_always w ↦ rw w.reason-is
          (Denies-skip s us c.args.reason.now.items c.loop-fact.reason.items i t l (get_or_default us i no_atom t l) (c.requires i no_atom l) c.loop-fact.invariant (c.was_always.ensures w.if-not-was_always.false))
    ]

pub was_always-requires-clause-subject : goal.was_always-requires-clause-subject
was_always-requires-clause-subject c = (c.requires c.loop-fact.fact-index no_atom c.loop-fact-test.true).subject

pub was_always-requires-clause-negatable : goal.was_always-requires-clause-negatable
was_always-requires-clause-negatable c = (c.requires c.loop-fact.fact-index no_atom c.loop-fact-test.true).inside

pub was_always-requires-clause-true_now : goal.was_always-requires-clause-true_now
was_always-requires-clause-true_now c = (c.requires c.loop-fact.fact-index no_atom c.loop-fact-test.true).true_now

pub negate-requires-clause-low : goal.negate-requires-clause-low
negate-requires-clause-low c = negatable_low _ (c.requires c.loop-fact.fact-index no_atom c.loop-fact-test.true).inside

pub negate-requires-clause-high : goal.negate-requires-clause-high
negate-requires-clause-high c = negatable_high _ (c.requires c.loop-fact.fact-index no_atom c.loop-fact-test.true).inside

pub negate-requires-clause-above : goal.negate-requires-clause-above
negate-requires-clause-above c = λ _. negatable_above _ (c.requires c.loop-fact.fact-index no_atom c.loop-fact-test.true).inside

pub negate-requires-clause-below : goal.negate-requires-clause-below
negate-requires-clause-below c = λ _. negatable_below _ (c.requires c.loop-fact.fact-index no_atom c.loop-fact-test.true).inside

pub returns : goal.returns
returns c = subst (λ (us : List Atom). DeniesFacts c.args.past.now us c.args.reason.now.items c.loop-fact.reason.items) (take_all c.loop-fact.fact-index c.args.facts.now c.loop-fact-test.false) c.loop-fact.invariant
