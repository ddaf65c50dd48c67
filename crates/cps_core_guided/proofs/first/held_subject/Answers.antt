-- A term is over its own subject, or over the opposite of it where its coefficient is negative.
use Rattle.std.proofs.Common.{◌<ℤ◌, pos, arith}
use Rattle.std.proofs.lemmas.Int.{ints}
use Rattle.cps_search.specs.Growing.{GrewBy}
use Rattle.cps_search.specs.Searches.{IsSoundSearch}
use Rattle.cps_reform.specs.Beginning.{StandsForTerm}
use Rattle.cps_core_guided.specs.Beginning.{opposite}
use Rattle.cps_core_guided.proofs.Opposites.{opposite-holds}
use Rattle.cps_core_guided.proofs.Results.{if_ok_both}
use Rattle.cps_core_guided.proofs.FirstForms.{itself-holds, opposite-reach, opposite-subjects}
use Rattle.cps_core_guided.proofs.first.held_subject.Goals as goal

pub grow-requires-clause-small : goal.grow-requires-clause-small
grow-requires-clause-small g c = opposite-reach c.args.frame.now.instance c.args.term.subject c.requires.sound.instance c.requires.subject

pub returns-clause-holds : goal.returns-clause-holds
returns-clause-holds g c =
    let s = c.args.frame.now in
    let t = c.grow.new.self in
    let v = c.args.term in
    let under : v.coeff <ℤ pos 0 = omega (arith, ints, c.if-term-ge0.false) in
    if_ok_both c.grow.result (λ subject. GrewBy s t (opposite v.subject) subject) (IsSoundSearch t) (StandsForTerm t.instance v)
    (λ subject grew sound. opposite-holds s.instance t.instance v subject grew.defines sound.instance c.requires.subject under)
    c.grow.ensures.grew c.grow.ensures.sound

pub returns-then-term-ge0-clause-holds : goal.returns-then-term-ge0-clause-holds
returns-then-term-ge0-clause-holds g c = itself-holds c.args.frame.now.instance c.args.term c.requires.sound.instance c.requires.subject (omega (arith, ints, c.if-term-ge0.true))

pub grow-requires-clause-subjects : goal.grow-requires-clause-subjects
grow-requires-clause-subjects g c = opposite-subjects c.args.frame.now.instance c.args.term.subject c.requires.sound.instance c.requires.subject
