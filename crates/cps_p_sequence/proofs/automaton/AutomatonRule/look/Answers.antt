use Rattle.cps_p_sequence.proofs.Seeing.{seen_subjects, seen_steps, seen_first, seen_followed, seen_rests, seen_possible, looked_some, looked_none}
use Rattle.cps_p_sequence.proofs.automaton.AutomatonRule.look.Goals as goal

pub look_at-requires-clause-subjects : goal.look_at-requires-clause-subjects
look_at-requires-clause-subjects c =
    let r = c.self.inside in
    seen_subjects c.args.self.now r.start r.finals.items r.tails.items r.heads.items r.labels.items r.exprs.items c.as_slice-subjects.result.now r.states.items r.first r.last.items c.as_slice-last.result.now r.steps.items c.as_slice-steps.result.now
    c.self.view_is c.as_slice-subjects.ensures.value c.as_slice-last.ensures.value c.as_slice-steps.ensures.value c.self.invariant.0 c.args.store.now.first c.requires.fits

pub look_at-requires-clause-steps : goal.look_at-requires-clause-steps
look_at-requires-clause-steps c =
    let r = c.self.inside in
    seen_steps c.args.self.now r.start r.finals.items r.tails.items r.heads.items r.labels.items r.exprs.items c.as_slice-subjects.result.now r.states.items r.first r.last.items c.as_slice-last.result.now r.steps.items c.as_slice-steps.result.now
    c.self.view_is c.as_slice-subjects.ensures.value c.as_slice-last.ensures.value c.as_slice-steps.ensures.value c.self.invariant.0

pub look_at-requires-clause-first : goal.look_at-requires-clause-first
look_at-requires-clause-first c =
    let r = c.self.inside in
    seen_first c.args.self.now r.start r.finals.items r.tails.items r.heads.items r.labels.items r.exprs.items c.as_slice-subjects.result.now r.states.items r.first r.last.items c.as_slice-last.result.now r.steps.items c.as_slice-steps.result.now
    c.self.view_is c.as_slice-subjects.ensures.value c.as_slice-last.ensures.value c.as_slice-steps.ensures.value c.self.invariant.0

pub look_at-requires-clause-alphabet : goal.look_at-requires-clause-alphabet
look_at-requires-clause-alphabet c =
    let covers = c.self.invariant.1 in
    rw (c.as_slice-steps.ensures.value, c.as_slice-alphabet.ensures.value) covers

pub returns-then-possible-clause-given : goal.returns-then-possible-clause-given
returns-then-possible-clause-given c =
    let r = c.self.inside in
    let both = looked_some c.args.store.now c.as_slice-steps.result.now r.first c.as_slice-last.result.now c.as_slice-subjects.result.now c.look_at.new.found.items c.in_ok-possible.possible c.if-possible.true c.in_ok-possible.ensures in
    both.1.given c.args.self.now (seen_followed c.args.self.now r.start r.finals.items r.tails.items r.heads.items r.labels.items r.exprs.items c.as_slice-subjects.result.now r.states.items r.first r.last.items c.as_slice-last.result.now r.steps.items c.as_slice-steps.result.now
    c.self.view_is c.as_slice-subjects.ensures.value c.as_slice-last.ensures.value c.as_slice-steps.ensures.value c.self.invariant.0 c.args.store.now c.requires.fits)

pub returns-then-possible-clause-seen : goal.returns-then-possible-clause-seen
returns-then-possible-clause-seen c =
    let r = c.self.inside in
    let both = looked_some c.args.store.now c.as_slice-steps.result.now r.first c.as_slice-last.result.now c.as_slice-subjects.result.now c.look_at.new.found.items c.in_ok-possible.possible c.if-possible.true c.in_ok-possible.ensures in
    seen_possible c.args.self.now r.start r.finals.items r.tails.items r.heads.items r.labels.items r.exprs.items c.as_slice-subjects.result.now r.states.items r.first r.last.items c.as_slice-last.result.now r.steps.items c.as_slice-steps.result.now
    c.self.view_is c.as_slice-subjects.ensures.value c.as_slice-last.ensures.value c.as_slice-steps.ensures.value c.self.invariant.0 c.args.store.now both.0

pub returns-then-possible-clause-rest : goal.returns-then-possible-clause-rest
returns-then-possible-clause-rest c e all =
    let r = c.self.inside in
    let both = looked_some c.args.store.now c.as_slice-steps.result.now r.first c.as_slice-last.result.now c.as_slice-subjects.result.now c.look_at.new.found.items c.in_ok-possible.possible c.if-possible.true c.in_ok-possible.ensures in
    seen_rests c.args.self.now r.start r.finals.items r.tails.items r.heads.items r.labels.items r.exprs.items c.as_slice-subjects.result.now r.states.items r.first r.last.items c.as_slice-last.result.now r.steps.items c.as_slice-steps.result.now
    c.self.view_is c.as_slice-subjects.ensures.value c.as_slice-last.ensures.value c.as_slice-steps.ensures.value c.self.invariant.0 c.args.store.now both.0 (both.1.ends all)

pub returns-clause-given : goal.returns-clause-given
returns-clause-given c =
    let r = c.self.inside in
    let dead = looked_none c.args.store.now c.as_slice-steps.result.now r.first c.as_slice-last.result.now c.as_slice-subjects.result.now c.look_at.new.found.items c.in_ok-possible.possible c.if-possible.false c.in_ok-possible.ensures in
    dead.given c.args.self.now (seen_followed c.args.self.now r.start r.finals.items r.tails.items r.heads.items r.labels.items r.exprs.items c.as_slice-subjects.result.now r.states.items r.first r.last.items c.as_slice-last.result.now r.steps.items c.as_slice-steps.result.now
    c.self.view_is c.as_slice-subjects.ensures.value c.as_slice-last.ensures.value c.as_slice-steps.ensures.value c.self.invariant.0 c.args.store.now c.requires.fits)

pub returns-clause-seen : goal.returns-clause-seen
returns-clause-seen c =
    let r = c.self.inside in
    let dead = looked_none c.args.store.now c.as_slice-steps.result.now r.first c.as_slice-last.result.now c.as_slice-subjects.result.now c.look_at.new.found.items c.in_ok-possible.possible c.if-possible.false c.in_ok-possible.ensures in
    record {
      at = dead.nowhere c.args.self.now (seen_followed c.args.self.now r.start r.finals.items r.tails.items r.heads.items r.labels.items r.exprs.items c.as_slice-subjects.result.now r.states.items r.first r.last.items c.as_slice-last.result.now r.steps.items c.as_slice-steps.result.now
          c.self.view_is c.as_slice-subjects.ensures.value c.as_slice-last.ensures.value c.as_slice-steps.ensures.value c.self.invariant.0 c.args.store.now c.requires.fits);
    }
