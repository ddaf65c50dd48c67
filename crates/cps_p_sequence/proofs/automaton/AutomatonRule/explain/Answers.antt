use Rattle.std.proofs.Common.{Some}
use Rattle.cps_p_sequence.proofs.Seeing.{seen_subjects, seen_steps, seen_first, seen_gives}
use Rattle.cps_p_sequence.proofs.Growing.{explained_by}
use Rattle.cps_p_sequence.proofs.automaton.AutomatonRule.explain.Goals as goal

pub cut-requires-clause-subjects : goal.cut-requires-clause-subjects
cut-requires-clause-subjects c =
    let r = c.self.inside in
    seen_subjects c.args.self.now r.start r.finals.items r.tails.items r.heads.items r.labels.items r.exprs.items c.as_slice-subjects.result.now r.states.items r.first r.last.items c.as_slice-last.result.now r.steps.items c.as_slice-steps.result.now
    c.self.view_is c.as_slice-subjects.ensures.value c.as_slice-last.ensures.value c.as_slice-steps.ensures.value c.self.invariant.0 c.args.past.now.first c.requires.fits

pub cut-requires-clause-steps : goal.cut-requires-clause-steps
cut-requires-clause-steps c =
    let r = c.self.inside in
    seen_steps c.args.self.now r.start r.finals.items r.tails.items r.heads.items r.labels.items r.exprs.items c.as_slice-subjects.result.now r.states.items r.first r.last.items c.as_slice-last.result.now r.steps.items c.as_slice-steps.result.now
    c.self.view_is c.as_slice-subjects.ensures.value c.as_slice-last.ensures.value c.as_slice-steps.ensures.value c.self.invariant.0

pub cut-requires-clause-first : goal.cut-requires-clause-first
cut-requires-clause-first c =
    let r = c.self.inside in
    seen_first c.args.self.now r.start r.finals.items r.tails.items r.heads.items r.labels.items r.exprs.items c.as_slice-subjects.result.now r.states.items r.first r.last.items c.as_slice-last.result.now r.steps.items c.as_slice-steps.result.now
    c.self.view_is c.as_slice-subjects.ensures.value c.as_slice-last.ensures.value c.as_slice-steps.ensures.value c.self.invariant.0

pub returns : goal.returns
returns c e =
    let r = c.self.inside in
    let gives = seen_gives c.args.self.now r.start r.finals.items r.tails.items r.heads.items r.labels.items r.exprs.items c.as_slice-subjects.result.now r.states.items r.first r.last.items c.as_slice-last.result.now r.steps.items c.as_slice-steps.result.now
    c.self.view_is c.as_slice-subjects.ensures.value c.as_slice-last.ensures.value c.as_slice-steps.ensures.value c.self.invariant.0 c.args.past.now (Some c.args.target) c.cut.new.facts.items (c.in_ok-is_cut.ensures e) in
    explained_by c.args.self.now c.args.past.now c.args.target c.cut.new.facts.items gives
