-- The atoms of a reason that was asked for are false.
use Rattle.std.proofs.Common.{◌≢◌, ◌<◌, length, get_or, ap, sym, subst, Ok, List}
use Rattle.std.specs.List.{All}
use Rattle.std.proofs.lemmas.List.Elements.{Contains-get_or}
use Rattle.cps_literal.specs.declared.atom.Atom.{Atom}
use Rattle.cps_trail.specs.Trail.{IsFalseNow}
use Rattle.cps_trail.proofs.Times.{IsFalseAfter-all}
use Rattle.cps_conflict.proofs.Uniting.{none_view, read}
use Rattle.cps_conflict.proofs.Drafting.{explains_read}
use Rattle.cps_conflict.proofs.proposer.Proposer.follow.Goals as goal

pub propose_others-requires-clause-subjects : goal.propose_others-requires-clause-subjects
propose_others-requires-clause-subjects g c =
    let s = c.args.store.now in
    let e : Atom = (get_or c.entries.result.now c.args.place none_view).atom in
    let r = c.in_ok-fetch.ensures.some (ap Ok c.if-not-branch.false) in
    let x = explains_read s c.args.place c.fetch.new.reason.items e c.requires.within (read s.entries c.entries.result.now c.args.place c.entries.ensures.views c.requires.within) r.explains in
    subst (λ (us : List Atom). All (λ u. u.subject < length s.first) us) (sym c.as_slice.ensures.value) x.subjects

pub propose_others-requires-clause-false_now : goal.propose_others-requires-clause-false_now
propose_others-requires-clause-false_now g c =
    let s = c.args.store.now in
    let us = c.fetch.new.reason.items in
    let e : Atom = (get_or c.entries.result.now c.args.place none_view).atom in
    let r = c.in_ok-fetch.ensures.some (ap Ok c.if-not-branch.false) in
    let x = explains_read s c.args.place us e c.requires.within (read s.entries c.entries.result.now c.args.place c.entries.ensures.views c.requires.within) r.explains in
    subst (λ (vs : List Atom). All (λ u. u ≢ e → IsFalseNow s u) vs) (sym c.as_slice.ensures.value)
    (λ k d l ne. IsFalseAfter-all s.first s.entries c.args.place (get_or us k d) (x.others (get_or us k d) (Contains-get_or us k d l) ne))
