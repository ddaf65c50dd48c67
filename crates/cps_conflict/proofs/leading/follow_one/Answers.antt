-- A marked entry that is no decision has its reason followed.
use Rattle.std.proofs.Common.{◌≢◌, ◌<◌, length, get_or, ap, sym, subst, Ok, List}
use Rattle.std.specs.List.{All}
use Rattle.std.proofs.lemmas.List.Elements.{Contains-get_or}
use Rattle.cps_literal.specs.declared.atom.Atom.{Atom}
use Rattle.cps_trail.specs.Trail.{IsFalseNow}
use Rattle.cps_trail.proofs.Times.{IsFalseAfter-all}
use Rattle.cps_conflict.specs.Conflicts.{AreTrueReasons}
use Rattle.cps_conflict.specs.Drafts.{IsReasonOf}
use Rattle.cps_conflict.specs.Leading.{IsFetched}
use Rattle.cps_conflict.proofs.Uniting.{none_view, read}
use Rattle.cps_conflict.proofs.Drafting.{explains_read}
use Rattle.cps_conflict.proofs.Walking.{followed-decision, followed-reason}
use Rattle.cps_conflict.proofs.leading.follow_one.Goals as goal

pub mark_reason-requires-clause-subjects : goal.mark_reason-requires-clause-subjects
mark_reason-requires-clause-subjects g c =
    let s = c.args.store.now in
    let e : Atom = (get_or c.entries.result.now c.args.place none_view).atom in
    let r = c.in_ok-fetch.ensures.some (ap Ok c.if-not-branch.false) in
    let x = explains_read s c.args.place c.fetch.new.reason.items e c.requires.within (read s.entries c.entries.result.now c.args.place c.entries.ensures.views c.requires.within) r.explains in
    subst (λ (us : List Atom). All (λ u. u.subject < length s.first) us) (sym c.as_slice.ensures.value) x.subjects

pub mark_reason-requires-clause-false_now : goal.mark_reason-requires-clause-false_now
mark_reason-requires-clause-false_now g c =
    let s = c.args.store.now in
    let us = c.fetch.new.reason.items in
    let e : Atom = (get_or c.entries.result.now c.args.place none_view).atom in
    let r = c.in_ok-fetch.ensures.some (ap Ok c.if-not-branch.false) in
    let x = explains_read s c.args.place us e c.requires.within (read s.entries c.entries.result.now c.args.place c.entries.ensures.views c.requires.within) r.explains in
    subst (λ (vs : List Atom). All (λ u. u ≢ e → IsFalseNow s u) vs) (sym c.as_slice.ensures.value)
    (λ k d l ne. IsFalseAfter-all s.first s.entries c.args.place (get_or us k d) (x.others (get_or us k d) (Contains-get_or us k d l) ne))

pub returns-clause-followed : goal.returns-clause-followed
returns-clause-followed g c =
    let s = c.args.store.now in
    let made = IsFetched (g.E.Explain.makes c.args.explain.now s) s in
    let holds = AreTrueReasons (g.E.Explain.makes c.args.explain.now c.args.store.now) c.args.store.now in
    let e : Atom = (get_or c.entries.result.now c.args.place none_view).atom in
    let is = read s.entries c.entries.result.now c.args.place c.entries.ensures.views c.requires.within in
    let taken = ap Ok c.if-not-branch.false in
    followed-reason made holds s c.args.place c.as_slice.result.now e c.args.marks.now c.mark_reason.new.marks c.requires.within is
    (subst (λ (us : List Atom). IsReasonOf holds s c.args.place us) (sym c.as_slice.ensures.value) (c.in_ok-fetch.ensures.some taken))
    (subst (λ (us : List Atom). made c.args.place us) (sym c.as_slice.ensures.value) (c.in_ok-fetch.ensures.fetched taken))
    c.if-not-marks-place.false c.mark_reason.ensures

pub returns-then-not-branch-clause-followed : goal.returns-then-not-branch-clause-followed
returns-then-not-branch-clause-followed g c =
    let s = c.args.store.now in
    followed-decision (IsFetched (g.E.Explain.makes c.args.explain.now s) s) (AreTrueReasons (g.E.Explain.makes c.args.explain.now s) s) s c.args.marks.now c.args.place (c.in_ok-fetch.ensures.none (ap Ok c.if-not-branch.true))
