-- The reason forces the entry's atom.
use Rattle.std.specs.Prelude.{All}
use Rattle.std.proofs.Common.{◌≡◌, ◌≢◌, ◌⊎◌, ◌<◌, ◌++◌, ◌∷◌, [], true, length, get_or, set, ap, sym, ◌∙◌, subst, Ok, List, arith}
use Rattle.std.proofs.lemmas.List.Elements.{Contains-get_or}
use Rattle.cps_literal.specs.declared.atom.Atom.{Atom}
use Rattle.cps_trail.specs.Trail.{IsFalseNow}
use Rattle.cps_trail.proofs.Times.{IsFalseAfter-all}
use Rattle.cps_conflict.specs.declared.certifier.Antecedent.{Antecedent}
use Rattle.cps_conflict.specs.Leading.{IsFetched}
use Rattle.cps_conflict.specs.Antecedents.{AreForcedSoFar, IsRefuted}
use Rattle.cps_conflict.proofs.Uniting.{none_view, read}
use Rattle.cps_conflict.proofs.Drafting.{explains_read}
use Rattle.cps_conflict.proofs.Certifying.{Forced-more}
use Rattle.cps_conflict.proofs.certifier.Certifier.add.Goals as goal

pub is_unit-requires-clause-subjects : goal.is_unit-requires-clause-subjects
is_unit-requires-clause-subjects g c =
    let s = c.args.store.now in
    let e : Atom = (get_or c.entries-2.result.now c.args.place none_view).atom in
    let l : c.args.place < length s.entries = omega (arith, c.if-place-entries.false, c.entries.ensures.views.same_length) in
    let r = c.in_ok-fetch.ensures.some (ap Ok c.if-not-branch.false) in
    let x = explains_read s c.args.place c.fetch.new.reason.items e l (read s.entries c.entries-2.result.now c.args.place c.entries-2.ensures.views l) r.explains in
    subst (λ (us : List Atom). All (λ u. u.subject < length s.first) us) (sym c.as_slice.ensures.value) x.subjects

pub is_unit-requires-clause-false_now : goal.is_unit-requires-clause-false_now
is_unit-requires-clause-false_now g c =
    let s = c.args.store.now in
    let us = c.fetch.new.reason.items in
    let e : Atom = (get_or c.entries-2.result.now c.args.place none_view).atom in
    let l : c.args.place < length s.entries = omega (arith, c.if-place-entries.false, c.entries.ensures.views.same_length) in
    let r = c.in_ok-fetch.ensures.some (ap Ok c.if-not-branch.false) in
    let x = explains_read s c.args.place us e l (read s.entries c.entries-2.result.now c.args.place c.entries-2.ensures.views l) r.explains in
    subst (λ (vs : List Atom). All (λ u. u ≢ e → IsFalseNow s u) vs) (sym c.as_slice.ensures.value)
    (λ k d h ne. IsFalseAfter-all s.first s.entries c.args.place (get_or us k d) (x.others (get_or us k d) (Contains-get_or us k d h) ne))

pub returns-clause-so_far : goal.returns-clause-so_far
returns-clause-so_far g c =
    let s = c.args.store.now in
    let made = IsFetched (g.E.Explain.makes c.args.explain.now s) s in
    let clause = c.args.self.now.clause.items in
    let known = c.args.self.now.known.items in
    let found = c.args.found.now.items in
    let us = c.fetch.new.reason.items in
    let e : Atom = (get_or c.entries-2.result.now c.args.place none_view).atom in
    let l : c.args.place < length s.entries = omega (arith, c.if-place-entries.false, c.entries.ensures.views.same_length) in
    let is = read s.entries c.entries-2.result.now c.args.place c.entries-2.ensures.views l in
    let taken = ap Ok c.if-not-branch.false in
    let x = explains_read s c.args.place us e l is (c.in_ok-fetch.ensures.some taken).explains in
    let others = subst (λ (vs : List Atom). All (λ u. (u ≡ e) ⊎ IsRefuted s clause known u) vs) c.as_slice.ensures.value (c.is_unit.ensures c.if-not-is_unit.false) in
    let reason : c.in_ok-reason.reason ≡ us = c.in_ok-reason.ensures.ok ∙ c.as_slice-2.ensures.value in
    subst (λ (fs : List Antecedent). AreForcedSoFar made s clause (set known c.args.place true) fs)
    (sym (c.in_ok-push.ensures.items ∙ ap (λ (r : List Atom). found ++ record { entry = c.args.place; reason = r } ∷ []) reason))
    (Forced-more made s clause known found c.args.place us e c.requires.so_far l is (c.in_ok-fetch.ensures.fetched taken) x.has others)
