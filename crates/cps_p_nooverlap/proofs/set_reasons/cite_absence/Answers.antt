-- Where the target is false the span is present, and it starts before the time.
use Rattle.std.proofs.Common.{Ok, ◌≡◌, ◌≤ℤ◌, ◌<ℤ◌, true, false, List, subst, rules, arith, FitsSigned, refl}
use Rattle.std.specs.List.{list_all}
use Rattle.std.proofs.lemmas.Int.{ints, to_z-of_z}
use mir.Syntax.{w64}
use Rattle.cps_literal.specs.declared.atom.Atom.{Atom}
use Rattle.cps_literal.specs.Truth.{atom_holds}
use Rattle.cps_p_span.specs.Citing.{Cites}
use Rattle.cps_p_span.specs.Spans.{is_present}
use Rattle.cps_p_nooverlap.specs.Crowds.{near_at, StartsBeforeUnless}
use Rattle.cps_p_span.proofs.Citing.{cites_as, cites_then, presence_slice, small_slice, cites_among, of_presence}
use Rattle.cps_p_span.proofs.Refusing.{refused}
use Rattle.cps_p_nooverlap.proofs.set_reasons.cite_absence.Goals as goal
use Rattle.cps_instance.specs.Tasks.{atom_subjects, subjects_of_span}

pub returns : goal.returns
returns c e =
    let s = c.args.past.now in
    let p = c.args.span.now in
    let a = c.args.facts.now.items in
    let b = c.cite_others.new.facts.items in
    let d = c.cite_high.new.facts.items in
    let u = c.args.target in
    let r = c.args.pushed.is_reversed in
    let g : FitsSigned w64 c.saturating_sub-sooner.result = search rules in
    let one : c.cite_others.result ≡ Ok true = search rules in
    let less : c.saturating_sub-sooner.result <ℤ c.args.pushed.time = search rules in
    let others = subst (λ (us : List Atom). Cites c.args.past.now (atom_subjects us) c.args.facts.now.items c.cite_others.new.facts.items (λ xs. atom_holds xs c.args.target ≡ false → list_all (atom_holds xs) us ≡ true)) c.as_slice.ensures (c.cite_others.ensures one) in
    let high = rw (to_z-of_z w64 c.saturating_sub-sooner.result g) at (c.cite_high.ensures e) in
    cites_as s (subjects_of_span p) a d (λ xs. (atom_holds xs u ≡ false → is_present xs p ≡ true) × (near_at r xs p ≤ℤ c.saturating_sub-sooner.result)) (λ xs. StartsBeforeUnless r xs p c.args.pushed.time u)
    (λ xs h n. (h.0 n, (let k = h.1 in omega (arith, ints))))
    (cites_then s (subjects_of_span p) a b d (λ xs. atom_holds xs u ≡ false → is_present xs p ≡ true) (λ xs. near_at r xs p ≤ℤ c.saturating_sub-sooner.result) (cites_among s (atom_subjects p.presence) (subjects_of_span p) a b (λ xs. atom_holds xs u ≡ false → is_present xs p ≡ true) (of_presence p p.presence refl) others) high)

pub returns-then-not-branch : goal.returns-then-not-branch
returns-then-not-branch c e = refused e

pub cite_others-requires-clause-subjects : goal.cite_others-requires-clause-subjects
cite_others-requires-clause-subjects c = presence_slice c.args.past.now.first c.args.span.now c.as_slice.result.now c.as_slice.ensures c.requires

pub cite_others-requires-clause-small : goal.cite_others-requires-clause-small
cite_others-requires-clause-small c = small_slice c.args.past.now.first c.args.span.now c.as_slice.result.now c.as_slice.ensures c.requires
