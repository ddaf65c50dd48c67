-- Each atom that was looked at is true, but for one that may be open.
use Rattle.std.specs.Prelude.{Option}
use Rattle.std.proofs.Common.{◌+◌, ◌∙◌, ℕ, pos, sym, subst, get_or}
use Rattle.std.proofs.lemmas.List.{get_or_default}
use Rattle.cps_literal.specs.declared.atom.Atom.{Atom}
use Rattle.cps_literal.specs.declared.atom.Op.TheVariants.{Le}
use Rattle.cps_enforce.proofs.Forces.{IsForceSoFar, force_true, force_false, force_found, force_none, yes_not_no, yes_not_open, no_not_open}
use Rattle.cps_enforce.proofs.force.force_of.Goals as goal
use Rattle.cps_enforce.proofs.force.force_of.Goals.{in-Yes, in-Undecided+else-is_some}

abbrev no_atom : Atom
no_atom = record { subject = 0; op = Le; value = pos 0 }

pub returns-then-is_some : goal.returns-then-is_some
returns-then-is_some c =
    let us = c.args.enforcement.now in
    let k = c.loop-place.place in
    force_found c.args.past.now us k (get_or us k no_atom) c.loop-place-test.true (λ d. get_or_default us k no_atom d c.loop-place-test.true) c.loop-place.found (sym c.is_some.ensures ∙ c.if-is_some.true)
    (λ h. yes_not_open (sym (c.truth.ensures.yes.1 h) ∙ c.in-Undecided.is)) c.loop-place.invariant

pub loop-place-preserved : goal.loop-place-preserved
loop-place-preserved c =
    let s = c.args.past.now in
    let us = c.args.enforcement.now in
    let k = c.loop-place.place in
    let l = c.loop-place-test.true in
    let u = get_or us k no_atom in
    elim c.match-truth.branch [
      | in-Yes w ↦ subst (λ (f : Option ℕ). IsForceSoFar s us (k + 1) f) (sym w.found-is) (force_true s us k u l (λ d. get_or_default us k no_atom d l) c.loop-place.found (c.truth.ensures.yes.0 w.in-Yes.is) c.loop-place.invariant)
      | in-Undecided+else-is_some w ↦ subst (λ (f : Option ℕ). IsForceSoFar s us (k + 1) f) (sym w.found-is) (force_none s us k u l (λ d. get_or_default us k no_atom d l) c.loop-place.found (sym w.is_some.ensures ∙ w.if-is_some.false)
          (λ h. yes_not_open (sym (c.truth.ensures.yes.1 h) ∙ w.in-Undecided.is)) (λ h. no_not_open (sym (c.truth.ensures.no.1 h) ∙ w.in-Undecided.is)) c.loop-place.invariant)
    ]

pub returns-in-No : goal.returns-in-No
returns-in-No c =
    let us = c.args.enforcement.now in
    let k = c.loop-place.place in
    let l = c.loop-place-test.true in
    (k, force_false c.args.past.now us k (get_or us k no_atom) l (λ d. get_or_default us k no_atom d l) (λ h. yes_not_no (sym (c.truth.ensures.yes.1 h) ∙ c.in-No.is)) (c.truth.ensures.no.0 c.in-No.is))
