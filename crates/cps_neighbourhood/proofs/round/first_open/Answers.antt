-- None before the place that is looked at is open.
use Rattle.std.proofs.Common.{◌∙◌, arith, pos, sym, true≢false}
use Rattle.cps_literal.specs.declared.atom.Atom.{Atom}
use Rattle.cps_literal.specs.declared.atom.Op.TheVariants.{Le}
use Rattle.cps_branch.specs.Choice.{IsUndecided}
use Rattle.cps_neighbourhood.proofs.FirstDecisions.{at_place, one_passed, undecided, open-there}
use Rattle.cps_neighbourhood.proofs.round.first_open.Goals as goal
use Rattle.cps_neighbourhood.proofs.round.first_open.Goals.{else-from-place-via-then-from-place+else-is_open, else-from-place-via-else-from-place}

abbrev none : Atom
none = record { subject = 0; op = Le; value = pos 0 }

pub returns-then-is_open-clause-here : goal.returns-then-is_open-clause-here
returns-then-is_open-clause-here c = at_place (λ (t : Atom). IsUndecided c.args.store.now t) c.args.decisions.now c.loop-place.place none
    (undecided c.args.store.now _ c.truth.result (c.requires c.loop-place.place none (omega (arith, c.loop-place-test.true))) c.truth.ensures.yes c.truth.ensures.no (c.is_open.ensures.0 c.if-is_open.true))

pub loop-place-preserved : goal.loop-place-preserved
loop-place-preserved c = elim c.else-from-place.branch [
  | else-from-place-via-then-from-place+else-is_open w ↦ one_passed (λ (t : Atom). IsUndecided c.args.store.now t) c.args.decisions.now c.args.from c.loop-place.place none c.loop-place-test.true
      (λ _ holds. true≢false (sym (w.is_open.ensures.1 (open-there c.args.store.now _ w.truth.result w.truth.ensures.yes w.truth.ensures.no holds)) ∙ w.if-is_open.false)) c.loop-place.invariant
  | else-from-place-via-else-from-place w ↦ one_passed (λ (t : Atom). IsUndecided c.args.store.now t) c.args.decisions.now c.args.from c.loop-place.place none c.loop-place-test.true
      (λ f _. (let before = w.if-from-place.false in absurd (omega (arith, f, before)))) c.loop-place.invariant
]
