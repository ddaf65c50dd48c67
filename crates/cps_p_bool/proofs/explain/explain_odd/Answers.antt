-- The literals before and after the open one were known, so their parity gives it.
use Rattle.std.proofs.Common.{◌<◌, length, arith, ℕ, sym, subst}
use Rattle.cps_instance.specs.declared.task.Body.TheVariants.{BoolXor}
use Rattle.cps_propagate.specs.Now.{IsKnownNow}
use Rattle.cps_propagate.proofs.Past.{none}
use Rattle.cps_p_bool.proofs.Parity.{known_before, known_after, Gives-even, Gives-odd}
use Rattle.cps_p_bool.proofs.NegatableLiterals.{negatable_low, negatable_high, negatable_above, negatable_below}
use Rattle.cps_p_bool.proofs.AtomPlaces.{all_before, all_after}
use Rattle.cps_p_bool.specs.Denying.{IsFit}
use Rattle.cps_p_bool.proofs.explain.explain_odd.Goals as goal

pub count_true-before-requires-clause-known : goal.count_true-before-requires-clause-known
count_true-before-requires-clause-known c = known_before (IsKnownNow c.args.past.now) c.args.atoms.now c.seek-place.result c.seek-place.ensures.within c.seek-place.ensures.passed

pub count_true-after-requires-clause-known : goal.count_true-after-requires-clause-known
count_true-after-requires-clause-known c = known_after (IsKnownNow c.args.past.now) c.args.atoms.now c.seek-place.result c.seek-second.result c.seek-second.ensures.passed (omega (arith, c.if-second-atoms.false))

pub returns-then-before-after-eq0 : goal.returns-then-before-after-eq0
returns-then-before-after-eq0 c = λ is.
    let l : c.seek-place.result < length c.args.atoms.now = omega (arith, c.if-place-atoms.false, c.seek-place.ensures.within) in
    c.explain_as.ensures is (BoolXor c.args.atoms.now)
    (Gives-even c.args.past.now c.args.atoms.now c.seek-place.result none c.count_true-before.result c.count_true-after.result l c.count_true-before.ensures.count c.count_true-after.ensures.count c.args.enforcement.now c.requires.enforced c.if-before-after-eq0.true)

pub returns : goal.returns
returns c = λ is.
    let l : c.seek-place.result < length c.args.atoms.now = omega (arith, c.if-place-atoms.false, c.seek-place.ensures.within) in
    c.explain_as-2.ensures is (BoolXor c.args.atoms.now)
    (Gives-odd c.args.past.now c.args.atoms.now c.seek-place.result none c.count_true-before.result c.count_true-after.result l c.count_true-before.ensures.count c.count_true-after.ensures.count c.args.enforcement.now c.negate-given.result c.requires.enforced c.if-before-after-eq0.false
    (record { subject = c.negate-given.ensures.subject; negated = c.negate-given.ensures.negated }))

pub negate-given-requires-clause-low : goal.negate-given-requires-clause-low
negate-given-requires-clause-low c = negatable_low (c.requires.atoms_fit c.seek-place.result none (omega (arith, c.if-place-atoms.false, c.seek-place.ensures.within)))

pub negate-given-requires-clause-high : goal.negate-given-requires-clause-high
negate-given-requires-clause-high c = negatable_high (c.requires.atoms_fit c.seek-place.result none (omega (arith, c.if-place-atoms.false, c.seek-place.ensures.within)))

pub negate-given-requires-clause-above : goal.negate-given-requires-clause-above
negate-given-requires-clause-above c = λ _. negatable_above (c.requires.atoms_fit c.seek-place.result none (omega (arith, c.if-place-atoms.false, c.seek-place.ensures.within)))

pub negate-given-requires-clause-below : goal.negate-given-requires-clause-below
negate-given-requires-clause-below c = λ _. negatable_below (c.requires.atoms_fit c.seek-place.result none (omega (arith, c.if-place-atoms.false, c.seek-place.ensures.within)))

pub seek-place-requires-clause-subjects : goal.seek-place-requires-clause-subjects
seek-place-requires-clause-subjects c = λ k d l. (c.requires.atoms_fit k d l).subject

pub seek-second-requires-clause-subjects : goal.seek-second-requires-clause-subjects
seek-second-requires-clause-subjects c = λ k d l. (c.requires.atoms_fit k d l).subject

pub count_true-before-requires-clause-fits : goal.count_true-before-requires-clause-fits
count_true-before-requires-clause-fits c = all_before (IsFit c.args.past.now.first) c.args.atoms.now c.seek-place.result c.requires.atoms_fit

pub count_true-after-requires-clause-fits : goal.count_true-after-requires-clause-fits
count_true-after-requires-clause-fits c = all_after (IsFit c.args.past.now.first) c.args.atoms.now c.seek-place.result c.requires.atoms_fit

pub explain_as-requires-clause-subject : goal.explain_as-requires-clause-subject
explain_as-requires-clause-subject c = (c.requires.atoms_fit c.seek-place.result none (omega (arith, c.if-place-atoms.false, c.seek-place.ensures.within))).subject

pub explain_as-requires-2-clause-subject : goal.explain_as-requires-2-clause-subject
explain_as-requires-2-clause-subject c = subst (λ (k : ℕ). k < length c.args.past.now.first) (sym c.negate-given.ensures.subject) (c.requires.atoms_fit c.seek-place.result none (omega (arith, c.if-place-atoms.false, c.seek-place.ensures.within))).subject
