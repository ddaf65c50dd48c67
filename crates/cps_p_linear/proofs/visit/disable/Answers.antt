-- The enforcement atom is open, so its negation is not false, and its value can be negated.
use Rattle.std.proofs.Common.{◌<◌, pos, sym, subst, length, get_or}
use Rattle.cps_literal.specs.declared.atom.Atom.{Atom}
use Rattle.cps_literal.specs.declared.atom.Op.TheVariants.{Le}
use Rattle.cps_trail.proofs.Storing.{not_wiped}
use Rattle.cps_propagate.proofs.Noting.{Infers-noted}
use Rattle.cps_p_linear.specs.Measuring.{Asks}
use Rattle.cps_p_linear.proofs.Strong.{possible_of}
use Rattle.cps_p_linear.proofs.Explained.{measured_of}
use Rattle.cps_p_linear.proofs.Forced.{forced_off}
use Rattle.cps_p_linear.proofs.Forces.{negation_made, aside_possible, aside_false, open_true}
use Rattle.std.proofs.Common.{refl}
use Rattle.cps_p_linear.proofs.NegatableAtoms.{negatable_low, negatable_high, negatable_above, negatable_below}
use Rattle.cps_p_linear.proofs.visit.disable.Goals as goal

abbrev no_atom : Atom
no_atom = record { subject = 0; op = Le; value = pos 0 }

pub returns-in-Some-clause-aside : goal.returns-in-Some-clause-aside
returns-in-Some-clause-aside c =
    let here = c.requires.sum in
    aside_possible c.args.store.now c.args.task.now.enforcement.now c.args.place c.args.task.now.terms.now c.args.task.now.admitted.now c.requires.open
    (possible_of c.args.store.now c.args.task.now.terms.now here.values c.args.task.now.admitted.now c.args.sum.now c.in-Some.field-0 here.hulls here.ends c.in-Some.ensures)

pub returns-clause-infers : goal.returns-clause-infers
returns-clause-infers c =
    let s = c.args.store.now in
    let here = c.requires.sum in
    let m = measured_of s c.args.task.now.terms.now c.args.task.now.admitted.now here.values here.values c.args.sum.now c.requires.range here.hulls here.ends refl in
    Infers-noted c.args.number (Asks c.args.task.now) s c.imply_later.new.self c.negate-negation.result _ _ c.in_ok-imply_later.ensures.noted
    (forced_off s c.args.task.now.enforcement.now c.args.place no_atom c.negate-negation.result c.args.task.now.terms.now here.values c.args.task.now.admitted.now c.args.sum.now m c.in-None.ensures c.requires.open.inside c.requires.open.others c.requires.negatable
    c.negate-negation.ensures.subject c.negate-negation.ensures.negated)

pub returns-clause-aside : goal.returns-clause-aside
returns-clause-aside c =
    let w = c.imply_later.new.self in
    let n = c.negate-negation.result in
    let u = get_or c.args.task.now.enforcement.now c.args.place no_atom in
    let now = c.in_ok-imply_later.ensures.true_now (not_wiped _ c.in-Narrowed.is) in
    let i = returns-clause-infers c in
    let inside : u.subject < length w.first = subst (λ ds. u.subject < length ds) (sym i.first) (c.requires.negatable.subjects c.args.place no_atom c.requires.open.inside) in
    aside_false w c.args.task.now.enforcement.now c.args.place no_atom c.args.task.now.terms.now c.args.task.now.admitted.now c.requires.open.inside (c.entries-entries.ensures.sound.some_value u.subject inside)
    (negation_made w u n c.negate-negation.ensures.subject c.negate-negation.ensures.negated now)

pub unreachable-requires : goal.unreachable-requires
unreachable-requires c =
    c.requires.open.not_true no_atom (open_true c.args.store.now (get_or c.args.task.now.enforcement.now c.args.place no_atom) c.negate-negation.result c.negate-negation.ensures.subject c.negate-negation.ensures.negated (c.in_ok-imply_later.ensures.wiped.0 c.in-Wiped.is))

pub negate-negation-requires-clause-low : goal.negate-negation-requires-clause-low
negate-negation-requires-clause-low c = negatable_low (c.requires.negatable.negatable c.args.place no_atom c.requires.open.inside)

pub negate-negation-requires-clause-high : goal.negate-negation-requires-clause-high
negate-negation-requires-clause-high c = negatable_high (c.requires.negatable.negatable c.args.place no_atom c.requires.open.inside)

pub negate-negation-requires-clause-above : goal.negate-negation-requires-clause-above
negate-negation-requires-clause-above c = λ _. negatable_above (c.requires.negatable.negatable c.args.place no_atom c.requires.open.inside)

pub negate-negation-requires-clause-below : goal.negate-negation-requires-clause-below
negate-negation-requires-clause-below c = λ _. negatable_below (c.requires.negatable.negatable c.args.place no_atom c.requires.open.inside)
