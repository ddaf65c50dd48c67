use Rattle.std.proofs.Common.{◌<◌, sym, subst, length, get_or}
use Rattle.cps_instance.specs.Tasks.{HoldsTask}
use Rattle.cps_trail.proofs.Storing.{not_wiped}
use Rattle.cps_propagate.proofs.Noting.{Infers-noted}
use Rattle.cps_rule.specs.declared.rule.Look.{Look}
use Rattle.cps_rule.specs.Rules.{IsSeen}
use Rattle.cps_enforce.specs.Reasons.{task_of}
use Rattle.cps_enforce.proofs.Tasks.{no_atom, fits_rule, fits_negatable, forced_off, aside_possible, aside_false, seen_possible}
use Rattle.cps_enforce.proofs.Forces.{negation_made, open_true}
use Rattle.cps_enforce.proofs.settle.disable.Goals as goal

pub look-requires : goal.look-requires
look-requires g c = record { fits = fits_rule c.args.store.now.first c.args.header.now.enforcement.now (g.R.Rule.body c.args.rule.now) c.requires.fits }

pub returns-in-Possible-clause-aside : goal.returns-in-Possible-clause-aside
returns-in-Possible-clause-aside g c =
    let b = g.R.Rule.body c.args.rule.now in
    aside_possible c.args.store.now c.args.header.now.enforcement.now c.args.place b c.requires.open (seen_possible b c.args.store.now _ c.in-Possible.is c.in_ok-look.ensures.seen)

pub imply_later-requires : goal.imply_later-requires
imply_later-requires g c =
    let b = g.R.Rule.body c.args.rule.now in
    let us = c.args.header.now.enforcement.now in
    record { subject = subst (λ i. i < length c.args.store.now.first) (sym c.negate-negation.ensures.subject) ((fits_negatable c.args.store.now.first us b c.requires.fits).subjects c.args.place no_atom c.requires.open.inside) }

pub returns-clause-infers : goal.returns-clause-infers
returns-clause-infers g c =
    let b = g.R.Rule.body c.args.rule.now in
    let h = c.args.header.now in
    let s = c.args.store.now in
    Infers-noted h.number (HoldsTask (task_of h.enforcement.now b)) s c.imply_later.new.self c.negate-negation.result _ _ c.in_ok-imply_later.ensures.noted
    (forced_off s h.enforcement.now c.args.place c.negate-negation.result b c.requires.open.inside c.negate-negation.ensures.subject c.negate-negation.ensures.negated c.requires.fits c.requires.open
    (subst (λ (l : Look). IsSeen b s l) c.in-Impossible.is c.in_ok-look.ensures.seen))

pub returns-clause-aside : goal.returns-clause-aside
returns-clause-aside g c =
    let b = g.R.Rule.body c.args.rule.now in
    let us = c.args.header.now.enforcement.now in
    let w = c.imply_later.new.self in
    let u = get_or us c.args.place no_atom in
    let now = c.in_ok-imply_later.ensures.true_now (not_wiped _ c.in-Narrowed.is) in
    let i = returns-clause-infers g c in
    let inside : u.subject < length w.first = subst (λ ds. u.subject < length ds) (sym i.first) ((fits_negatable c.args.store.now.first us b c.requires.fits).subjects c.args.place no_atom c.requires.open.inside) in
    aside_false w us c.args.place b c.requires.open.inside (c.entries-entries.ensures.sound.some_value u.subject inside)
    (negation_made w u c.negate-negation.result c.negate-negation.ensures.subject c.negate-negation.ensures.negated now)

pub unreachable-requires : goal.unreachable-requires
unreachable-requires g c =
    c.requires.open.not_true no_atom (open_true c.args.store.now (get_or c.args.header.now.enforcement.now c.args.place no_atom) c.negate-negation.result c.negate-negation.ensures.subject c.negate-negation.ensures.negated (c.in_ok-imply_later.ensures.wiped.0 c.in-Wiped.is))
