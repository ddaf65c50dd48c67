use Rattle.std.proofs.Common.{Ok, ap}
use Rattle.cps_instance.specs.declared.task.Body.TheVariants.{Element}
use Rattle.cps_p_lookup.proofs.Missing.{target_off}
use Rattle.cps_p_lookup.proofs.places.narrow_inside.Goals as goal

pub returns-clause-before : goal.returns-clause-before
returns-clause-before c = c.in_ok-exclude_missing.ensures.before c.args.store.now

pub returns-clause-given : goal.returns-clause-given
returns-clause-given c =
    let s = c.args.store.now in
    let i = c.args.lookup.now.index in
    let t = c.args.lookup.now.target in
    let es = c.args.lookup.now.exprs.now in
    c.in_ok-exclude_missing.ensures.at (Element i t es) s (target_off s i t es c.list_values.new.values.items c.requires.fits (c.in_ok-list_values.ensures (ap Ok c.if-not-branch.false))) c.requires.given
