use Rattle.std.proofs.Common.{◌<◌, length, arith}
use Rattle.cps_instance.specs.declared.task.Body.TheVariants.{Element}
use Rattle.cps_p_lookup.proofs.Missing.{target_beside, expr_beside}
use Rattle.cps_p_lookup.proofs.places.align.Goals as goal

pub returns-clause-before : goal.returns-clause-before
returns-clause-before c = λ trues. c.in_ok-copy_holes.ensures.before c.args.store.now (c.in_ok-copy_holes-2.ensures.before c.args.store.now trues)

pub returns-clause-given : goal.returns-clause-given
returns-clause-given c =
    let s = c.args.store.now in
    let i = c.args.lookup.now.index in
    let t = c.args.lookup.now.target in
    let es = c.args.lookup.now.exprs.now in
    let scan = c.args.scan in
    let one = c.requires.one in
    let some : 0 < scan.open = omega arith in
    let inside : scan.last < length es = (c.requires.scanned.last.last some).within in
    c.in_ok-copy_holes-2.ensures.at (Element i t es) s (expr_beside s i t es scan c.domain-target.result.now c.requires.fits c.requires.scanned one inside c.domain-target.ensures)
    (c.in_ok-copy_holes.ensures.at (Element i t es) s (target_beside s i t es scan c.domain-other.result.now c.requires.fits c.requires.scanned one inside c.domain-other.ensures) c.requires.given)
