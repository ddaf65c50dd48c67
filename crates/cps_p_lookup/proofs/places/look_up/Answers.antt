use Rattle.std.proofs.Common.{◌≢◌, ◌<◌, ℕ, arith}
use Rattle.cps_instance.specs.declared.task.Body.TheVariants.{Element}
use Rattle.cps_rule.specs.Rules.{IsAtRest}
use Rattle.cps_p_lookup.specs.Resting.{AreTrue}
use Rattle.cps_p_lookup.proofs.Elements.{impossible_by, scan_seen, at_rest}
use Rattle.cps_p_lookup.proofs.Opening.{strong_by}
use Rattle.cps_p_lookup.proofs.places.look_up.Goals as goal
use Rattle.cps_p_lookup.proofs.places.look_up.Goals.{In_ok-bound_both}

some_open : (n : ℕ) → n ≢ 0 → 0 < n
some_open n ne = omega (arith, ne)

-- what the bounds left of what the scan had found
rests : (c : In_ok-bound_both) → c.in_ok-scan.scan.open ≢ 0 → AreTrue c.args.store.now c.bound_both.new.found.items → IsAtRest (Element c.args.lookup.now.index c.args.lookup.now.target c.args.lookup.now.exprs.now) c.args.store.now
rests c ne trues =
    let s = c.args.store.now in
    let i = c.args.lookup.now.index in
    let t = c.args.lookup.now.target in
    let es = c.args.lookup.now.exprs.now in
    let scan = c.in_ok-scan.scan in
    let scanned = c.in_ok-scan.ensures.scanned in
    let some = some_open scan.open ne in
    let kept = c.in_ok-bound_both.ensures.rests in
    let l = (scanned.last.last some).within in
    at_rest s i t es scan scanned some (strong_by s i t es scan some scanned (c.in_ok-scan.ensures.rests (kept.before trues) (omega (arith, l))) (kept.left trues))

pub returns-then-scan-eq0-clause-seen : goal.returns-then-scan-eq0-clause-seen
returns-then-scan-eq0-clause-seen c = impossible_by c.args.store.now c.args.lookup.now.index c.args.lookup.now.target c.args.lookup.now.exprs.now c.in_ok-scan.scan c.in_ok-scan.ensures.scanned c.if-scan-eq0.true

pub returns-in_ok-align-clause-rest : goal.returns-in_ok-align-clause-rest
returns-in_ok-align-clause-rest c = λ e trues. rests (goal.at.returns-in_ok-align-clause-rest c).In_ok-bound_both c.if-scan-eq0.false (c.in_ok-align.ensures.before trues)

pub returns-in_ok-align-clause-seen : goal.returns-in_ok-align-clause-seen
returns-in_ok-align-clause-seen c = scan_seen c.args.store.now c.args.lookup.now.index c.args.lookup.now.target c.args.lookup.now.exprs.now c.in_ok-scan.scan c.in_ok-scan.ensures.scanned (some_open c.in_ok-scan.scan.open c.if-scan-eq0.false)

pub returns-in_ok-narrow_inside-clause-rest : goal.returns-in_ok-narrow_inside-clause-rest
returns-in_ok-narrow_inside-clause-rest c = λ e trues. rests (goal.at.returns-in_ok-narrow_inside-clause-rest c).In_ok-bound_both c.if-scan-eq0.false (c.in_ok-narrow_inside.ensures.before trues)

pub returns-in_ok-narrow_inside-clause-seen : goal.returns-in_ok-narrow_inside-clause-seen
returns-in_ok-narrow_inside-clause-seen c = scan_seen c.args.store.now c.args.lookup.now.index c.args.lookup.now.target c.args.lookup.now.exprs.now c.in_ok-scan.scan c.in_ok-scan.ensures.scanned (some_open c.in_ok-scan.scan.open c.if-scan-eq0.false)
