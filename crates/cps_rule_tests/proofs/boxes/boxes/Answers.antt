use Rattle.std.proofs.Common.{◌∙◌, sym}
use Rattle.cps_rule_tests.proofs.Readiness.{ready_by}
use Rattle.cps_rule_tests.proofs.boxes.boxes.Goals as goal

pub returns : goal.returns
returns c =
    let x = c.in_ok-x.ensures in
    let y = c.in_ok-y.ensures in
    ready_by c.args.store.now.first c.in_ok-propagator.propagator _ c.in_ok-propagator.ensures c.new.ensures
    (record { paired = x.count ∙ sym y.count; x_fit = x.fit; y_fit = y.fit })
