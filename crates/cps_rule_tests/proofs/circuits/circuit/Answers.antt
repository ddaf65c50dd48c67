use Rattle.std.proofs.Common.{◌∙◌, sym}
use Rattle.cps_rule_tests.proofs.Readiness.{ready_by}
use Rattle.cps_rule_tests.proofs.circuits.circuit.Goals as goal

pub returns : goal.returns
returns c =
    let tails = c.in_ok-tails.ensures in
    let literals = c.in_ok-literals.ensures in
    ready_by c.args.store.now.first c.in_ok-propagator.propagator _ c.in_ok-propagator.ensures c.new.ensures
    (record { headed = tails ∙ sym c.in_ok-heads.ensures; named = tails ∙ sym literals.count; literals_fit = literals.fit })
