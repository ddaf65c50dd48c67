use Rattle.std.proofs.Common.{◌≡◌, get_or, sym, ap, subst, ◌∙◌, arith}
use Rattle.std.proofs.lemmas.List.{get_or_default}
use Rattle.cps_conflict.specs.Nodes.{PassesAtoms}
use Rattle.cps_conflict.proofs.Drafting.{none_fallen}
use Rattle.cps_conflict.proofs.Minimising.{PassesAtoms-more}
use Rattle.cps_conflict.proofs.minimiser.Minimiser.passed.Goals as goal

pub loop-index-preserved : goal.loop-index-preserved
loop-index-preserved c =
    PassesAtoms-more c.args.self.now c.args.node c.loop-index.index c.loop-index.latest c.in-Some.other c.later-latest.result (get_or c.as_slice-pending.result.now c.loop-index.index none_fallen) c.loop-index-test.true
    (λ d. sym (ap (λ l. get_or l c.loop-index.index d) c.as_slice-pending.ensures.value) ∙ get_or_default c.as_slice-pending.result.now c.loop-index.index d none_fallen c.if-index-pending.false)
    (λ earlier a nodes on. c.in-Some.ensures earlier a nodes on) c.later-latest.ensures.one c.later-latest.ensures.other c.loop-index.invariant

pub returns : goal.returns
returns c =
    let same : c.loop-index.index ≡ c.args.node.end = omega (arith, c.loop-index-test.false, c.loop-index.invariant.within) in
    subst (λ n. PassesAtoms c.args.self.now c.args.node (n, c.loop-index.latest)) same c.loop-index.invariant
