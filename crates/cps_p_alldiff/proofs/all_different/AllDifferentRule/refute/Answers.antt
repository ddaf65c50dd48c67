use Rattle.std.proofs.Common.{ap, ◌+◌}
use Rattle.cps_p_alldiff.proofs.ExplainedFacts.{refuted, is_yes}
use Rattle.cps_p_alldiff.proofs.ImpliedAtoms.{seen_refuted}
use Rattle.cps_p_alldiff.proofs.all_different.AllDifferentRule.refute.Goals as goal

pub returns : goal.returns
returns c e =
    let s = c.args.past.now in
    let is = c.as_slice.result.now in
    seen_refuted c.args.self.now c.self.inside.subjects.items is c.self.view_is c.as_slice.ensures.value s c.hold.new.facts.items
    (refuted s is c.in-Some.hall (c.numbers-needed.result + 1) c.hold.new.facts.items c.in-Some.ensures (ap (λ n. n + 1) c.numbers-needed.ensures.is) (c.in_ok-crowded.ensures (is_yes c.in_ok-crowded.crowded e)))
