-- The bounds admit no values that meet the demand, and the facts keep all values between them.
use Rattle.std.proofs.Common.{List, ℕ, Ok, ap, subst}
use Rattle.cps_p_arith.specs.declared.ends.Ends.{Ends}
use Rattle.cps_p_arith.specs.Demands.{SupportsEach}
use Rattle.cps_p_arith.proofs.Holding.{refutes}
use Rattle.cps_p_arith.proofs.facts.justify.Goals as goal

pub returns : goal.returns
returns c = λ made.
    let d = c.args.demand.now in
    let b = c.args.bounds.now in
    let each = subst (λ (is : List ℕ). SupportsEach c.args.past.now c.args.supposed is c.args.bounds.now.members.items c.support.new.facts.items c.support_each.new.facts.items) c.as_slice.ensures.value
    (subst (λ (es : List Ends). SupportsEach c.args.past.now c.args.supposed c.as_slice.result.now es c.support.new.facts.items c.support_each.new.facts.items) c.as_slice-2.ensures.value (c.support_each.ensures made)) in
    refutes c.args.past.now c.args.supposed d b c.clear.new.self.items c.support.new.facts.items c.support_each.new.facts.items c.clear.ensures.items (c.exclude.ensures.sound c.if-not-exclude.false)
    (c.in_ok-support.ensures (ap Ok c.if-not-branch.false)) each
