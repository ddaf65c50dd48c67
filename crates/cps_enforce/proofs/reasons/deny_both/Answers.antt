-- The enforcement atoms are denied, and then the facts.
use Rattle.std.proofs.Common.{List, [], subst}
use Rattle.cps_literal.specs.declared.atom.Atom.{Atom}
use Rattle.cps_enforce.specs.Reasons.{DeniesFacts}
use Rattle.cps_enforce.proofs.Denials.{on_ok, DeniesFacts-append}
use Rattle.cps_enforce.proofs.reasons.deny_both.Goals as goal

pub returns : goal.returns
returns c =
    let first = subst (λ (l : List Atom). DeniesFacts c.args.past.now c.args.enforcement.now l c.deny.new.reason.items) c.clear.ensures.items c.in_ok-deny.ensures in
    on_ok c.deny-2.result _ _ c.deny-2.ensures (λ second. DeniesFacts-append c.args.past.now c.args.enforcement.now c.args.facts.now [] c.deny.new.reason.items c.deny-2.new.reason.items first second)
