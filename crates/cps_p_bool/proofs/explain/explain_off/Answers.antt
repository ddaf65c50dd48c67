use Rattle.std.proofs.Common.{◌≡◌, Ok, ap, rules, arith}
use Rattle.std.proofs.lemmas.Grind.{common_steps}
use Rattle.cps_propagate.proofs.Past.{none}
use Rattle.cps_p_bool.proofs.LazyReasons.{IsExplanation-off}
use Rattle.cps_p_bool.proofs.explain.explain_off.Goals as goal

pub returns-then-branch : goal.returns-then-branch
returns-then-branch c = λ _ us b fits n.
    let same : c.negate-opposite.result ≡ c.args.noted.atom = first_of (search rules, cc, grind (arith, common_steps)) in
    IsExplanation-off c.args.past.now c.args.form.now.enforcement.now c.args.last b none c.negate-opposite.result c.args.noted.atom c.deny_body.new.reason.items c.push.new.self.items c.requires.in_force c.requires.last c.requires.fits
    (record { subject = c.negate-opposite.ensures.subject; negated = c.negate-opposite.ensures.negated }) same (c.in_ok-deny_body.ensures (ap Ok c.if-branch.true) us b fits n) c.in_ok-push.ensures.items
