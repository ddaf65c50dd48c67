-- The sum fits 128 bits, so the test is that of the numbers.
use Rattle.std.proofs.Common.{rules, sym, ◌∙◌, ap, w64, FitsSigned}
use Rattle.cps_model.specs.declared.bound.Bound.TheVariants.{At}
use Rattle.cps_model.specs.Statuses.{is_closed}
use Rattle.cps_port.proofs.WordValues.{met_by}
use Rattle.cps_port.proofs.order.is_closed.Goals as goal

pub returns-in-At-At : goal.returns-in-At-At
returns-in-At-At c =
    let a = c.in-At-At in
    let high : FitsSigned w64 c.in-At-At.high = search rules in
    let low : FitsSigned w64 c.in-At-At.low = search rules in
    met_by c.from.result c.from-in-At-At.result c.from-in-At-At-2.result a.high a.low c.args.gap c.from.ensures c.from-in-At-At.ensures c.from-in-At-At-2.ensures high low c.ranges.gap.fits
    ∙ sym (ap (λ b. is_closed b c.args.upper c.args.gap) a.is-0 ∙ ap (λ b. is_closed (At c.in-At-At.low) b c.args.gap) a.is-1)
