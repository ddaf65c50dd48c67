-- The atom says that the span does not lie after the window.
use Rattle.std.proofs.Common.{◌≤ℤ◌}
use Rattle.cps_p_nooverlap.specs.Crowds.{high_at}
use Rattle.cps_p_span.proofs.Citing.{cites_said}
use Rattle.cps_p_nooverlap.proofs.sides.cite_high.Goals as goal

pub returns-in-Some : goal.returns-in-Some
returns-in-Some c e =
    let w = c.args.window in
    cites_said c.args.past.now c.args.facts.now.items c.cite.new.facts.items c.args.span.now c.in-Some.atom (λ xs. high_at w.ends w.is_reversed xs c.args.span.now ≤ℤ w.to) c.in-Some.ensures (c.cite.ensures.yes e)
