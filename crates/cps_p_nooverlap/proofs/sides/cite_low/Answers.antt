-- The atom says that the span does not lie before the window.
use Rattle.std.proofs.Common.{◌≤ℤ◌}
use Rattle.cps_p_nooverlap.specs.Crowds.{low_at}
use Rattle.cps_p_span.proofs.Citing.{cites_said}
use Rattle.cps_p_nooverlap.proofs.sides.cite_low.Goals as goal

pub returns-in-Some : goal.returns-in-Some
returns-in-Some c e =
    let w = c.args.window in
    cites_said c.args.past.now c.args.facts.now.items c.cite.new.facts.items c.args.span.now c.in-Some.atom (λ xs. w.from ≤ℤ low_at w.ends w.is_reversed xs c.args.span.now) c.in-Some.ensures (c.cite.ensures.yes e)
