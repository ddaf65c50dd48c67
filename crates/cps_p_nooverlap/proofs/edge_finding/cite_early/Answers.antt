-- The span takes so long, and starts at the time or later.
use Rattle.std.proofs.Common.{Ok, ◌≡◌, ◌≤ℤ◌, true, rules}
use Rattle.cps_p_nooverlap.specs.Crowds.{low_at, LastsAt}
use Rattle.cps_p_span.proofs.Citing.{cites_then}
use Rattle.cps_p_span.proofs.Refusing.{refused}
use Rattle.cps_p_nooverlap.proofs.edge_finding.cite_early.Goals as goal
use Rattle.cps_instance.specs.Tasks.{subjects_of_span}

pub returns : goal.returns
returns c e =
    let w = c.args.window in
    let one : c.cite_length.result ≡ Ok true = search rules in
    cites_then c.args.past.now (subjects_of_span c.args.span.now) c.args.facts.now.items c.cite_length.new.facts.items c.cite_low.new.facts.items (λ xs. LastsAt xs c.args.span.now c.args.weight) (λ xs. w.from ≤ℤ low_at w.ends w.is_reversed xs c.args.span.now) (c.cite_length.ensures one) (c.cite_low.ensures e)

pub returns-then-not-branch : goal.returns-then-not-branch
returns-then-not-branch c e = refused e
