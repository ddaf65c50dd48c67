use Rattle.std.proofs.Common.{◌<◌, arith}
use Rattle.cps_p_nooverlap.specs.Crowds.{IsRun}
use Rattle.cps_p_span.proofs.Citing.{cites_none, cites_as}
use Rattle.cps_p_nooverlap.proofs.windows.cite_counted.Goals as goal
use Rattle.cps_instance.specs.Tasks.{subjects_of_span}

pub returns-then-weight-eq0 : goal.returns-then-weight-eq0
returns-then-weight-eq0 c e = cites_none c.args.past.now (subjects_of_span c.args.span.now) c.args.facts.now.items _ (λ xs l. let zero = c.if-weight-eq0.true in absurd (omega arith))

pub returns : goal.returns
returns c e =
    let w = c.args.window in
    cites_as c.args.past.now (subjects_of_span c.args.span.now) c.args.facts.now.items c.cite_run.new.facts.items (λ xs. IsRun w.ends w.is_reversed xs c.args.span.now c.args.weight w.from w.to) (λ xs. 0 < c.args.weight → IsRun w.ends w.is_reversed xs c.args.span.now c.args.weight w.from w.to) (λ xs h l. h) (c.cite_run.ensures e)
