-- The values between the ends lie in the interval.
use Rattle.std.proofs.Common.{rules, FitsSigned, w64}
use Rattle.cps_p_alldiff.proofs.NumberTests.{read_at_most, held_by}
use Rattle.cps_p_alldiff.proofs.facts.was_within.Goals as goal

pub returns-then-hall-low : goal.returns-then-hall-low
returns-then-hall-low c =
    let h = c.args.hall.now in
    let a = c.ends-low.result.0 in
    let b = c.ends-low.result.1 in
    let fl : FitsSigned w64 h.low = search rules in
    let fh : FitsSigned w64 h.high = search rules in
    let fa : FitsSigned w64 a = search rules in
    let fb : FitsSigned w64 b = search rules in
    λ e. held_by c.args.past.now c.args.subject h.low h.high a b c.ends-low.ensures.least c.ends-low.ensures.greatest (read_at_most h.low a fl fa c.if-hall-low.true) (read_at_most b h.high fb fh e)
