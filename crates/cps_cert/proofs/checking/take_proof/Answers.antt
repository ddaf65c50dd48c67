-- The items, and behind them the end.
use Rattle.std.proofs.Common.{[]}
use Rattle.std.proofs.lemmas.Result.{MatchResult-weaker}
use Rattle.cps_log.specs.Deriving.{empty_derivation}
use Rattle.cps_cert.specs.Lines.{in_log, at_end, finished}
use Rattle.cps_cert.proofs.Passed.{passed_on, still_fits, stop_on}
use Rattle.cps_cert.proofs.checking.take_proof.Goals as goal

pub take_end-requires : goal.take_end-requires
take_end-requires c =
    still_fits c.args.model.now (in_log c.args.claim.now empty_derivation) at_end c.args.start.rest.now c.in_ok-end.end.rest.now c.args.start.number c.in_ok-end.end.number c.in_ok-end.ensures c.requires.fits

pub returns : goal.returns
returns c =
    let m = c.args.model.now in
    let start = in_log c.args.claim.now empty_derivation in
    let bytes = c.args.start.rest.now in
    let first = c.args.start.number in
    let rest = c.in_ok-end.end.rest.now in
    let next = c.in_ok-end.end.number in
    MatchResult-weaker c.take_end.result (c.take_end.ensures m)
    (λ _ p. (p.0, passed_on m start at_end finished bytes rest [] first next p.0 c.in_ok-end.ensures p.1)) (λ stop s. stop_on m start at_end bytes rest first next c.in_ok-end.ensures stop s)
