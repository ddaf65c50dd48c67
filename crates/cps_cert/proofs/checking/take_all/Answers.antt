-- The response, and behind it the log of what it claims.
use Rattle.std.proofs.Common.{[]}
use Rattle.std.proofs.lemmas.Result.{MatchResult-weaker}
use Rattle.cps_log.specs.Deriving.{empty_derivation}
use Rattle.cps_cert.specs.Lines.{at_status, in_log, finished}
use Rattle.cps_cert.proofs.Passed.{passed_on, still_fits, stop_on, accepted_of}
use Rattle.cps_cert.proofs.checking.take_all.Goals as goal

pub take_proof-requires-clause-fits : goal.take_proof-requires-clause-fits
take_proof-requires-clause-fits c =
    still_fits c.args.model.now at_status (in_log c.in-Ok.claim empty_derivation) c.args.start.rest.now c.in-Ok.items.rest.now c.args.start.number c.in-Ok.items.number c.in-Ok.ensures.1 c.requires

pub returns-in-Ok : goal.returns-in-Ok
returns-in-Ok c =
    let m = c.args.model.now in
    let mid = in_log c.in-Ok.claim empty_derivation in
    let bytes = c.args.start.rest.now in
    let first = c.args.start.number in
    let rest = c.in-Ok.items.rest.now in
    let next = c.in-Ok.items.number in
    MatchResult-weaker c.take_proof.result c.take_proof.ensures
    (λ _ p. accepted_of m bytes first p.0 (passed_on m at_status mid finished bytes rest [] first next p.0 c.in-Ok.ensures.1 p.1)) (λ stop s. stop_on m at_status mid bytes rest first next c.in-Ok.ensures.1 stop s)
