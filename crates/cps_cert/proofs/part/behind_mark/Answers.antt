-- The mark with its line feed, without it, or none.
use Rattle.cps_cert.proofs.Splitting.{with_feed, without_feed}
use Rattle.cps_cert.proofs.part.behind_mark.Goals as goal

pub returns-in-Some : goal.returns-in-Some
returns-in-Some c = with_feed c.args.bytes.now c.in-Some.response.now c.in-Some.ensures

pub returns-in-None : goal.returns-in-None
returns-in-None c = without_feed c.args.bytes.now c.in-None.ensures c.requires
