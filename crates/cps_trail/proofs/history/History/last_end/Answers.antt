use Rattle.std.proofs.Common.{length, arith}
use Rattle.cps_trail.proofs.LastEnds.{end_whole}
use Rattle.cps_trail.proofs.Walks.{last_all}
use Rattle.cps_trail.proofs.history.History.last_end.Goals as goal

pub returns : goal.returns
returns c =
    let es = c.args.self.now.entries in
    end_whole c.args.self.now.first es c.args.subject c.end_at.result
    (c.end_at.ensures (length es) c.args.subject (omega arith) (last_all es c.args.subject c.last_on.result c.last_on.ensures))
