use Rattle.std.proofs.Common.{refl, subst}
use Rattle.cps_search.specs.Logged.{Log}
use Rattle.cps_search.specs.Logging.{ClosesLog}
use Rattle.cps_search.proofs.LogSteps.{closes_after, grows_by}
use Rattle.cps_search.proofs.log.SearchLog.close_at_start.Goals as goal

pub returns : goal.returns
returns c = λ core ungrown.
    let p = c.args.instance.now in
    let z = c.args.z in
    let l : Log = record { traced = c.self.inside.tracer; closed = c.self.inside.closed } in
    let m : Log = record { traced = c.write_start.new.tracer; closed = c.self.inside.closed } in
    let n = c.close.new.self in
    subst (λ (x : Log). ClosesLog p z core x n) c.self.view_is
    (closes_after p z core l m n c.if-self.false (grows_by p z l m refl (c.in_ok-number.ensures ungrown)) c.in_ok-close.ensures)
