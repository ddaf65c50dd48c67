use Rattle.std.specs.Prelude.{Option, Some, is_some}
use Rattle.std.proofs.Common.{ap, subst, sym}
use Rattle.cps_search.specs.Logged.{Log}
use Rattle.cps_search.specs.Logging.{ClosesLogIfKept}
use Rattle.cps_search.proofs.log.close_at_start.Goals as goal

pub returns-in_ok-close_at_start : goal.returns-in_ok-close_at_start
returns-in_ok-close_at_start c = λ core ungrown.
    subst (λ (o : Option Log). ClosesLogIfKept c.args.instance.now c.args.z core o (Some c.close_at_start.new.self)) (sym c.in-Some.is)
    (c.in_ok-close_at_start.ensures core (ungrown (ap (λ (o : Option Log). is_some o) c.in-Some.is)))
