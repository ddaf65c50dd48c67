use Rattle.std.specs.Prelude.{Option, Some, is_some}
use Rattle.std.proofs.Common.{ap, subst, sym}
use Rattle.cps_search.specs.Logged.{Log}
use Rattle.cps_search.specs.Logging.{ClosesLogIfKept}
use Rattle.cps_search.proofs.log.close_on_assumption.Goals as goal

pub returns-in_ok-close_on_assumption : goal.returns-in_ok-close_on_assumption
returns-in_ok-close_on_assumption g c = λ z core h some.
    let p = c.args.source.now.instance.now in
    subst (λ (o : Option Log). ClosesLogIfKept p z core o (Some c.close_on_assumption.new.self)) (sym c.in-Some.is)
    (c.in_ok-close_on_assumption.ensures z core (h (ap (λ (o : Option Log). is_some o) c.in-Some.is)) some)
