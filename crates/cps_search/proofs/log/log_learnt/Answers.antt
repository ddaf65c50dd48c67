use Rattle.std.specs.Prelude.{Option, Some, is_some}
use Rattle.std.proofs.Common.{ap, subst, sym}
use Rattle.cps_search.specs.Logged.{Log}
use Rattle.cps_search.specs.Logging.{LogsLearntIfKept}
use Rattle.cps_search.proofs.log.log_learnt.Goals as goal

pub returns-in_ok-learn : goal.returns-in_ok-learn
returns-in_ok-learn g c = λ z h given.
    let p = c.args.source.now.instance.now in
    subst (λ (o : Option Log). LogsLearntIfKept p z c.args.learnt.now.clause o (Some c.learn.new.self)) (sym c.in-Some.is)
    (c.in_ok-learn.ensures z (h (ap (λ (o : Option Log). is_some o) c.in-Some.is)) given)
