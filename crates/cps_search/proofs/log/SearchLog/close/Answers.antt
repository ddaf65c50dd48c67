use Rattle.std.specs.Prelude.{MatchOption, Option}
use Rattle.std.proofs.Common.{◌≡◌, ℕ, [], true, refl, subst}
use Rattle.cps_tracer.specs.Traced.{HasLearnt}
use Rattle.cps_search.specs.Logged.{Log}
use Rattle.cps_search.specs.Logging.{AddsEmptyClause}
use Rattle.cps_search.proofs.LogSteps.{adds_empty}
use Rattle.cps_search.proofs.log.SearchLog.close.Goals as goal

pub returns : goal.returns
returns c =
    let old = c.self.inside.tracer in
    let new = c.learn.new.self in
    let l : Log = record { traced = old; closed = c.self.inside.closed } in
    let m : Log = record { traced = new; closed = true } in
    let learnt : HasLearnt old new [] c.in-Some.field-0 = subst (λ (o : Option ℕ). MatchOption o (new ≡ old) (HasLearnt old new [])) c.in-Some.is c.in_ok-learn.ensures.learnt in
    subst (λ (x : Log). AddsEmptyClause x m) c.self.view_is (adds_empty c.in-Some.field-0 l m refl learnt)
