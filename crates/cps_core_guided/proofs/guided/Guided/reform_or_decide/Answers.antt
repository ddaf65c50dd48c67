-- A reform where the assumption of a term is false, and else a decision.
use Rattle.std.proofs.Common.{◌≡◌, inr, refl}
use Rattle.cps_search.specs.Ends.{BrancherTurn, DecidedBy}
use Rattle.cps_search.proofs.Keeps.{keeps_none}
use Rattle.cps_search.proofs.Results.{if_ok_weaker}
use Rattle.cps_core_guided.specs.Assuming.{IsFailed, NoTermFails}
use Rattle.cps_core_guided.specs.CoreTurns.{GoesOn}
use Rattle.cps_core_guided.specs.Guiding.{core_search_of}
use Rattle.cps_core_guided.proofs.CoreInvariants.{terms-inside}
use Rattle.cps_core_guided.proofs.AssumedDecisions.{read-both}
use Rattle.cps_core_guided.proofs.HeardClauses.{on-brancher}
use Rattle.cps_core_guided.proofs.guided.Guided.reform_or_decide.Goals as goal

pub failed_term-requires : goal.failed_term-requires
failed_term-requires g c = terms-inside (core_search_of c.args.self.now) c.store.result.now c.terms.result.now c.requires.works.sound c.store.ensures c.terms.ensures

pub reform_at-requires-clause-few : goal.reform_at-requires-clause-few
reform_at-requires-clause-few g c = c.in-Some.ensures.some.0

pub reform_at-requires-clause-failed : goal.reform_at-requires-clause-failed
reform_at-requires-clause-failed g c =
    let s = c.args.self.now in
    read-both (λ x ts. IsFailed x ts c.in-Some.place) c.store.result.now s.frame.store c.terms.result.now s.reform.terms c.store.ensures c.terms.ensures c.in-Some.ensures.some.1

pub decide-requires-clause-none_fails : goal.decide-requires-clause-none_fails
decide-requires-clause-none_fails g c = λ few.
    let s = c.args.self.now in
    read-both (λ x ts. NoTermFails x ts) c.store.result.now s.frame.store c.terms.result.now s.reform.terms c.store.ensures c.terms.ensures (c.in-None.ensures.none refl few)

pub returns-in_err-decide-in-None-clause-keeps : goal.returns-in_err-decide-in-None-clause-keeps
returns-in_err-decide-in-None-clause-keeps g c = keeps_none _ _ _ g.met.Q.Port.unmoved _

pub returns-in-Some-clause-brancher : goal.returns-in-Some-clause-brancher
returns-in-Some-clause-brancher g c =
    let s = core_search_of c.args.self.now in
    let t = core_search_of c.reform_at.new.self in
    let old = c.args.self.now.brancher in
    let new = c.reform_at.new.self.brancher in
    let p = g.Q.Port.part c.args.port.now in
    let q = g.Q.Port.part c.reform_at.new.port in
    let chose = DecidedBy (g.B.Brancher.stays old new) (new ≡ old) in
    if_ok_weaker c.reform_at.result (GoesOn (g.B.Brancher.chooses old) s t p q) (λ turn. BrancherTurn turn ⊥ chose (new ≡ old))
    (λ turn on. on-brancher (g.B.Brancher.chooses old) s t p q turn ⊥ chose (new ≡ old) on (λ same. inr same) c.reform_at.ensures.brancher) c.reform_at.ensures.goes_on

pub returns-in_ok-decide-in-None-clause-keeps : goal.returns-in_ok-decide-in-None-clause-keeps
returns-in_ok-decide-in-None-clause-keeps g c = keeps_none _ _ _ g.met.Q.Port.unmoved _

pub returns-in_ok-decide-in-None-clause-goes_on : goal.returns-in_ok-decide-in-None-clause-goes_on
returns-in_ok-decide-in-None-clause-goes_on g c = c.in_ok-decide-in-None.ensures.decides (g.Q.Port.part c.args.port.now)

pub returns-in_ok-decide-in-None-clause-brancher : goal.returns-in_ok-decide-in-None-clause-brancher
returns-in_ok-decide-in-None-clause-brancher g c = c.in_ok-decide-in-None.ensures.brancher

pub returns-in_ok-decide-in-None-clause-works : goal.returns-in_ok-decide-in-None-clause-works
returns-in_ok-decide-in-None-clause-works g c = c.in_ok-decide-in-None.ensures.works
