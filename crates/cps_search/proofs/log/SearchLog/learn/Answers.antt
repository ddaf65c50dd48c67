use Rattle.std.specs.Prelude.{MatchOption, Option}
use Rattle.std.proofs.Common.{◌≡◌, ◌∙◌, ℕ, List, false, ap, refl, subst, sym}
use Rattle.cps_literal.specs.declared.atom.Atom.{Atom}
use Rattle.cps_tracer.specs.Traced.{HasLearnt}
use Rattle.cps_search.specs.Logged.{Log}
use Rattle.cps_search.specs.Logging.{GrowsLog, LogsLearnt}
use Rattle.cps_search.proofs.LogSteps.{learns}
use Rattle.cps_search.proofs.log.SearchLog.learn.Goals as goal

pub returns : goal.returns
returns g c = λ z h given.
    let p = c.args.source.now.instance.now in
    let l = c.args.self.now in
    let clause = c.as_slice-clause.result.now in
    let old = c.self-2.inside.tracer in
    let new = c.learn.new.self in
    let closed = c.self-2.inside.closed in
    let m : Log = record { traced = old; closed = closed } in
    let n : Log = record { traced = new; closed = closed } in
    let was : l.closed ≡ false = ap (λ (x : Log). x.closed) (sym c.self.view_is) ∙ c.if-self.false in
    let learnt : HasLearnt old new clause c.in-Some.number = subst (λ (o : Option ℕ). MatchOption o (new ≡ old) (HasLearnt old new clause)) c.in-Some.is c.in_ok-number.ensures.learnt in
    let grows : GrowsLog p z l m = subst (λ (x : Log). GrowsLog p z l x) (sym c.self-2.view_is) (c.in_ok-hints.ensures z h given) in
    subst (λ (ts : List Atom). LogsLearnt p z ts l c.forget_after.new.self) c.as_slice-clause.ensures
    (subst (λ (x : Log). LogsLearnt p z clause l x) (sym c.forget_after.ensures) (learns p z clause c.in-Some.number l m n was refl grows learnt))
