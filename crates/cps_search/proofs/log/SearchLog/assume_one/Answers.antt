use Rattle.std.specs.Prelude.{Contains}
use Rattle.std.proofs.Common.{rules, FitsSigned, w32, ◌≡◌, ◌∙◌, ℕ, ℤ, get_or, pos, ap, arith, refl, subst, sym}
use Rattle.std.proofs.lemmas.Int.{to_z-of_z}
use Rattle.cps_tracer.specs.Traced.{Traced}
use Rattle.cps_search.specs.Logged.{Log}
use Rattle.cps_search.specs.Logging.{AssumesLog}
use Rattle.cps_search.proofs.LogSteps.{assumes_none, assumes_one}
use Rattle.cps_search.proofs.log.SearchLog.assume_one.Goals as goal

pub returns-then-not-is_among-clause-assumes : goal.returns-then-not-is_among-clause-assumes
returns-then-not-is_among-clause-assumes c = λ p z core same some. assumes_none p z core c.args.self.now

pub returns-clause-kept : goal.returns-clause-kept
returns-clause-kept c = ap (λ (t : Traced). t.assumptions) c.in_ok-number.ensures.ok ∙ ap (λ (x : Log). x.traced.assumptions) c.self.view_is ∙ c.requires.assumptions

pub returns-clause-assumes : goal.returns-clause-assumes
returns-clause-assumes c = λ p z core same some.
    let assumptions = c.args.assumptions.now in
    let k = c.in-Ok.assumption in
    let closed = c.self.inside.closed in
    let l : Log = record { traced = c.self.inside.tracer; closed = closed } in
    let n : Log = record { traced = c.assume.new.self; closed = closed } in
    let e : k ≡ c.args.place = c.in-Ok.ensures.1 in
    let r = get_or assumptions c.args.place (pos 0) in
    let fits : FitsSigned w32 r = search rules in
    let has : Contains c.args.some.now r = subst (λ (x : ℤ). Contains c.args.some.now x) (to_z-of_z w32 r fits) (c.if-not-is_among.ensures refl) in
    subst (λ (x : Log). AssumesLog p z core x n) c.self.view_is
    (assumes_one p z core c.args.some.now assumptions k l l n (sym same) some (omega (arith, e, c.requires.within)) (subst (λ (i : ℕ). Contains c.args.some.now (get_or assumptions i (pos 0))) (sym e) has) refl c.in_ok-number.ensures.ok (assumes_none p z core l))
