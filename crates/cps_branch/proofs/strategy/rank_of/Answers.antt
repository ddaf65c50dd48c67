-- The numbers as wider ones.
use Rattle.std.specs.Prelude.{neg_ℤ}
use Rattle.std.specs.Int.{w128}
use Rattle.std.proofs.Common.{rules, ◌≡◌, ◌∙◌, ℤ, sym, ap, subst, FitsSigned, w64, to_z, of_z}
use Rattle.std.proofs.lemmas.Int.{to_z-of_z}
use Rattle.cps_model.specs.declared.steering.Choose.{Choose}
use Rattle.cps_branch.specs.Strategies.{IsLeast, IsRank}
use Rattle.cps_branch.proofs.strategy.rank_of.Goals as goal

pub returns-in-LowestMin : goal.returns-in-LowestMin
returns-in-LowestMin c =
    let v = c.least.result in
    let r = c.from.result in
    let f : FitsSigned w64 v = search rules in
    let w : FitsSigned w128 r = search rules in
    let e : to_z w128 (of_z w128 r) ≡ v = to_z-of_z w128 r w ∙ c.from.ensures ∙ to_z-of_z w64 v f in
    subst (λ (k : Choose). IsRank k c.args.store.now c.args.subject (to_z w128 (of_z w128 r))) (sym c.in-LowestMin.is)
    (subst (λ (x : ℤ). IsLeast c.args.store.now c.args.subject x) (sym e) c.least.ensures.least)

pub returns-in-HighestMax : goal.returns-in-HighestMax
returns-in-HighestMax c =
    let v = c.greatest.result in
    let r = c.opposite.result in
    let f : FitsSigned w64 v = search rules in
    let w : FitsSigned w128 r = search rules in
    let e : to_z w128 (of_z w128 r) ≡ neg_ℤ v = to_z-of_z w128 r w ∙ c.opposite.ensures ∙ ap (λ (x : ℤ). neg_ℤ x) (to_z-of_z w64 v f) in
    subst (λ (k : Choose). IsRank k c.args.store.now c.args.subject (to_z w128 (of_z w128 r))) (sym c.in-HighestMax.is) (v, (c.greatest.ensures.greatest, e))

pub returns-in-MinDomainSize : goal.returns-in-MinDomainSize
returns-in-MinDomainSize c =
    let r = c.from-in-MinDomainSize.result in
    let w : FitsSigned w128 r = search rules in
    subst (λ (k : Choose). IsRank k c.args.store.now c.args.subject (to_z w128 (of_z w128 r))) (sym c.in-MinDomainSize.is) (c.size.result, (c.size.ensures, to_z-of_z w128 r w ∙ c.from-in-MinDomainSize.ensures))

pub returns-in-MaxDomainSize : goal.returns-in-MaxDomainSize
returns-in-MaxDomainSize c =
    let r = c.opposite_count.result in
    let w : FitsSigned w128 r = search rules in
    subst (λ (k : Choose). IsRank k c.args.store.now c.args.subject (to_z w128 (of_z w128 r))) (sym c.in-MaxDomainSize.is) (c.size-in-MaxDomainSize.result, (c.size-in-MaxDomainSize.ensures, to_z-of_z w128 r w ∙ c.opposite_count.ensures))
