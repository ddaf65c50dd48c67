-- What a span is seen to use is taken from what is left, and nothing where its demand alone is seen.
use Rattle.std.proofs.Common.{◌≡◌, true, pos, ℤ, ◌-ℤ◌, ◌*ℤ◌, ◌≤ℤ◌, refl, sym, subst, rules, FitsSigned, w64}
use Rattle.std.specs.Prelude.{Ok, Some, Option, Result}
use Rattle.std.specs.declared.alloc.AllocError.{AllocError}
use Rattle.std.proofs.lemmas.Int.{to_z-of_z}
use mir.Syntax.{w128}
use Rattle.cps_p_cumulative.proofs.Energy.{times-some}
use Rattle.cps_p_cumulative.proofs.Levelled.{ok_true, no_number, no_err}
use Rattle.cps_p_cumulative.proofs.Relied.{charge-skip, charge-run, fallen, not_fallen}
use Rattle.cps_p_cumulative.proofs.charge.charge_one.Goals as goal

some_of : (v after : ℤ) → ◌≡◌ {A = Result (Option ℤ) AllocError} (Ok (Some v)) (Ok (Some after)) → v ≡ after
some_of v after ok = cc

-- the claim is of something, at some times
pub rest_of-requires-clause-taken : goal.rest_of-requires-clause-taken
rest_of-requires-clause-taken c =
    let claim = c.in-Some.claim in
    let of = c.in-Some.ensures in
    let f : FitsSigned w64 claim.stay.ticks = search rules in
    let g : FitsSigned w64 claim.demand = search rules in
    let h : FitsSigned w128 c.energy.result = search rules in
    let e = simp to_z-of_z at c.energy.ensures in
    let some = times-some claim.stay.ticks claim.demand of.stay.some of.some in
    simp to_z-of_z (subst (λ (z : ℤ). pos 0 ≤ℤ z) (sym e) some)

pub returns-then-branch-clause-charged : goal.returns-then-branch-clause-charged
returns-then-branch-clause-charged c = λ after ok.
    let f : FitsSigned w128 c.args.left = search rules in
    let e = rw (to_z-of_z w128 c.args.left f) at ok in
    let same : c.args.left ≡ after = some_of c.args.left after e in
    let one : c.rely.result ≡ Ok true = ok_true c.rely.result c.in_ok-rely.field-0 c.in_ok-rely.was c.if-branch.true in
    charge-skip c.args.past.now c.args.case.assumed c.args.case.time c.args.case.width c.args.load.now.span.now c.args.load.now.demand c.args.left after c.at_least.result c.args.facts.now.items c.rely.new.facts.items same c.at_least.ensures (c.rely.ensures one)

pub returns-clause-charged : goal.returns-clause-charged
returns-clause-charged c = λ after ok.
    let claim = c.in-Some.claim in
    let f : FitsSigned w64 claim.stay.ticks = search rules in
    let g : FitsSigned w64 claim.demand = search rules in
    let h : FitsSigned w128 c.energy.result = search rules in
    let k : FitsSigned w128 c.args.left = search rules in
    let e = simp to_z-of_z at c.energy.ensures in
    let one : c.rely_claim.result ≡ Ok true = ok_true c.rely_claim.result c.in_ok-rely_claim.field-0 c.in_ok-rely_claim.was c.if-not-branch.false in
    let taken = simp to_z-of_z at c.rest_of.ensures.taken in
    let l : FitsSigned w128 c.rest_of.result = search rules in
    let got : c.rest_of.result ≡ after = some_of c.rest_of.result after (rw (to_z-of_z w128 c.rest_of.result l) at ok) in
    let taken' : (c.args.left -ℤ after) ≤ℤ (claim.stay.ticks *ℤ claim.demand) = subst (λ (z : ℤ). (c.args.left -ℤ z) ≤ℤ (claim.stay.ticks *ℤ claim.demand)) got (subst (λ (z : ℤ). (c.args.left -ℤ c.rest_of.result) ≤ℤ z) e taken) in
    charge-run c.args.past.now c.args.case.assumed c.args.case.time c.args.case.width c.args.load.now.span.now c.args.load.now.demand c.args.left after (claim.stay.ticks *ℤ claim.demand) c.args.facts.now.items c.rely_claim.new.facts.items taken' (c.rely_claim.ensures one)

pub returns-in_err-rely-clause-falls : goal.returns-in_err-rely-clause-falls
returns-in_err-rely-clause-falls c = λ after ok. no_err _ _ _ ok c.from_residual.ensures.0

pub returns-in_err-rely-clause-charged : goal.returns-in_err-rely-clause-charged
returns-in_err-rely-clause-charged c = λ after ok. no_err _ _ _ ok c.from_residual.ensures.0

pub returns-in_default-clause-falls : goal.returns-in_default-clause-falls
returns-in_default-clause-falls c = λ after ok. no_number _ _ after ok refl

pub returns-in_default-clause-charged : goal.returns-in_default-clause-charged
returns-in_default-clause-charged c = λ after ok. no_number _ _ after ok refl

pub returns-in_err-rely_claim-clause-falls : goal.returns-in_err-rely_claim-clause-falls
returns-in_err-rely_claim-clause-falls c = λ after ok. no_err _ _ _ ok c.from_residual-in_err-rely_claim.ensures.0

pub returns-in_err-rely_claim-clause-charged : goal.returns-in_err-rely_claim-clause-charged
returns-in_err-rely_claim-clause-charged c = λ after ok. no_err _ _ _ ok c.from_residual-in_err-rely_claim.ensures.0

pub returns-then-not-branch-clause-falls : goal.returns-then-not-branch-clause-falls
returns-then-not-branch-clause-falls c = λ after ok. no_number _ _ after ok refl

pub returns-then-not-branch-clause-charged : goal.returns-then-not-branch-clause-charged
returns-then-not-branch-clause-charged c = λ after ok. no_number _ _ after ok refl

pub claim_of-requires-clause-span : goal.claim_of-requires-clause-span
claim_of-requires-clause-span c = c.requires.span

pub claim_of-requires-clause-demand : goal.claim_of-requires-clause-demand
claim_of-requires-clause-demand c = c.requires.demand

pub rely-requires-clause-subject : goal.rely-requires-clause-subject
rely-requires-clause-subject c = let l = c.requires.demand in rw c.at_least.ensures l

pub rely-requires-clause-facts : goal.rely-requires-clause-facts
rely-requires-clause-facts c = c.requires.facts

pub rely_claim-requires-clause-span : goal.rely_claim-requires-clause-span
rely_claim-requires-clause-span c = c.requires.span

pub rely_claim-requires-clause-demand : goal.rely_claim-requires-clause-demand
rely_claim-requires-clause-demand c = c.requires.demand

pub rely_claim-requires-clause-claim : goal.rely_claim-requires-clause-claim
rely_claim-requires-clause-claim c = c.in-Some.ensures

pub rely_claim-requires-clause-facts : goal.rely_claim-requires-clause-facts
rely_claim-requires-clause-facts c = c.requires.facts

pub rest_of-requires-clause-left : goal.rest_of-requires-clause-left
rest_of-requires-clause-left c =
    let k : FitsSigned w128 c.args.left = search rules in
    rw (to_z-of_z w128 c.args.left k) c.requires.left

pub returns-then-branch-clause-falls : goal.returns-then-branch-clause-falls
returns-then-branch-clause-falls c = λ after ok.
    let f : FitsSigned w128 c.args.left = search rules in
    let e = rw (to_z-of_z w128 c.args.left f) at ok in
    not_fallen c.args.left after (some_of c.args.left after e) c.requires.left

pub returns-clause-falls : goal.returns-clause-falls
returns-clause-falls c = λ after ok.
    let k : FitsSigned w128 c.args.left = search rules in
    let l : FitsSigned w128 c.rest_of.result = search rules in
    let ok' = rw (to_z-of_z w128 c.rest_of.result l) at ok in
    let high = rw (to_z-of_z w128 c.args.left k) at c.rest_of.ensures.high in
    fallen c.args.left c.rest_of.result after (some_of c.rest_of.result after ok') c.rest_of.ensures.low high
