use Rattle.std.proofs.Common.{◌≡◌, refl, true, pos, ◌+ℤ◌, ◌*ℤ◌, ◌≤ℤ◌, rules, FitsSigned, w64}
use Rattle.std.specs.Prelude.{Ok}
use Rattle.std.proofs.lemmas.Int.{to_z-of_z}
use mir.Syntax.{w128}
use Rattle.cps_p_cumulative.proofs.Energy.{energy-next-fits, times-next-some}
use Rattle.cps_p_cumulative.proofs.Levelled.{ok_true, no_yes, no_err}
use Rattle.cps_p_cumulative.proofs.SpanDemands.{true_lt, false_lt}
use Rattle.cps_p_cumulative.proofs.Relied.{over-capacity, under-capacity}
use Rattle.cps_p_cumulative.proofs.charge.charge.Goals as goal

pub returns : goal.returns
returns c = λ ok.
    let most = c.greatest-most.result in
    let w = c.args.case.width in
    let f : FitsSigned w64 most = search rules in
    let g : FitsSigned w64 w = search rules in
    let h : FitsSigned w128 c.energy.result = search rules in
    let one : c.rely.result ≡ Ok true = ok_true c.rely.result c.in_ok-rely.field-0 c.in_ok-rely.was c.if-not-branch.false in
    let is = rw (to_z-of_z w64 most f) at c.at_most.ensures in
    let e = simp to_z-of_z at c.energy.ensures in
    let wide : pos 0 ≤ℤ w = false_lt w (pos 0) (rw (to_z-of_z w64 w g) at c.if-case-lt0.false) in
    let k = energy-next-fits w most g f in
    let all = rw (to_z-of_z w128 c.energy.result h, e, to_z-of_z w128 ((w *ℤ most) +ℤ pos 1) k) at (c.charge_all.ensures ok) in
    over-capacity c.args.past.now c.args.case.assumed c.args.case.time w c.args.resource.now most ((w *ℤ most) +ℤ pos 1) c.at_most.result c.args.facts.now.items c.rely.new.facts.items c.charge_all.new.facts.items
    wide refl is (c.rely.ensures one) all

pub returns-in_err-rely : goal.returns-in_err-rely
returns-in_err-rely c = λ ok. no_err _ _ _ ok c.from_residual.ensures.0

pub returns-then-not-branch : goal.returns-then-not-branch
returns-then-not-branch c = λ ok. no_yes _ _ ok refl

pub returns-then-case-lt0 : goal.returns-then-case-lt0
returns-then-case-lt0 c = λ ok. no_yes _ _ ok refl

pub greatest-most-requires : goal.greatest-most-requires
greatest-most-requires c = c.requires.resource.capacity

pub rely-requires-clause-subject : goal.rely-requires-clause-subject
rely-requires-clause-subject c = let l = c.requires.resource.capacity in rw c.at_most.ensures l

pub rely-requires-clause-facts : goal.rely-requires-clause-facts
rely-requires-clause-facts c = c.requires.facts

pub returns-then-most-lt0 : goal.returns-then-most-lt0
returns-then-most-lt0 c = λ ok.
    let most = c.greatest-most.result in
    let f : FitsSigned w64 most = search rules in
    let one : c.rely.result ≡ Ok true = ok_true c.rely.result c.in_ok-rely.field-0 c.in_ok-rely.was c.if-not-branch.false in
    let is = rw (to_z-of_z w64 most f) at c.at_most.ensures in
    under-capacity c.args.past.now c.args.case.assumed c.args.resource.now most c.at_most.result c.args.facts.now.items c.rely.new.facts.items (true_lt most (pos 0) (rw (to_z-of_z w64 most f) at c.if-most-lt0.true)) is (c.rely.ensures one)

pub overflow_add-energy : goal.overflow_add-energy
overflow_add-energy c =
    let most = c.greatest-most.result in
    let w = c.args.case.width in
    let f : FitsSigned w64 most = search rules in
    let g : FitsSigned w64 w = search rules in
    let h : FitsSigned w128 c.energy.result = search rules in
    let e = simp to_z-of_z at c.energy.ensures in
    rw (to_z-of_z w128 c.energy.result h, e) (energy-next-fits w most g f)

pub charge_all-requires-clause-resource : goal.charge_all-requires-clause-resource
charge_all-requires-clause-resource c = c.requires.resource

pub charge_all-requires-clause-need : goal.charge_all-requires-clause-need
charge_all-requires-clause-need c =
    let most = c.greatest-most.result in
    let w = c.args.case.width in
    let f : FitsSigned w64 most = search rules in
    let g : FitsSigned w64 w = search rules in
    let h : FitsSigned w128 c.energy.result = search rules in
    let e = simp to_z-of_z at c.energy.ensures in
    let k = energy-next-fits w most g f in
    rw (to_z-of_z w128 c.energy.result h, e, to_z-of_z w128 ((w *ℤ most) +ℤ pos 1) k) (times-next-some w most (false_lt w (pos 0) (rw (to_z-of_z w64 w g) at c.if-case-lt0.false)) (false_lt most (pos 0) (rw (to_z-of_z w64 most f) at c.if-most-lt0.false)))

pub charge_all-requires-clause-facts : goal.charge_all-requires-clause-facts
charge_all-requires-clause-facts c = (c.rely.ensures (ok_true c.rely.result c.in_ok-rely.field-0 c.in_ok-rely.was c.if-not-branch.false)).facts
