-- One place more that is led back to, or one that is not, and all of them.
use Rattle.std.specs.Prelude.{nat_abs}
use Rattle.std.proofs.Common.{◌≡◌, ◌<◌, ◌∙◌, sym, ap, of_z, true, length, get_or, pos, arith, rules, FitsSigned, w64}
use Rattle.std.proofs.lemmas.Int.{to_z-of_z}
use Rattle.cps_model.proofs.Pairs.{All-from_test}
use Rattle.cps_eval.specs.Places.{is_place, number_at}
use Rattle.cps_eval.proofs.Inverses.{place_not_negative, place_inside, number_there, back_more, back_other, back_all}
use Rattle.cps_eval.proofs.Words.{one_word}
use Rattle.cps_eval.proofs.sequences.lead_back.Goals as goal

pub overflow_cast-place : goal.overflow_cast-place
overflow_cast-place c =
    let n = length c.args.others.now in
    let p = get_or c.args.some.now c.loop-k.k (pos 0) in
    let fits : FitsSigned w64 p = search rules in
    let place : is_place n p ≡ true = All-from_test (is_place n) c.args.some.now c.requires c.loop-k.k (pos 0) (omega arith) in
    let inside : nat_abs p < n = place_inside n p place in
    rw (to_z-of_z w64 p fits) (place_not_negative n p place, search rules)

pub offset_bounds-others-place : goal.offset_bounds-others-place
offset_bounds-others-place c =
    let n = length c.args.others.now in
    let p = get_or c.args.some.now c.loop-k.k (pos 0) in
    let fits : FitsSigned w64 p = search rules in
    let inside : nat_abs p < n = place_inside n p (All-from_test (is_place n) c.args.some.now c.requires c.loop-k.k (pos 0) (omega arith)) in
    rw (to_z-of_z w64 p fits) (search rules)

pub bounds-others-place : goal.bounds-others-place
bounds-others-place c =
    let n = length c.args.others.now in
    let p = get_or c.args.some.now c.loop-k.k (pos 0) in
    let fits : FitsSigned w64 p = search rules in
    rw (to_z-of_z w64 p fits) (place_inside n p (All-from_test (is_place n) c.args.some.now c.requires c.loop-k.k (pos 0) (omega arith)))

pub returns-then-others-place : goal.returns-then-others-place
returns-then-others-place c =
    let g = c.args.others.now in
    let n = length g in
    let ps = c.args.some.now in
    let k = c.loop-k.k in
    let p = get_or ps k (pos 0) in
    let fits : FitsSigned w64 p = search rules in
    let there = number_there g n p (All-from_test (is_place n) ps c.requires k (pos 0) (omega arith)) in
    let test = simp to_z-of_z at c.if-others-place.true in
    back_other g ps k _ (omega arith) (λ e. test (ap (of_z w64) (sym there ∙ e))) c.loop-k.invariant

pub loop-k-preserved : goal.loop-k-preserved
loop-k-preserved c =
    let g = c.args.others.now in
    let n = length g in
    let ps = c.args.some.now in
    let k = c.loop-k.k in
    let p = get_or ps k (pos 0) in
    let q = get_or g (nat_abs p) (pos 0) in
    let fits : FitsSigned w64 p = search rules in
    let fq : FitsSigned w64 q = search rules in
    let fk : FitsSigned w64 (pos k) = search rules in
    let there : number_at g p ≡ q = number_there g n p (All-from_test (is_place n) ps c.requires k (pos 0) (omega arith)) in
    let test : of_z w64 q ≡ k = simp to_z-of_z at c.if-others-place.false in
    back_more g ps k _ (omega arith) (there ∙ one_word w64 q (pos k) fq fk test) c.loop-k.invariant

pub returns : goal.returns
returns c = back_all c.args.others.now c.args.some.now c.loop-k.k _ (omega arith) c.loop-k.invariant
