use Rattle.std.proofs.Common.{rules, FitsSigned, w32, ◌≡◌, ◌∙◌, ◌<◌, ◌++◌, ◌∷◌, [], ℤ, pos, Bool, List, length, get_or, ap, arith, length-set, false}
use Rattle.std.proofs.lemmas.Int.{to_z-of_z}
use Rattle.cps_instance.specs.Posting.{atom_of}
use Rattle.cps_search.specs.Assumptions.{mark_of}
use Rattle.cps_search.proofs.LiteralMarks.{picks_marked, picks_unmarked, picked_all}
use Rattle.cps_search.proofs.assumptions.pick.Goals as goal
use Rattle.cps_search.proofs.assumptions.pick.Goals.{then-marks-place+in_ok-push, else-marks-place}

pub loop-reference-preserved : goal.loop-reference-preserved
loop-reference-preserved c =
    let rs = c.args.assumptions.now in
    let i = c.loop-reference.reference-index in
    let now = c.loop-reference.marks in
    let core = c.loop-reference.core.items in
    let h = c.loop-reference.invariant in
    let new = c.if-marks-place.marks in
    let more = c.if-marks-place.core.items in
    let l : i < length rs = omega (arith, c.loop-reference-test.true) in
    let r = get_or rs i (pos 0) in
    let fits : FitsSigned w32 r = search rules in
    let place : c.mark_of-place.result ≡ mark_of r = c.mark_of-place.ensures r (c.atom_of.ensures ∙ ap atom_of (to_z-of_z w32 r fits)) in
    let inside : c.mark_of-place.result < length now = omega (arith, place, c.requires i (pos 0) l, h.same_length) in
    elim c.if-marks-place.branch [
      | then-marks-place+in_ok-push w ↦ record {
        same_length = ap (λ (ms : List Bool). length ms) w.marks-is ∙ length-set now c.mark_of-place.result false ∙ h.same_length;
        rest = picks_marked c.args.marks.now now rs i (pos 0) core l h.rest new c.mark_of-place.result more place inside w.if-marks-place.true w.marks-is (ap (λ v. v.items) w.core-is ∙ w.in_ok-push.ensures.items ∙ ap (λ (q : ℤ). core ++ q ∷ []) (to_z-of_z w32 r fits));
      }
      | else-marks-place w ↦ record {
        same_length = ap (λ (ms : List Bool). length ms) w.marks-is ∙ h.same_length;
        rest = picks_unmarked c.args.marks.now now rs i (pos 0) core l h.rest new c.mark_of-place.result more place w.if-marks-place.false w.marks-is (ap (λ v. v.items) w.core-is);
      }
    ]

pub returns : goal.returns
returns c = picked_all c.args.marks.now c.loop-reference.marks c.args.assumptions.now c.loop-reference.reference-index c.loop-reference.core.items c.loop-reference-test.false c.loop-reference.invariant.rest
