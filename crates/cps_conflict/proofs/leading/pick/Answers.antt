-- Each marked decision is picked.
use Rattle.std.proofs.Common.{ℕ, ◌≡◌, ◌+◌, ◌<◌, length, List, get_or, sym, subst, ◌∙◌, true≢false, arith}
use Rattle.cps_literal.specs.declared.atom.Atom.{Atom}
use Rattle.cps_trail.specs.Trail.{Entry}
use Rattle.cps_conflict.specs.Leading.{ArePicked}
use Rattle.cps_conflict.proofs.Uniting.{none_view}
use Rattle.cps_conflict.proofs.Walking.{Picked-more, Picked-skip}
use Rattle.cps_conflict.proofs.leading.pick.Goals as goal
use Rattle.cps_conflict.proofs.leading.pick.Goals.{then-marks-place+then-is_decision+in_ok-push, else-marks-place, else-marks-place-via-then-marks-place+else-is_decision, else-marks-place-via-else-marks-place}

pub loop-place-preserved : goal.loop-place-preserved
loop-place-preserved c =
    let s = c.args.store.now in
    let k = c.loop-place.place in
    let ms = c.args.marks.now in
    let l : k < length s.entries = omega (arith, c.loop-place-test.true, c.entries-entries.ensures.views.same_length) in
    let shown = λ (d : Entry). c.entries-entries.ensures.views.each k d none_view l in
    elim c.if-marks-place.branch [
      | then-marks-place+then-is_decision+in_ok-push w ↦
          subst (λ v. ArePicked s ms (k + 1) v.items) (sym w.decisions-is)
          (subst (λ (ts : List Atom). ArePicked s ms (k + 1) ts) (sym w.in_ok-push.ensures.items)
          (Picked-more s ms k c.loop-place.decisions.items (get_or c.entries-entries.result.now k none_view).atom c.loop-place.invariant w.if-marks-place.true
          (λ d. (shown d).decision.0 (w.is_decision.ensures.0 w.if-is_decision.true)) (λ d. sym (shown d).atom)))
      | else-marks-place w ↦
          subst (λ v. ArePicked s ms (k + 1) v.items) (sym w.decisions-is)
          (elim w.else-marks-place.branch [
            | else-marks-place-via-then-marks-place+else-is_decision v ↦
                Picked-skip s ms k c.loop-place.decisions.items c.loop-place.invariant (λ _ d decided. true≢false (sym (v.is_decision.ensures.1 ((shown d).decision.1 decided)) ∙ v.if-is_decision.false))
            | else-marks-place-via-else-marks-place v ↦ Picked-skip s ms k c.loop-place.decisions.items c.loop-place.invariant (λ on d _. true≢false (sym on ∙ v.if-marks-place.false))
          ])
    ]

pub returns : goal.returns
returns c =
    let all : c.loop-place.place ≡ length c.args.store.now.entries = omega (arith, c.entries-entries.ensures.views.same_length) in
    subst (λ (n : ℕ). ArePicked c.args.store.now c.args.marks.now n c.loop-place.decisions.items) all c.loop-place.invariant
