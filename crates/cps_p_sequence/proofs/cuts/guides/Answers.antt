-- Each row has a mark for each state.
use Rattle.std.proofs.Common.{◌≡◌, ◌-◌, ℕ, Bool, List, length, get_or, sym, ◌∙◌, ap, subst, arith}
use Rattle.cps_p_sequence.specs.Networks.{IsStepWithin}
use Rattle.cps_p_sequence.proofs.cuts.guides.Goals as goal

pub loop-after-init : goal.loop-after-init
loop-after-init c = ap (λ (xs : List Bool). length xs) c.in_ok-heads.ensures.items

pub guide_back-requires-clause-subject : goal.guide_back-requires-clause-subject
guide_back-requires-clause-subject c = rw c.subject_before.ensures (c.requires.subjects (length c.args.net.now.subjects.now - 1 - c.loop-after.after) 0 (omega (arith, c.loop-after-test.true)))

pub guide_back-requires-clause-steps : goal.guide_back-requires-clause-steps
guide_back-requires-clause-steps c =
    let e : length c.as_slice-row.result.now ≡ length c.args.net.now.last.now = ap (λ (xs : List Bool). length xs) c.as_slice-row.ensures.value ∙ c.loop-after.invariant in
    λ k d l. subst (λ (n : ℕ). IsStepWithin n (get_or c.args.net.now.steps.now k d)) (sym e) (c.requires.steps k d l)

pub loop-after-preserved : goal.loop-after-preserved
loop-after-preserved c = rw c.swap.ensures.x_after (c.in_ok-guide_back.ensures ∙ ap (λ (xs : List Bool). length xs) c.as_slice-row.ensures.value ∙ c.loop-after.invariant)
