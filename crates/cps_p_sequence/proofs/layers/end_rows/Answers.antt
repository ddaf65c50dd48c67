-- The rows that are put so far are those of the last subjects.
use Rattle.std.proofs.Common.{◌≡◌, ◌++◌, List, Bool, length, get_or, sym, ◌∙◌, ap, subst, ℕ, arith, ◌-◌}
use Rattle.cps_p_sequence.specs.Networks.{IsStepWithin}
use Rattle.cps_p_sequence.specs.Runs.{AreTails}
use Rattle.cps_p_sequence.proofs.Layering.{back_begun, back_more, back_whole}
use Rattle.cps_p_sequence.proofs.layers.end_rows.Goals as goal

pub loop-after-init : goal.loop-after-init
loop-after-init c = back_begun c.args.store.now c.args.net.now.steps.now c.args.net.now.last.now c.args.net.now.subjects.now c.clear.new.self.items c.extend_from_slice.new.self.items c.clear.ensures.items (rw c.clear-2.ensures.items at c.in_ok-extend_from_slice.ensures.items)

pub tails_of-requires-clause-subject : goal.tails_of-requires-clause-subject
tails_of-requires-clause-subject c = rw c.subject_before-subject.ensures (c.requires.subjects (length c.args.net.now.subjects.now - 1 - c.loop-after.after) 0 (omega (arith, c.loop-after-test.true)))

pub tails_of-requires-clause-steps : goal.tails_of-requires-clause-steps
tails_of-requires-clause-steps c =
    let e : length c.as_slice-heads.result.now ≡ length c.args.net.now.last.now = ap (λ (xs : List Bool). length xs) c.as_slice-heads.ensures.value ∙ c.loop-after.invariant.ends.size in
    λ k d l. subst (λ (n : ℕ). IsStepWithin n (get_or c.args.net.now.steps.now k d)) (sym e) (c.requires.steps k d l)

pub loop-after-preserved : goal.loop-after-preserved
loop-after-preserved c =
    let s = c.args.store.now in
    let net = c.args.net.now in
    let is = net.subjects.now in
    let n = c.loop-after.after in
    let i = c.subject_before-subject.result in
    let pushed : c.extend_from_slice-in-loop-after.new.self.items ≡ c.loop-after.room.rows.items ++ c.loop-after.room.row.items = c.in_ok-extend_from_slice-2.ensures.items ∙ ap (λ (xs : List Bool). c.loop-after.room.rows.items ++ xs) c.as_slice-heads.ensures.value in
    let tails : AreTails s i net.steps.now (length net.steps.now) c.loop-after.room.row.items c.tails_of.new.tails.items = subst (λ (xs : List Bool). AreTails s i net.steps.now (length net.steps.now) xs c.tails_of.new.tails.items) c.as_slice-heads.ensures.value c.in_ok-tails_of.ensures in
    rw c.swap.ensures.x_after (back_more s net.steps.now net.last.now is n i c.loop-after.room.rows.items c.extend_from_slice-in-loop-after.new.self.items c.loop-after.room.row.items c.tails_of.new.tails.items c.loop-after-test.true c.subject_before-subject.ensures pushed tails c.loop-after.invariant)

pub returns : goal.returns
returns c =
    let net = c.args.net.now in
    let both = back_whole c.args.store.now net.steps.now net.last.now net.subjects.now c.loop-after.after c.loop-after.room.rows.items c.loop-after.room.row.items c.loop-after-test.false c.loop-after.invariant in
    record { rows = both.0; ends = both.1 }
