-- The states that are marked are those to which the labels of so many subjects lead beside the facts.
use Rattle.std.proofs.Common.{◌≡◌, ℕ, Bool, List, length, get_or, refl, sym, ◌∙◌, ap, subst, arith, true≢false}
use Rattle.cps_p_sequence.specs.Networks.{IsStepWithin}
use Rattle.cps_p_sequence.specs.Cuts.{Comes}
use Rattle.cps_p_sequence.proofs.Cutting.{come_begun, come_more, come_cut}
use Rattle.cps_p_sequence.proofs.Finding.{is_yes}
use Rattle.cps_p_sequence.proofs.cuts.cut.Goals as goal

pub loop-subject-init : goal.loop-subject-init
loop-subject-init c =
    let net = c.args.net.now in
    come_begun c.args.past.now c.args.goal net.steps.now net.first (length net.last.now) net.subjects.now c.clear.new.self.items c.mark_first.new.row.items c.clear.ensures.items c.in_ok-mark_first.ensures.size c.in_ok-mark_first.ensures.marked

pub lead_on-requires-clause-tails : goal.lead_on-requires-clause-tails
lead_on-requires-clause-tails c =
    let e : length c.as_slice-tails.result.now ≡ length c.args.net.now.last.now = ap (λ (xs : List Bool). length xs) c.as_slice-tails.ensures.value ∙ c.loop-subject.invariant.size in
    λ k d l. subst (λ (n : ℕ). IsStepWithin n (get_or c.args.net.now.steps.now k d)) (sym e) (c.requires.steps k d l)

pub lead_on-requires-clause-guide : goal.lead_on-requires-clause-guide
lead_on-requires-clause-guide c =
    λ k d l. subst (λ (n : ℕ). IsStepWithin n (get_or c.args.net.now.steps.now k d)) (sym c.top_row-guide.ensures.size) (c.requires.steps k d l)

pub lead_on-requires-clause-subject : goal.lead_on-requires-clause-subject
lead_on-requires-clause-subject c = c.requires.subjects c.loop-subject.subject-index 0 c.loop-subject-test.true

pub returns-then-len-count : goal.returns-then-len-count
returns-then-len-count c e = absurd (true≢false (sym (is_yes _ e)))

pub loop-subject-preserved : goal.loop-subject-preserved
loop-subject-preserved c =
    let s = c.args.past.now in
    let net = c.args.net.now in
    let is = net.subjects.now in
    let n = c.loop-subject.subject-index in
    let i = get_or is n 0 in
    let old = c.loop-subject.facts.items in
    let new = c.lead_on.new.facts.items in
    let heads = c.lead_on.new.heads.items in
    let comes : Comes s c.args.goal i net.steps.now (length net.steps.now) c.loop-subject.reached.items heads old new =
    subst (λ (xs : List Bool). Comes s c.args.goal i net.steps.now (length net.steps.now) xs heads old new) c.as_slice-tails.ensures.value c.in_ok-lead_on.ensures in
    rw c.swap.ensures.x_after (come_more s c.args.goal net.steps.now net.first (length net.last.now) is n i c.loop-subject.reached.items heads old new c.loop-subject-test.true refl comes c.loop-subject.invariant)

pub is_cut_off-requires : goal.is_cut_off-requires
is_cut_off-requires c = ap (λ (xs : List Bool). length xs) c.as_slice-marks.ensures.value ∙ c.loop-subject.invariant.size

pub returns : goal.returns
returns c e =
    let net = c.args.net.now in
    let is = net.subjects.now in
    let n = c.loop-subject.subject-index in
    let past = c.loop-subject-test.false in
    let whole : n ≡ length is = omega arith in
    let off = rw c.as_slice-marks.ensures.value at c.is_cut_off.ensures in
    come_cut c.args.past.now c.args.goal net.steps.now net.first (length net.last.now) is n c.loop-subject.facts.items c.loop-subject.reached.items net.last.now whole (off (is_yes _ e)) c.loop-subject.invariant
