-- Each number of the run so far is a label, or is not open, or is kept off.
use Rattle.std.proofs.Common.{◌∙◌, ◌+ℤ◌, pos, sym, rules, arith, w64, FitsSigned, to_z, true≢false}
use Rattle.std.proofs.lemmas.Int.{ints, to_z-of_z}
use Rattle.cps_p_sequence.proofs.Layering.{hole_given, hole_true, more_kept}
use Rattle.cps_p_sequence.proofs.Keeping.{next_fits, whole_more}
use Rattle.cps_p_sequence.proofs.keep.keep_off_run.Goals as goal

pub loop-value-init : goal.loop-value-init
loop-value-init c = record { given = λ b h gs. gs; kept = λ all. all; whole = λ all x l m. absurd (omega (arith, ints)) }

pub loop-value-preserved-then-is_listed : goal.loop-value-preserved-then-is_listed
loop-value-preserved-then-is_listed c =
    let v = to_z w64 c.loop-value.value-bits in
    let fits : FitsSigned w64 v = search rules in
    let end : FitsSigned w64 c.args.run.1 = search rules in
    let before = simp to_z-of_z at c.loop-value-test.true in
    let f : FitsSigned w64 (v +ℤ pos 1) = next_fits v c.args.run.1 fits end before in
    let p = c.loop-value.invariant in
    rw (to_z-of_z w64 (v +ℤ pos 1) f)
    (record { given = p.given; kept = p.kept; whole = λ all. whole_more c.args.store.now c.args.subject c.args.labels.now c.args.run.0 v (p.whole all) (λ o. c.is_listed.ensures.listed c.if-is_listed.true) })

pub loop-value-preserved-then-not-is_open : goal.loop-value-preserved-then-not-is_open
loop-value-preserved-then-not-is_open c =
    let v = to_z w64 c.loop-value.value-bits in
    let fits : FitsSigned w64 v = search rules in
    let end : FitsSigned w64 c.args.run.1 = search rules in
    let before = simp to_z-of_z at c.loop-value-test.true in
    let f : FitsSigned w64 (v +ℤ pos 1) = next_fits v c.args.run.1 fits end before in
    let p = c.loop-value.invariant in
    rw (to_z-of_z w64 (v +ℤ pos 1) f)
    (record { given = p.given; kept = p.kept; whole = λ all. whole_more c.args.store.now c.args.subject c.args.labels.now c.args.run.0 v (p.whole all) (λ o. absurd (true≢false (sym (c.is_open.ensures.1 o) ∙ c.if-not-is_open.true))) })

pub loop-value-preserved : goal.loop-value-preserved
loop-value-preserved c =
    let s = c.args.store.now in
    let i = c.args.subject in
    let v = to_z w64 c.loop-value.value-bits in
    let fits : FitsSigned w64 v = search rules in
    let end : FitsSigned w64 c.args.run.1 = search rules in
    let before = simp to_z-of_z at c.loop-value-test.true in
    let f : FitsSigned w64 (v +ℤ pos 1) = next_fits v c.args.run.1 fits end before in
    let old = c.loop-value.found.items in
    let new = c.push.new.self.items in
    let n = c.given.result in
    let p = c.loop-value.invariant in
    rw (to_z-of_z w64 (v +ℤ pos 1) f)
    (record {
      given = λ b h gs. hole_given s old new n c.in_ok-push.ensures.items i v c.given.ensures.subject c.given.ensures.value c.given.ensures.op b c.args.labels.now c.requires.subject (c.is_listed.ensures.missing c.if-is_listed.false) h (p.given b h gs);
      kept = λ all. p.kept (more_kept s old new n c.in_ok-push.ensures.items all);
      whole = λ all. whole_more s i c.args.labels.now c.args.run.0 v (p.whole (more_kept s old new n c.in_ok-push.ensures.items all))
          (λ o. absurd (hole_true s old new n c.in_ok-push.ensures.items i v c.given.ensures.subject c.given.ensures.value c.given.ensures.op all o));
    })

pub returns : goal.returns
returns c =
    let p = c.loop-value.invariant in
    let past = c.loop-value-test.false in
    record { given = p.given; kept = p.kept; whole = λ all x l m. p.whole all x l (omega (arith, ints)) }
