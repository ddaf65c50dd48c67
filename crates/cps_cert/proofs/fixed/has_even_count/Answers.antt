-- One literal more, fixed to true or to false.
use Rattle.std.specs.Prelude.{◌%◌}
use Rattle.std.proofs.Common.{◌+◌, length, get_or, drop, false, refl, pos, arith, rules, FitsSigned, w32}
use Rattle.std.proofs.lemmas.Int.{to_z-of_z}
use Rattle.std.proofs.lemmas.List.{drop_more, drop_all}
use Rattle.cps_model.specs.Values.{variable_of}
use Rattle.cps_validate.proofs.Passing.{named_within}
use Rattle.cps_rup.specs.Domains.{box_in}
use Rattle.cps_cert.proofs.Pairs.{none_counted, counted_true, counted_false, not_counted, even_if, even_only, not_true, even_test, test_even}
use Rattle.cps_cert.proofs.fixed.has_even_count.Goals as goal
use Rattle.cps_cert.proofs.fixed.has_even_count.Goals.{then-is_fixed_true, else-is_fixed_true+else-not-is_fixed_false}

pub loop-literal-init : goal.loop-literal-init
loop-literal-init c = record { room = omega arith; counted = none_counted (box_in c.args.domains.now) c.args.literals.now }

pub loop-literal-preserved : goal.loop-literal-preserved
loop-literal-preserved c =
    let box = box_in c.args.domains.now in
    let literals = c.args.literals.now in
    let k = c.loop-literal.literal-index in
    let r = get_or literals k (pos 0) in
    let fits : FitsSigned w32 r = search rules in
    let said = rw (to_z-of_z w32 r fits) at c.is_fixed_true.ensures in
    let next = drop_more literals k (pos 0) (omega arith) in
    let value = c.requires.values.some (variable_of r) (named_within (length c.args.domains.now) literals k (variable_of r) c.requires.named c.loop-literal-test.true refl) in
    let before = c.loop-literal.invariant in
    let room = before.room in
    elim c.if-is_fixed_true.branch [
      | then-is_fixed_true w ↦ (
          let is = w.count-is in
          record { room = omega arith; counted = rw is (counted_true box c.loop-literal.count r value.0 (drop (k + 1) literals) (drop k literals) literals next value.1 (said.0 w.if-is_fixed_true.true) before.counted) })
      | else-is_fixed_true+else-not-is_fixed_false w ↦ (
          let is = w.count-is in
          let told = rw (to_z-of_z w32 r fits) at w.is_fixed_false.ensures in
          record { room = omega arith; counted = rw is (counted_false box c.loop-literal.count r value.0 (drop (k + 1) literals) (drop k literals) literals next value.1 (told.0 w.if-not-is_fixed_false.false) before.counted) })
    ]

pub returns : goal.returns
returns c =
    let box = box_in c.args.domains.now in
    let none = drop_all c.loop-literal.literal-index c.args.literals.now c.loop-literal-test.false in (
      λ h. even_if box c.loop-literal.count (drop c.loop-literal.literal-index c.args.literals.now) c.args.literals.now none c.loop-literal.invariant.counted (even_test (c.loop-literal.count % 2) h),
      λ h. test_even (c.loop-literal.count % 2) (even_only box c.loop-literal.count (drop c.loop-literal.literal-index c.args.literals.now) c.args.literals.now none c.loop-literal.invariant.counted h),
    )

pub returns-then-not-is_fixed_false : goal.returns-then-not-is_fixed_false
returns-then-not-is_fixed_false c =
    let box = box_in c.args.domains.now in
    let literals = c.args.literals.now in
    let k = c.loop-literal.literal-index in
    let r = get_or literals k (pos 0) in
    let fits : FitsSigned w32 r = search rules in
    let said = rw (to_z-of_z w32 r fits) at c.is_fixed_true.ensures in
    let told = rw (to_z-of_z w32 r fits) at c.is_fixed_false.ensures in
    let next = drop_more literals k (pos 0) (omega arith) in (
      λ h. absurd (not_true false refl h),
      λ h. absurd (not_counted box c.loop-literal.count r (drop (k + 1) literals) (drop k literals) literals next (λ p. not_true c.is_fixed_true.result c.if-is_fixed_true.false (said.1 p)) (λ p. not_true c.is_fixed_false.result c.if-not-is_fixed_false.true (told.1 p)) c.loop-literal.invariant.counted h),
    )
