-- One literal more, fixed to true or not.
use Rattle.std.proofs.Common.{◌+◌, get_or, drop, Bool, true, false, refl, subst, pos, arith, rules, FitsSigned, w32}
use Rattle.std.proofs.lemmas.Int.{to_z-of_z}
use Rattle.std.proofs.lemmas.List.{drop_more, drop_all}
use Rattle.cps_log.specs.Boxes.{IsFixedTrue}
use Rattle.cps_rup.specs.Domains.{box_in}
use Rattle.cps_cert.proofs.Pairs.{MoreNeeded, none_yet, passed, found_one, found_two, found_none, not_true}
use Rattle.cps_cert.proofs.fixed.two_fixed_true.Goals as goal
use Rattle.cps_cert.proofs.fixed.two_fixed_true.Goals.{then-is_fixed_true+else-found, else-is_fixed_true}

pub loop-literal-init : goal.loop-literal-init
loop-literal-init c = none_yet (IsFixedTrue (box_in c.args.domains.now)) c.args.literals.now

pub loop-literal-preserved : goal.loop-literal-preserved
loop-literal-preserved c =
    let P = IsFixedTrue (box_in c.args.domains.now) in
    let literals = c.args.literals.now in
    let k = c.loop-literal.literal-index in
    let r = get_or literals k (pos 0) in
    let fits : FitsSigned w32 r = search rules in
    let said = rw (to_z-of_z w32 r fits) at c.is_fixed_true.ensures in
    let next = drop_more literals k (pos 0) (omega arith) in
    elim c.if-is_fixed_true.branch [
      | then-is_fixed_true+else-found w ↦ (
          let before : MoreNeeded P false (drop k literals) literals = subst (λ (b : Bool). MoreNeeded P b (drop k literals) literals) w.if-found.false c.loop-literal.invariant in
          rw w.found-is (found_one P r (drop (k + 1) literals) (drop k literals) literals next (said.0 w.if-is_fixed_true.true) before))
      | else-is_fixed_true w ↦ rw w.found-is (passed P c.loop-literal.found r (drop (k + 1) literals) (drop k literals) literals next (λ h. not_true c.is_fixed_true.result w.if-is_fixed_true.false (said.1 h)) c.loop-literal.invariant)
    ]

pub returns-then-found : goal.returns-then-found
returns-then-found c =
    let P = IsFixedTrue (box_in c.args.domains.now) in
    let literals = c.args.literals.now in
    let k = c.loop-literal.literal-index in
    let r = get_or literals k (pos 0) in
    let fits : FitsSigned w32 r = search rules in
    let said = rw (to_z-of_z w32 r fits) at c.is_fixed_true.ensures in
    let next = drop_more literals k (pos 0) (omega arith) in
    let before : MoreNeeded P true (drop k literals) literals = subst (λ (b : Bool). MoreNeeded P b (drop k literals) literals) c.if-found.true c.loop-literal.invariant in
    (λ h. found_two P r (drop (k + 1) literals) (drop k literals) literals next (said.0 c.if-is_fixed_true.true) before, λ h. refl)

pub returns : goal.returns
returns c =
    let none = drop_all c.loop-literal.literal-index c.args.literals.now c.loop-literal-test.false in
    (λ h. absurd (not_true false refl h), λ h. absurd (found_none (IsFixedTrue (box_in c.args.domains.now)) c.loop-literal.found (drop c.loop-literal.literal-index c.args.literals.now) c.args.literals.now none c.loop-literal.invariant h))
