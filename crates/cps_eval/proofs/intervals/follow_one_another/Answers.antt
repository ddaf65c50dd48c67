-- One run more that follows, and one that does not.
use Rattle.std.proofs.Common.{◌≡◌, ◌-◌, ◌+◌, ◌≤ℤ◌, ◌<ℤ◌, ℤ, ℕ, true, false, refl, arith, rules, get_or, subst, FitsSigned, w64}
use lib.Signed.{lt_z}
use Rattle.std.proofs.lemmas.Int.{ints, to_z-of_z}
use Rattle.cps_eval.proofs.Following.{no_run, follow_more, apart_from_follow, overlap_refutes}
use Rattle.cps_eval.proofs.intervals.follow_one_another.Goals as goal

not_less : (x y : ℤ) → lt_z x y ≡ false → y ≤ℤ x
not_less x y e = grind (arith, ints)

less : (x y : ℤ) → lt_z x y ≡ true → x <ℤ y
less x y e = grind (arith, ints)

pub loop-k-preserved : goal.loop-k-preserved
loop-k-preserved c =
    let runs = c.args.runs.now in
    let k = c.loop-k.k in
    let low = c.loop-k.auto.k in
    let fe : FitsSigned w64 (get_or runs (k - 1) no_run).end = search rules in
    let fs : FitsSigned w64 (get_or runs k no_run).start = search rules in
    let next = simp to_z-of_z at c.if-runs-k.false in
    follow_more runs k (omega arith) c.loop-k.invariant (not_less _ _ next)

pub returns : goal.returns
returns c =
    let past = c.loop-k-test.false in
    (λ _. apart_from_follow c.args.runs.now c.requires.forward (λ k l. c.loop-k.invariant k (omega arith)), λ _. refl)

pub returns-then-runs-k : goal.returns-then-runs-k
returns-then-runs-k c =
    let runs = c.args.runs.now in
    let k = c.loop-k.k in
    let low = c.loop-k.auto.k in
    let fe : FitsSigned w64 (get_or runs (k - 1) no_run).end = search rules in
    let fs : FitsSigned w64 (get_or runs k no_run).start = search rules in
    let down = simp to_z-of_z at c.if-runs-k.true in
    let e : k ≡ k - 1 + 1 = omega arith in
    let over = subst (λ (i : ℕ). (get_or runs i no_run).start <ℤ (get_or runs (k - 1) no_run).end) e (less _ _ down) in
    (λ t. cc, λ h. absurd (overlap_refutes runs (k - 1) c.requires.order c.requires.forward (omega arith) over h))
