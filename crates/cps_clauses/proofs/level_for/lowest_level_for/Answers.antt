use Rattle.std.proofs.Common.{◌≤◌, ◌⊎◌, take, length, get_or, sym, subst, inl, inr, arith, ℕ}
use Rattle.cps_trail.specs.Trail.{IsTrueAfter}
use Rattle.cps_clauses.specs.Quiet.{IsLevelFor}
use Rattle.cps_clauses.proofs.QuietClauses.{none}
use Rattle.cps_clauses.proofs.Levels.{level_at, present_by_two, present_by_true}
use Rattle.cps_clauses.proofs.level_for.lowest_level_for.Goals as goal
use Rattle.cps_clauses.proofs.level_for.lowest_level_for.Goals.{else-two-count-2-via-then-two-count-2+else-was_true, else-two-count-2-via-else-two-count-2}

pub returns-then-two-count : goal.returns-then-two-count
returns-then-two-count c =
    subst (λ (n : ℕ). IsLevelFor c.args.store.now c.args.atoms.now n) (sym c.level.ensures.is)
    (present_by_two c.args.store.now c.args.atoms.now c.last_two_listed-two.result c.last_two_listed-two.ensures (omega (arith, c.if-two-count.true, c.entries-count.ensures.views.same_length)))

pub returns-then-was_true : goal.returns-then-was_true
returns-then-was_true c =
    subst (λ (n : ℕ). IsLevelFor c.args.store.now c.args.atoms.now n) (sym c.level-then-was_true.ensures.is)
    (present_by_true c.args.store.now c.args.atoms.now c.last_two_listed-two.result c.level_of-level.result c.end_of-end.result c.last_two_listed-two.ensures c.level_of-level.ensures c.end_of-end.ensures
    (omega (arith, c.if-two-count-2.true, c.entries-count.ensures.views.same_length)) (c.was_true.ensures.yes c.if-was_true.true))

pub returns : goal.returns
returns c =
    let s = c.args.store.now in
    let atoms = c.args.atoms.now in
    let two = c.last_two_listed-two.result in
    let left : (c.last_two_listed-two.result.fell ≤ length c.args.store.now.entries) ⊎ (IsTrueAfter c.args.store.now.first (take c.end_of-end.result c.args.store.now.entries) (get_or c.args.atoms.now c.last_two_listed-two.result.place none) → ⊥) =
    elim c.else-two-count-2.branch [
      | else-two-count-2-via-then-two-count-2+else-was_true w ↦ inr (w.was_true.ensures.no w.if-was_true.false)
      | else-two-count-2-via-else-two-count-2 w ↦ inl (omega (arith, w.if-two-count-2.false, c.entries-count.ensures.views.same_length))
    ] in
    level_at s atoms two c.level_of-level.result c.end_of-end.result c.entries-count.ensures.sound c.requires.fits c.last_two_listed-two.ensures
    (omega (arith, c.if-two-count.false, c.entries-count.ensures.views.same_length)) c.level_of-level.ensures c.end_of-end.ensures left
