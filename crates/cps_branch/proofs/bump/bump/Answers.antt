-- Each atom bumps and marks its variable.
use Rattle.std.specs.Prelude.{◌↔◌, IsTrue}
use Rattle.std.proofs.Common.{◌≡◌, Bool, List, length, get_or, pos, refl, sym, ap, subst, arith, ◌∙◌, true≢false, inl, inr}
use Rattle.std.proofs.lemmas.List.{take_all}
use Rattle.cps_literal.specs.declared.atom.Atom.{Atom}
use Rattle.cps_literal.specs.declared.atom.Op.TheVariants.{Le}
use Rattle.cps_branch.specs.Activities.{AreGained, ReachesLimit, speaks_of}
use Rattle.cps_branch.proofs.BumpedActivities.{are_marked-more, gains-more, reaches-one, reaches-kept}
use Rattle.cps_branch.proofs.bump.bump.Goals as goal
use Rattle.cps_branch.proofs.bump.bump.Goals.{then-bump_one, else-bump_one}

-- what a read past the end would give
abbrev none : Atom
none = record { subject = 0; op = Le; value = pos 0 }

pub loop-atom-preserved : goal.loop-atom-preserved
loop-atom-preserved c =
    let clause = c.args.clause.now in
    let k = c.loop-atom.atom-index in
    let mid = c.loop-atom.activities in
    let new = c.bump_one.new.activities in
    let marks = c.loop-atom.marks in
    let marks' = c.bump_one.new.marks in
    let inv = c.loop-atom.invariant in
    let t = get_or clause k none in
    let len : length new ≡ length mid = omega arith in
    let P : Bool → Type 0 = λ b. IsTrue b ↔ ReachesLimit new in
    record {
      marks_length = omega (arith, inv.marks_length);
      gains = gains-more clause k t none marks marks' c.args.activities.now mid new (omega arith) refl len inv.marked c.bump_one.ensures.bumps inv.gains;
      marked = are_marked-more clause k (length c.args.activities.now) t none marks marks' mid new (omega arith) refl (omega (arith, inv.gains.same_length)) inv.marked c.bump_one.ensures.bumps;
      reached = elim c.if-bump_one.branch [
        | then-bump_one w ↦ subst P (sym w.reached-is) (λ _. let here = c.bump_one.ensures.reached.0 w.if-bump_one.true in (t.subject, here.0, here.1), λ _. refl)
        | else-bump_one w ↦ subst P (sym w.reached-is) (
          λ r. reaches-kept t.subject marks marks' mid new len c.bump_one.ensures.bumps (inv.reached.0 r),
          λ r. elim (reaches-one t.subject marks marks' mid new len c.bump_one.ensures.bumps r) [
            | inl before ↦ inv.reached.1 before
            | inr here ↦ absurd (true≢false (sym (c.bump_one.ensures.reached.1 here) ∙ w.if-bump_one.false))
          ],
        )
      ];
    }

pub returns-clause-gains : goal.returns-clause-gains
returns-clause-gains c =
    subst (λ (ts : List Atom). AreGained ts c.args.activities.now c.loop-atom.activities) (take_all c.loop-atom.atom-index c.args.clause.now (omega arith)) c.loop-atom.invariant.gains

pub returns-clause-marked : goal.returns-clause-marked
returns-clause-marked c = λ i l.
    c.loop-atom.invariant.marked.each i l ∙ ap (λ (ts : List Atom). speaks_of ts i) (take_all c.loop-atom.atom-index c.args.clause.now (omega arith))
