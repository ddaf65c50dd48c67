-- Each atom takes back the mark of its subject.
use Rattle.std.proofs.Common.{ℕ, ◌+◌, ◌≡◌, ◌<◌, Bool, List, length, drop, get_or, pos, true, false, refl, sym, subst, arith}
use Rattle.cps_literal.specs.declared.atom.Atom.{Atom}
use Rattle.cps_literal.specs.declared.atom.Op.TheVariants.{Le}
use Rattle.cps_branch.specs.Activities.{speaks_of}
use Rattle.cps_branch.proofs.BumpedActivities.{unmarked_one, unmarked_past}
use Rattle.cps_branch.proofs.bump.unmark.Goals as goal
use Rattle.cps_branch.proofs.bump.unmark.Goals.{then-subject-marks, else-subject-marks}

-- what a read past the end would give
abbrev none : Atom
none = record { subject = 0; op = Le; value = pos 0 }

pub loop-atom-preserved : goal.loop-atom-preserved
loop-atom-preserved c =
    let clause = c.args.clause.now in
    let k = c.loop-atom.atom-index in
    let marks = c.loop-atom.marks in
    let t = get_or clause k none in
    let P : List Bool → Type 0 = λ ms. (i : ℕ) → i < length ms → get_or ms i false ≡ true → speaks_of (drop (k + 1) clause) i ≡ true in
    elim c.if-subject-marks.branch [
      | then-subject-marks w ↦ subst P (sym w.marks-is) (unmarked_one clause k t none marks (omega arith) refl c.loop-atom.invariant)
      | else-subject-marks w ↦ subst P (sym w.marks-is) (unmarked_past clause k t none marks (omega arith) refl c.loop-atom.invariant w.if-subject-marks.false)
    ]
