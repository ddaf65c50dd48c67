-- The two ends of a set of values, and whether it has the atom's own value, say whether all its values meet the atom or none.
use Rattle.std.proofs.Common.{rules, FitsSigned, w64, ◌∙◌, inl, inr}
use Rattle.std.proofs.lemmas.Int.{to_z-of_z}
use Rattle.cps_trail.proofs.Hulls.{iff, had_alone, le_yes, le_no, ge_yes, ge_no, eq_yes, eq_no, ne_yes, ne_no}
use Rattle.cps_trail.proofs.store.truth_between.Goals as goal
use Rattle.cps_trail.proofs.store.truth_between.Goals.{then-had_value, else-had_value, then-had_value-2, else-had_value-2}

pub returns-in-Le-clause-yes : goal.returns-in-Le-clause-yes
returns-in-Le-clause-yes c = λ p hull had.
    let fits : FitsSigned w64 c.args.atom.value = search rules in
    let high : FitsSigned w64 c.args.ends.1 = search rules in
    iff (simp to_z-of_z at c.truth_by.ensures.yes) (le_yes p c.args.ends c.args.atom.value hull c.args.atom.op c.in-Le.is)

pub returns-in-Le-clause-no : goal.returns-in-Le-clause-no
returns-in-Le-clause-no c = λ p hull had.
    let fits : FitsSigned w64 c.args.atom.value = search rules in
    let low : FitsSigned w64 c.args.ends.0 = search rules in
    iff (simp to_z-of_z at c.truth_by.ensures.no) (le_no p c.args.ends c.args.atom.value hull c.args.atom.op c.in-Le.is)

pub returns-in-Ge-clause-yes : goal.returns-in-Ge-clause-yes
returns-in-Ge-clause-yes c = λ p hull had.
    let fits : FitsSigned w64 c.args.atom.value = search rules in
    let low : FitsSigned w64 c.args.ends.0 = search rules in
    iff (simp to_z-of_z at c.truth_by-in-Ge.ensures.yes) (ge_yes p c.args.ends c.args.atom.value hull c.args.atom.op c.in-Ge.is)

pub returns-in-Ge-clause-no : goal.returns-in-Ge-clause-no
returns-in-Ge-clause-no c = λ p hull had.
    let fits : FitsSigned w64 c.args.atom.value = search rules in
    let high : FitsSigned w64 c.args.ends.1 = search rules in
    iff (simp to_z-of_z at c.truth_by-in-Ge.ensures.no) (ge_no p c.args.ends c.args.atom.value hull c.args.atom.op c.in-Ge.is)

pub returns-after-had_value-clause-yes : goal.returns-after-had_value-clause-yes
returns-after-had_value-clause-yes c = λ p hull had.
    let low : FitsSigned w64 c.args.ends.0 = search rules in
    let high : FitsSigned w64 c.args.ends.1 = search rules in
    let alone = had_alone c.if-had_value.truth_by c.args.had_value c.args.ends.0 c.args.ends.1 low high (elim c.if-had_value.branch [
      | then-had_value w ↦ inl (w.if-had_value.true, w.truth_by-is)
      | else-had_value w ↦ inr (w.if-had_value.false, w.truth_by-is ∙ w.if-had_value.false)
    ]) in
    iff (iff c.truth_by-in-Eq.ensures.yes alone) (eq_yes p c.args.ends c.args.atom.value hull c.args.atom.op c.args.had_value had c.in-Eq.is)

pub returns-after-had_value-clause-no : goal.returns-after-had_value-clause-no
returns-after-had_value-clause-no c = λ p hull had.
    iff c.truth_by-in-Eq.ensures.no (eq_no p c.args.ends c.args.atom.value hull c.args.atom.op c.args.had_value had c.in-Eq.is)

pub returns-after-had_value-2-clause-yes : goal.returns-after-had_value-2-clause-yes
returns-after-had_value-2-clause-yes c = λ p hull had.
    iff c.truth_by-in-Ne.ensures.yes (ne_yes p c.args.ends c.args.atom.value hull c.args.atom.op c.args.had_value had c.in-Ne.is)

pub returns-after-had_value-2-clause-no : goal.returns-after-had_value-2-clause-no
returns-after-had_value-2-clause-no c = λ p hull had.
    let low : FitsSigned w64 c.args.ends.0 = search rules in
    let high : FitsSigned w64 c.args.ends.1 = search rules in
    let alone = had_alone c.if-had_value-2.truth_by c.args.had_value c.args.ends.0 c.args.ends.1 low high (elim c.if-had_value-2.branch [
      | then-had_value-2 w ↦ inl (w.if-had_value-2.true, w.truth_by-is)
      | else-had_value-2 w ↦ inr (w.if-had_value-2.false, w.truth_by-is ∙ w.if-had_value-2.false)
    ]) in
    iff (iff c.truth_by-in-Ne.ensures.no alone) (ne_no p c.args.ends c.args.atom.value hull c.args.atom.op c.args.had_value had c.in-Ne.is)
