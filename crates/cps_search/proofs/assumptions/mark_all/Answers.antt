use Rattle.std.specs.Prelude.{◌↔◌}
use Rattle.std.specs.List.{Contains}
use Rattle.std.proofs.Common.{◌≡◌, ◌⊎◌, ◌∙◌, ℤ, List, true, subst, arith}
use Rattle.std.proofs.lemmas.List.{take_all}
use Rattle.cps_literal.specs.declared.atom.Atom.{Atom}
use Rattle.cps_instance.specs.Posting.{atom_of}
use Rattle.cps_search.specs.Assumptions.{is_marked}
use Rattle.cps_search.proofs.LiteralMarks.{marked_more, no_atom}
use Rattle.cps_search.proofs.assumptions.mark_all.Goals as goal

pub mark-requires : goal.mark-requires
mark-requires c =
    let h = c.requires c.loop-atom.atom-index no_atom c.loop-atom-test.true in
    (h.0, h.1, omega (arith, h.2, c.loop-atom.invariant.same_length))

pub loop-atom-preserved : goal.loop-atom-preserved
loop-atom-preserved c =
    let i = c.loop-atom.atom-index in
    let h = c.requires i no_atom c.loop-atom-test.true in
    record {
      same_length = c.mark.ensures.same_length ∙ c.loop-atom.invariant.same_length;
      marks = marked_more c.args.marks.now c.loop-atom.marks c.mark.new.marks c.args.decisions.now i no_atom h.0 c.loop-atom-test.true h.1 c.mark.ensures.here c.mark.ensures.others c.loop-atom.invariant.marks;
    }

pub returns-clause-marks : goal.returns-clause-marks
returns-clause-marks c =
    subst (λ (ts : List Atom). (r : ℤ) → is_marked c.loop-atom.marks r ≡ true ↔ ((is_marked c.args.marks.now r ≡ true) ⊎ Contains ts (atom_of r)))
    (take_all c.loop-atom.atom-index c.args.decisions.now c.loop-atom-test.false) c.loop-atom.invariant.marks
