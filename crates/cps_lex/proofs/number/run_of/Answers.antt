-- One byte more of a number is counted.
use Rattle.std.proofs.Common.{◌≡◌, ◌∙◌, ◌+◌, ◌&&◌, Bool, true, false, drop, get_or, refl, sym, subst}
use Rattle.cps_lex.specs.Bytes.{belongs_to_number, is_exponent_mark}
use Rattle.cps_lex.specs.Scan.{number_run}
use Rattle.cps_lex.proofs.Fronts.{counted_more}
use Rattle.cps_lex.proofs.number.run_of.Goals.{then-signs, else-signs}
use Rattle.cps_lex.proofs.number.run_of.Goals as goal

pub loop-i-preserved : goal.loop-i-preserved
loop-i-preserved c =
    let rest = c.args.rest.now in
    let i = c.loop-i.i in
    let signs = c.has_signs-signs.result in
    let b = get_or rest i 0 in
    let belongs : belongs_to_number c.loop-i.marked b ≡ true = sym c.belongs_to_number.ensures ∙ c.if-not-belongs_to_number.false in
    let mark : c.if-signs.marked ≡ (signs && is_exponent_mark b) = elim c.if-signs.branch [
      | then-signs w ↦ rw w.if-signs.true (w.marked-is ∙ w.is_exponent_mark-marked.ensures)
      | else-signs w ↦ rw w.if-signs.false (w.marked-is ∙ w.if-signs.false)
    ] in record {
      run = subst (λ (marked : Bool). (i + 1) + number_run signs marked (drop (i + 1) rest) ≡ number_run signs false rest) (sym mark)
          (counted_more (number_run signs c.loop-i.marked) (number_run signs (signs && is_exponent_mark b)) rest i (number_run signs false rest) c.loop-i-test.true (rw belongs refl) c.loop-i.invariant.run);
      same = c.loop-i.invariant.same;
    }
