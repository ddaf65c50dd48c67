-- What is kept out of the values of fixed positions is given, one position more or not.
use Rattle.std.proofs.Common.{List, ap, sym, subst}
use Rattle.cps_rule.specs.declared.rule.Narrowing.{Narrowing}
use Rattle.cps_p_alldiff.specs.Bars.{AreGivenBars}
use Rattle.cps_p_alldiff.proofs.bars.clear_fixed.Goals as goal
use Rattle.cps_p_alldiff.proofs.bars.clear_fixed.Goals.{then-each+then-not-has+then-is_full+in_ok-keep_out+then-len-before+in_ok-add, then-each+then-not-has+then-is_full+in_ok-keep_out+else-len-before, else-each}

pub loop-place-preserved : goal.loop-place-preserved
loop-place-preserved c = elim c.if-each.branch [
  | then-each+then-not-has+then-is_full+in_ok-keep_out+then-len-before+in_ok-add w ↦ subst (λ (ns : List Narrowing). AreGivenBars c.args.store.now c.args.subjects.now ns) (sym (ap (λ v. v.items) w.found-is)) w.in_ok-keep_out.ensures
  | then-each+then-not-has+then-is_full+in_ok-keep_out+else-len-before w ↦ subst (λ (ns : List Narrowing). AreGivenBars c.args.store.now c.args.subjects.now ns) (sym (ap (λ v. v.items) w.found-is)) w.in_ok-keep_out.ensures
  | else-each w ↦ subst (λ (ns : List Narrowing). AreGivenBars c.args.store.now c.args.subjects.now ns) (sym (ap (λ v. v.items) w.found-is)) c.loop-place.invariant
]
