-- What is kept out of full intervals is given, one interval more or not.
use Rattle.std.proofs.Common.{List, ap, sym, subst}
use Rattle.cps_rule.specs.declared.rule.Narrowing.{Narrowing}
use Rattle.cps_p_alldiff.specs.Bars.{AreGivenBars}
use Rattle.cps_p_alldiff.proofs.bars.clear_all.Goals as goal
use Rattle.cps_p_alldiff.proofs.bars.clear_all.Goals.{then-is_full+in_ok-keep_out, else-is_full}

pub loop-hall-preserved : goal.loop-hall-preserved
loop-hall-preserved c = elim c.if-is_full.branch [
  | then-is_full+in_ok-keep_out w ↦ subst (λ (ns : List Narrowing). AreGivenBars c.args.store.now c.args.subjects.now ns) (sym (ap (λ v. v.items) w.found-is)) w.in_ok-keep_out.ensures
  | else-is_full w ↦ subst (λ (ns : List Narrowing). AreGivenBars c.args.store.now c.args.subjects.now ns) (sym (ap (λ v. v.items) w.found-is)) c.loop-hall.invariant
]
