-- One number more that is the same in both lists, or one that is not, and all of them.
use Rattle.std.proofs.Common.{◌∙◌, sym, get_or, pos, arith, rules, FitsSigned, w64}
use Rattle.std.proofs.lemmas.Int.{to_z-of_z}
use Rattle.cps_eval.proofs.Rows.{equal_more, equal_other, equal_all}
use Rattle.cps_eval.proofs.lookups.are_same.Goals as goal

pub returns-then-not-is_same : goal.returns-then-not-is_same
returns-then-not-is_same c =
    let xs = c.args.some.now in
    let ys = c.args.others.now in
    let k = c.loop-k.k in
    let fx : FitsSigned w64 (get_or xs k (pos 0)) = search rules in
    let fy : FitsSigned w64 (get_or ys k (pos 0)) = search rules in
    let is = simp to_z-of_z at c.is_same.ensures in
    equal_other xs ys k _ (omega arith) (omega arith) (sym is ∙ c.if-not-is_same.true) c.loop-k.invariant

pub loop-k-preserved : goal.loop-k-preserved
loop-k-preserved c =
    let xs = c.args.some.now in
    let ys = c.args.others.now in
    let k = c.loop-k.k in
    let fx : FitsSigned w64 (get_or xs k (pos 0)) = search rules in
    let fy : FitsSigned w64 (get_or ys k (pos 0)) = search rules in
    let is = simp to_z-of_z at c.is_same.ensures in
    equal_more xs ys k _ (omega arith) (omega arith) (sym is ∙ c.if-not-is_same.false) c.loop-k.invariant

pub returns : goal.returns
returns c = equal_all c.args.some.now c.args.others.now c.loop-k.k _ (omega arith) (omega arith) c.loop-k.invariant
