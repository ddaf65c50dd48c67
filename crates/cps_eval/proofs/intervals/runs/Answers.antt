-- One run more, or none.
use Rattle.std.proofs.Common.{◌≡◌, ◌∙◌, sym, get_or, pos, refl, arith, rules, FitsSigned, w32}
use Rattle.std.proofs.lemmas.Int.{to_z-of_z}
use Rattle.cps_model.specs.Scheduling.{run_at, runs}
use Rattle.cps_eval.proofs.Computing.{filter_map_more, filter_map_less, all_done}
use Rattle.cps_eval.proofs.intervals.runs.Goals as goal

pub loop-index-preserved-in_default : goal.loop-index-preserved-in_default
loop-index-preserved-in_default c =
    let cs = c.args.constraints.now in
    let a = c.args.values.now in
    let is = c.args.intervals.now in
    let k = c.loop-index.index-index in
    let i = get_or is k (pos 0) in
    let fits : FitsSigned w32 i = search rules in
    let value : c.run_at.result ≡ run_at cs a i = simp to_z-of_z at c.run_at.ensures in
    filter_map_less (run_at cs a) is c.loop-index.present.items _ k (pos 0) (omega arith) (sym value ∙ c.in_default.is) c.loop-index.invariant

pub loop-index-preserved : goal.loop-index-preserved
loop-index-preserved c =
    let cs = c.args.constraints.now in
    let a = c.args.values.now in
    let is = c.args.intervals.now in
    let k = c.loop-index.index-index in
    let i = get_or is k (pos 0) in
    let fits : FitsSigned w32 i = search rules in
    let value : c.run_at.result ≡ run_at cs a i = simp to_z-of_z at c.run_at.ensures in
    rw c.in_ok-push.ensures.items (filter_map_more (run_at cs a) is c.loop-index.present.items _ k (pos 0) c.in-Some.run' (omega arith) (sym value ∙ c.in-Some.is) c.loop-index.invariant)

pub returns : goal.returns
returns c = all_done (runs c.args.constraints.now c.args.values.now) c.args.intervals.now c.loop-index.present.items _ c.loop-index.index-index refl (omega arith) c.loop-index.invariant
