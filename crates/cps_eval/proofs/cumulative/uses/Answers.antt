-- One use more, or none.
use Rattle.std.proofs.Common.{◌≡◌, ◌∙◌, sym, get_or, pos, refl, drop, arith, rules, FitsSigned, w32}
use Rattle.std.proofs.lemmas.Int.{to_z-of_z}
use Rattle.cps_model.specs.Values.{expression_value}
use Rattle.cps_model.specs.Scheduling.{run_at, use_of, uses}
use Rattle.cps_model.specs.Ready.{is_ready}
use Rattle.cps_model.proofs.Pairs.{All-from_test}
use Rattle.cps_eval.proofs.Computing.{all_done}
use Rattle.cps_eval.proofs.Loads.{uses-more, uses-less, small_demand-more}
use Rattle.cps_eval.proofs.cumulative.uses.Goals as goal

pub loop-k-preserved : goal.loop-k-preserved
loop-k-preserved c =
    let cs = c.args.constraints.now in
    let a = c.args.values.now in
    let is = c.args.intervals.now in
    let k = c.loop-k.k in
    let i = get_or is k (pos 0) in
    let d = c.index-demands-k.result in
    let fits : FitsSigned w32 i = search rules in
    let value : c.use_at.result ≡ use_of (run_at cs a i) (expression_value a d) = simp to_z-of_z at c.use_at.ensures.value in
    rw c.in_ok-push.ensures.items
    (record {
      whole = uses-more cs a is c.args.demands.now k d c.in-Some.used c.loop-k.present.items _ (omega arith) (omega arith) c.index-demands-k.is (sym value ∙ c.in-Some.is) c.loop-k.invariant.whole;
      small = small_demand-more c.loop-k.present.items c.in-Some.used c.loop-k.invariant.small c.in-Some.ensures.near;
    })

pub loop-k-preserved-in_default : goal.loop-k-preserved-in_default
loop-k-preserved-in_default c =
    let cs = c.args.constraints.now in
    let a = c.args.values.now in
    let is = c.args.intervals.now in
    let k = c.loop-k.k in
    let i = get_or is k (pos 0) in
    let d = c.index-demands-k.result in
    let fits : FitsSigned w32 i = search rules in
    let value : c.use_at.result ≡ use_of (run_at cs a i) (expression_value a d) = simp to_z-of_z at c.use_at.ensures.value in
    record {
      whole = uses-less cs a is c.args.demands.now k d c.loop-k.present.items _ (omega arith) (omega arith) c.index-demands-k.is (sym value ∙ c.in_default.is) c.loop-k.invariant.whole;
      small = c.loop-k.invariant.small;
    }

pub returns-clause-value : goal.returns-clause-value
returns-clause-value c = all_done (λ is. uses c.args.constraints.now c.args.values.now is (drop c.loop-k.k c.args.demands.now)) c.args.intervals.now c.loop-k.present.items _ c.loop-k.k refl (omega arith) c.loop-k.invariant.whole

pub use_at-requires-clause-demand : goal.use_at-requires-clause-demand
use_at-requires-clause-demand c =
    let ready = is_ready c.args.values.now in
    rw c.index-demands-k.is (All-from_test ready c.args.demands.now c.requires.demands c.loop-k.k c.index-demands-k.result (omega arith))
