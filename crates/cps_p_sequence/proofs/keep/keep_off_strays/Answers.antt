-- Each interval of the domain is walked through between the first and the last label.
use Rattle.std.proofs.Common.{◌-◌, length, pos, get_or, rules, w64, FitsSigned}
use Rattle.std.proofs.lemmas.Int.{to_z-of_z}
use Rattle.std.proofs.lemmas.List.{get_or_default}
use Rattle.cps_p_sequence.proofs.Keeping.{wholes_begun, wholes_more, wholes_all, last_listed}
use Rattle.cps_p_sequence.proofs.keep.keep_off_strays.Goals as goal

pub loop-part-init : goal.loop-part-init
loop-part-init c = record { given = λ b h gs. gs; kept = λ all. all; whole = λ all. wholes_begun _ _ _ _ _ _ }

pub loop-part-preserved : goal.loop-part-preserved
loop-part-preserved c =
    let p = c.loop-part.invariant in
    let run = c.in_ok-keep_off_run.ensures in
    let part = get_or c.intervals-parts.result.now c.loop-part.part-index (pos 0, pos 0) in
    let low : FitsSigned w64 part.0 = search rules in
    let high : FitsSigned w64 part.1 = search rules in
    let from = rw (to_z-of_z w64 part.0 low) at c.run_between-run.ensures.from in
    let to = rw (to_z-of_z w64 part.1 high) at c.run_between-run.ensures.to in
    record {
      given = λ b h gs. run.given b h (p.given b h gs);
      kept = λ all. p.kept (run.kept all);
      whole = λ all. wholes_more c.args.store.now c.args.subject c.args.labels.now _ _ c.intervals-parts.result.now c.loop-part.part-index part _ _ c.loop-part-test.true (get_or_default c.intervals-parts.result.now c.loop-part.part-index (pos 0, pos 0) part c.loop-part-test.true)
          from to (run.whole all) (p.whole (run.kept all));
    }

pub returns : goal.returns
returns c =
    let p = c.loop-part.invariant in
    let vs = c.args.labels.now in
    let f : FitsSigned w64 (get_or vs 0 (pos 0)) = search rules in
    let g : FitsSigned w64 (get_or vs (length vs - 1) (pos 0)) = search rules in
    let wholes = rw (to_z-of_z w64 (get_or vs 0 (pos 0)) f, to_z-of_z w64 (get_or vs (length vs - 1) (pos 0)) g) at p.whole in
    record {
      given = p.given;
      kept = p.kept;
      whole = λ all. wholes_all c.args.store.now c.args.subject vs (get_or vs 0 (pos 0)) (get_or vs (length vs - 1) (pos 0)) c.domain-domain.result.now c.intervals-parts.result.now c.loop-part.part-index
          c.intervals-parts.ensures.list c.domain-domain.ensures c.loop-part-test.false (last_listed vs c.requires.some) (wholes all);
    }
