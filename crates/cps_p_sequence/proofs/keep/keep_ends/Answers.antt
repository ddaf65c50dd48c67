use Rattle.std.proofs.Common.{rules, w64, FitsSigned, get_or, pos, length, ◌-◌}
use Rattle.std.proofs.lemmas.Int.{to_z-of_z}
use Rattle.cps_p_sequence.proofs.Layering.{labels_from, labels_up_to, ends_listed}
use Rattle.cps_p_sequence.proofs.keep.keep_ends.Goals as goal

pub returns : goal.returns
returns c =
    let s = c.args.store.now in
    let i = c.args.subject in
    let vs = c.args.labels.now in
    let f : FitsSigned w64 (get_or vs 0 (pos 0)) = search rules in
    let g : FitsSigned w64 (get_or vs (length vs - 1) (pos 0)) = search rules in
    let from-given = simp to_z-of_z at c.in_ok-keep_from.ensures.given in
    let from-from = simp to_z-of_z at c.in_ok-keep_from.ensures.from in
    let to-given = simp to_z-of_z at c.in_ok-keep_up_to.ensures.given in
    let to-up_to = simp to_z-of_z at c.in_ok-keep_up_to.ensures.up_to in
    let low = c.in_ok-keep_from.ensures.kept in
    let high = c.in_ok-keep_up_to.ensures.kept in
    record {
      given = λ b h gs. to-given b (labels_up_to s i vs c.requires.some c.requires.rising b h) (from-given b (labels_from s i vs c.requires.some c.requires.rising b h) gs);
      kept = λ all. low (high all);
      ends = λ all opens. ends_listed s i vs c.requires.some c.requires.rising (from-from (high all)) (to-up_to all) opens;
      within = λ all x o. (from-from (high all) x o, to-up_to all x o);
    }
