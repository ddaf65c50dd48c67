use Rattle.cps_p_sequence.proofs.Keeping.{not_narrow}
use Rattle.cps_p_sequence.proofs.keep.keep_labels.Goals as goal

pub returns-then-are_near : goal.returns-then-are_near
returns-then-are_near c =
    let ends = c.in_ok-keep_ends.ensures in
    let strays = c.in_ok-keep_off_strays.ensures in
    record {
      given = λ b h gs. strays.given b h (ends.given b h gs);
      kept = λ all. ends.kept (strays.kept all);
      ends = λ all. ends.ends (strays.kept all);
      closed = λ all v has o. (let between = ends.within (strays.kept all) v o in strays.whole all v between.0 between.1 o);
      whole = λ all opens narrow x o. (let between = ends.within (strays.kept all) x o in strays.whole all x between.0 between.1 o);
    }

pub returns : goal.returns
returns c =
    let ends = c.in_ok-keep_ends.ensures in
    let others = c.in_ok-keep_off_others.ensures in
    record {
      given = λ b h gs. others.given b h (ends.given b h gs);
      kept = λ all. ends.kept (others.kept all);
      ends = λ all. ends.ends (others.kept all);
      closed = others.closed;
      whole = λ all opens narrow x o. absurd (not_narrow c.args.store.now c.args.subject c.args.labels.now c.requires.some c.requires.rising (c.are_near.ensures c.if-are_near.false) opens narrow);
    }
