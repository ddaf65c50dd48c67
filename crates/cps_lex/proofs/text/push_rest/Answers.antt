-- Each byte adds what it completes, and the last, or one that no string has, leaves all of it.
use Rattle.std.proofs.Common.{arith, sym}
use Rattle.std.proofs.lemmas.List.{drop_more, drop_all}
use Rattle.cps_lex.proofs.Stepping.{pushed_whole, pushed_behind, pushed_longer, text_stops, text_ends}
use Rattle.cps_lex.proofs.text.push_rest.Goals as goal

pub loop-byte-preserved : goal.loop-byte-preserved
loop-byte-preserved c =
    let here = sym c.in-Some.ensures in
    let first = drop_more c.args.after.now c.loop-byte.byte-index 0 (omega arith) in
    let pushed = c.in_ok-push_denoted.ensures.ok in
    record {
      whole = pushed_whole _ _ _ _ _ _ _ _ _ _ here first pushed c.loop-byte.invariant.whole;
      kept = pushed_behind _ _ _ _ pushed c.loop-byte.invariant.longer c.loop-byte.invariant.kept;
      longer = pushed_longer _ _ _ _ pushed c.loop-byte.invariant.longer;
    }

pub returns-in_default-clause-ok : goal.returns-in_default-clause-ok
returns-in_default-clause-ok c =
    let first = drop_more c.args.after.now c.loop-byte.byte-index 0 c.loop-byte-test.true in
    text_stops c.args.quote c.loop-byte.place _ _ _ c.loop-byte.bytes.items _ (sym c.in_default.ensures) first c.loop-byte.invariant.whole

pub returns-clause-ok : goal.returns-clause-ok
returns-clause-ok c =
    text_ends c.args.quote c.loop-byte.place _ c.loop-byte.bytes.items _ (drop_all c.loop-byte.byte-index c.args.after.now c.loop-byte-test.false) c.loop-byte.invariant.whole
