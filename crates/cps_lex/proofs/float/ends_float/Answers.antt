-- A byte that leads on leaves the rest of the float behind it.
use Rattle.std.proofs.Common.{sym}
use Rattle.std.proofs.lemmas.List.{drop_more}
use Rattle.cps_lex.proofs.Fronts.{float_on}
use Rattle.cps_lex.proofs.float.ends_float.Goals as goal

pub loop-byte-preserved : goal.loop-byte-preserved
loop-byte-preserved c =
    float_on c.loop-byte.part c.in-Some.next _ _ _ _ (sym c.in-Some.ensures) (drop_more c.args.bytes.now c.loop-byte.byte-index 0 c.loop-byte-test.true) c.loop-byte.invariant
