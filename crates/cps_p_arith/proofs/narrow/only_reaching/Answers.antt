use Rattle.cps_p_arith.proofs.Reaching.{passes_by, first_one, second_one, only_one}
use Rattle.cps_p_arith.proofs.narrow.only_reaching.Goals as goal
use Rattle.cps_p_arith.proofs.narrow.only_reaching.Goals.{then-reaches+in-None, else-reaches}

pub loop-k-preserved : goal.loop-k-preserved
loop-k-preserved c = elim c.if-reaches.branch [
  | then-reaches+in-None w ↦ rw w.only-is (first_one c.args.target c.args.members.now c.loop-k.k _ c.loop-k-test.true (c.reaches.ensures.reached w.if-reaches.true))
  | else-reaches w ↦ rw w.only-is (passes_by c.args.target c.args.members.now c.loop-k.k _ c.loop-k.only c.loop-k-test.true (c.reaches.ensures.short w.if-reaches.false) c.loop-k.invariant)
]

pub returns-in-Some : goal.returns-in-Some
returns-in-Some c =
    second_one c.args.target c.args.members.now c.loop-k.k _ c.in-Some.field-0 c.loop-k-test.true (c.reaches.ensures.reached c.if-reaches.true) (rw c.in-Some.is at c.loop-k.invariant)

pub returns : goal.returns
returns c = only_one c.args.target c.args.members.now c.loop-k.k c.loop-k.only c.loop-k-test.false c.loop-k.invariant
