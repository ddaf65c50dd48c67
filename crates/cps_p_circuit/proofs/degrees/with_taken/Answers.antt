use Rattle.cps_p_circuit.proofs.Counting.{counted_taken, counted_second}
use Rattle.cps_p_circuit.proofs.degrees.with_taken.Goals as goal

pub returns-then-degree-eq0 : goal.returns-then-degree-eq0
returns-then-degree-eq0 c = λ ends states v k e at is h. counted_taken ends states v k c.args.degree h at c.args.by e is c.if-degree-eq0.true

pub returns : goal.returns
returns c = λ ends states v k e at is h. counted_second ends states v k c.args.degree h at c.args.by e is c.if-degree-eq0.false
