use Rattle.cps_p_arith.specs.Demands.{IsFoundAt, IsPast, end_of}
use Rattle.cps_p_arith.proofs.narrow.furthest.Given as goal

abbrev pub invariant-loop : goal.invariant-loop
invariant-loop l = record {
  found : IsFoundAt l.bounds l.demand l.place l.side l.best;
  past : IsPast l.side (end_of l.side l.place.ends) l.best.value;
}
