-- So far the domains were narrowed by propagation alone.
use Rattle.std.proofs.Common.{◌≡◌}
use Rattle.cps_rup.specs.Chains.{IsPropagated}
use Rattle.cps_rup.proofs.lrat.walk_hints.Given as goal

abbrev pub invariant-loop : goal.invariant-loop
invariant-loop l = record {
  first : l.domains.first ≡ l.fn.domains.first;
  propagated : IsPropagated l.clauses l.fn.domains l.domains;
}
