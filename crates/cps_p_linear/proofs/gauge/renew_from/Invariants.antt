use Rattle.std.proofs.Common.{◌≡◌, true}
use Rattle.std.specs.List.{All}
use Rattle.cps_p_linear.specs.Gauging.{IsHeld, IsDue, read_of}
use Rattle.cps_p_linear.proofs.gauge.renew_from.Given as goal

abbrev pub invariant-loop-entry : goal.invariant-loop-entry
invariant-loop-entry l = record {
  held : IsHeld l.store l.terms l.gauge;
  is_read : l.gauge.is_read ≡ true;
  due : All (IsDue l.store l.entry) (read_of l.terms l.gauge);
}
