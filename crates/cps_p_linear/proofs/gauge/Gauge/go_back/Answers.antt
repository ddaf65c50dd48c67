use Rattle.std.specs.Prelude.{IfSome}
use Rattle.std.proofs.Common.{ℕ, Option, subst}
use Rattle.cps_propagate.specs.Recalling.{Recalls}
use Rattle.cps_p_linear.specs.Gauging.{memory_of, read_of}
use Rattle.cps_p_linear.proofs.Gauges.{recalls_back}
use Rattle.cps_p_linear.proofs.gauge.Gauge.go_back.Goals as goal

pub returns-in-Some-clause-recalls : goal.returns-in-Some-clause-recalls
returns-in-Some-clause-recalls c = λ ts s n h.
    let g = c.args.self.now in
    let before = subst (λ (o : Option ℕ). IfSome o (Recalls (memory_of ts g) s)) c.in-Some.is h in
    recalls_back s g.is_read (read_of ts g) g.count _ c.in-Some.count n c.min-self.ensures before
