use Rattle.std.specs.Prelude.{IfSome, not}
use Rattle.std.proofs.Common.{ap, subst, ℕ, Bool, Option}
use Rattle.cps_propagate.specs.Recalling.{Recalls}
use Rattle.cps_p_linear.specs.Gauging.{memory_of, read_of}
use Rattle.cps_p_linear.proofs.Gauges.{recalls_here}
use Rattle.cps_p_linear.proofs.gauge.refresh.Goals as goal

pub renew_gone-requires-clause-here : goal.renew_gone-requires-clause-here
renew_gone-requires-clause-here c =
    let g = c.args.gauge.now in
    let s = c.args.store.now in
    let before = subst (λ (o : Option ℕ). IfSome o (Recalls (memory_of c.args.terms.now g) s)) c.in-Some.is c.requires.recalls in
    recalls_here s g.is_read (read_of c.args.terms.now g) g.count c.in-Some.standing _ c.min.result c.min-from.result (λ e. let f = ap (λ (b : Bool). not b) e in absurd (cc (e, f, c.if-not-gauge.false))) before c.min.ensures c.min-from.ensures
