use Rattle.std.proofs.Common.{sym, subst, ◌∙◌}
use Rattle.cps_model.specs.declared.bound.Bound.{Bound}
use Rattle.cps_port.specs.Order.{BoundLe, IsNoLower}
use Rattle.cps_port.specs.Incumbents.{IsIncumbent, IsLowerBound}
use Rattle.cps_bounds.proofs.Keeps.{closes}
use Rattle.cps_bounds.proofs.seats.Bounds.close.Goals as goal

pub returns : goal.returns
returns c =
    let m = c.args.self.table.shared.key in
    let f = c.close_with-closed.ensures.values.2 in
    let p = c.args.seat.seat.me.0.part in
    let k = closes m f.0 _ _ _ c.word-upper.result c.word-lower.result f.1.0 f.1.1 f.2 c.word-upper.ensures c.word-lower.ensures in
    record {
      upper = subst (IsIncumbent m) (sym c.bound_of.ensures) k.shown;
      lower = subst (IsLowerBound m) (sym c.bound_of-2.ensures) k.floor;
      no_worse = (subst (λ (b : Bound). BoundLe b p.saw_upper) (sym c.bound_of.ensures) k.no_higher, subst (IsNoLower p.saw_lower) (sym c.bound_of-2.ensures) k.no_lower);
      whole_upper = λ all. c.bound_of.ensures ∙ k.upper all;
      whole_lower = λ all. c.bound_of-2.ensures ∙ k.lower all;
    }
