-- A clause more.
use Rattle.std.proofs.Common.{◌≡◌, Some, List, [], ◌∷◌, ◌++◌, sym, ◌∙◌, ap, subst}
use Rattle.cps_log.specs.declared.item.LogItem.{LogItem}
use Rattle.cps_tracer.specs.Traced.{Traced, added_clause}
use Rattle.cps_tracer.proofs.Tracing.{traced_clause}
use Rattle.cps_tracer.proofs.tracer.Tracer.append.Goals as goal

pub invariant_of-self-2 : goal.invariant_of-self-2
invariant_of-self-2 c =
    let i = c.self.inside in
    let item = c.args.item in
    let clause = c.args.clause.now in
    let adds = subst (λ (t : Traced). added_clause t.assumptions item ≡ Some clause) (sym c.self.view_is) c.requires.added in
    let longer = c.push_reserved.ensures.items ∙ ap (λ (log : List LogItem). log ++ item ∷ []) c.reserve.ensures.items in
    traced_clause i.variables.now i.assumptions.now i.items.items c.push_reserved.new.self.items i.checker c.add_clause.new.self item clause c.self.invariant adds longer c.in_ok-add_clause.ensures.ok
