-- A sum more.
use Rattle.std.proofs.Common.{List, [], ◌∷◌, ◌++◌, ◌∙◌, ap}
use Rattle.cps_log.specs.declared.item.LogItem.{LogItem}
use Rattle.cps_log.specs.declared.item.LogItem.TheVariants as items
use Rattle.cps_tracer.proofs.Tracing.{traced_sum}
use Rattle.cps_tracer.proofs.tracer.Tracer.define.Goals as goal

pub invariant_of-self-2 : goal.invariant_of-self-2
invariant_of-self-2 c =
    let i = c.self.inside in
    let sum = c.args.sum in
    let longer = c.push_reserved.ensures.items ∙ ap (λ (log : List LogItem). log ++ items.Sum sum ∷ []) c.reserve.ensures.items in
    traced_sum i.variables.now i.assumptions.now i.items.items c.push_reserved.new.self.items i.checker c.add_subject.new.self sum c.in_ok-domain.domain c.self.invariant longer c.in_ok-add_subject.ensures.ok c.in_ok-domain.ensures
