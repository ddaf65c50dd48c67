-- One more index has its span.
use Rattle.std.proofs.Common.{rules, ◌<◌, ℤ, length, get_or, pos, FitsSigned, w32, ap, ◌∙◌, arith}
use Rattle.std.proofs.lemmas.Int.{to_z-of_z}
use Rattle.cps_instance.specs.Posting.{span_at}
use Rattle.cps_instance.proofs.Mapping.{map_longer}
use Rattle.cps_instance.proofs.spans.spans_at.Goals as goal

pub loop-index-preserved : goal.loop-index-preserved
loop-index-preserved c =
    let span = span_at c.args.constraints.now c.args.lists.now in
    let is = c.args.indices.now in
    let k = c.loop-index.index-index in
    let l : k < length is = omega arith in
    let fits : FitsSigned w32 (get_or is k (pos 0)) = search rules in
    let own = c.in_ok-span_at.ensures ∙ ap (λ (i : ℤ). span i) (to_z-of_z w32 _ fits) in
    map_longer span is k (pos 0) c.loop-index.spans.items c.push.new.self.items c.in_ok-span_at.field-0 l c.loop-index.invariant own c.in_ok-push.ensures.items
