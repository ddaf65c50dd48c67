use Rattle.std.proofs.Common.{ℕ, ◌++◌, ◌∷◌, [], List, take, get_or, sym, ◌∙◌, ap, arith}
use Rattle.std.proofs.lemmas.List.{append_assoc, append-nil, take_all, map_more}
use Rattle.cps_clauses.specs.declared.journal.Line.{Line}
use Rattle.cps_clauses.specs.declared.journal.Line.TheVariants as lines
use Rattle.cps_clauses.specs.Lines.{drop_lines}
use Rattle.cps_clauses.proofs.journal.push_drops.Goals as goal

pub loop-place-init : goal.loop-place-init
loop-place-init c = (sym (append-nil c.args.lines.now.items), omega (arith, c.requires))

pub loop-place-preserved : goal.loop-place-preserved
loop-place-preserved c = (
  c.push_reserved.ensures.items
      ∙ ap (λ (ls : List Line). ls ++ lines.Drop (get_or c.args.which.now c.loop-place.place-index 0) ∷ []) c.loop-place.invariant.0
      ∙ append_assoc c.args.lines.now.items (drop_lines (take c.loop-place.place-index c.args.which.now)) (lines.Drop (get_or c.args.which.now c.loop-place.place-index 0) ∷ [])
      ∙ ap (λ (ls : List Line). c.args.lines.now.items ++ ls) (sym (map_more lines.Drop c.args.which.now c.loop-place.place-index 0 c.loop-place-test.true)),
  omega (arith, c.loop-place.invariant.1, c.push_reserved.ensures.len, c.push_reserved.ensures.capacity, c.loop-place-test.true),
)

pub push_reserved-requires : goal.push_reserved-requires
push_reserved-requires c = omega (arith, c.loop-place.invariant.1, c.loop-place-test.true)

pub returns : goal.returns
returns c = c.loop-place.invariant.0 ∙ ap (λ (ns : List ℕ). c.args.lines.now.items ++ drop_lines ns) (take_all c.loop-place.place-index c.args.which.now c.loop-place-test.false)
