use Rattle.std.proofs.Common.{ℕ, Bool, List, true, get_or, map, set, sym, ◌∙◌, ap}
use Rattle.std.proofs.lemmas.List.{take_all}
use Rattle.cps_clauses.specs.InForce.{marked}
use Rattle.cps_clauses.specs.Bases.{number_at}
use Rattle.cps_clauses.proofs.DroppedClauses.{marks_more}
use Rattle.cps_clauses.proofs.forget.marks_with.Goals as goal

pub loop-place-preserved : goal.loop-place-preserved
loop-place-preserved c =
    c.mark.ensures ∙ ap (λ (ms : List Bool). set ms (number_at c.args.learnt.now (get_or c.args.which.now c.loop-place.place-index 0)) true) c.loop-place.invariant
    ∙ sym (marks_more c.args.dropped.now (number_at c.args.learnt.now) c.args.which.now c.loop-place.place-index c.loop-place-test.true)

pub returns : goal.returns
returns c = c.loop-place.invariant ∙ ap (λ (ns : List ℕ). marked c.args.dropped.now (map (number_at c.args.learnt.now) ns)) (take_all c.loop-place.place-index c.args.which.now c.loop-place-test.false)
