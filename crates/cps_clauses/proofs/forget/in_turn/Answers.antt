use Rattle.std.proofs.Common.{ℕ, List, map, sym, ◌∙◌, ap, subst}
use Rattle.std.proofs.lemmas.List.{take_all}
use Rattle.cps_clauses.specs.declared.forget.Candidate.{Candidate}
use Rattle.cps_clauses.specs.Forgets.{GoInOrder}
use Rattle.cps_clauses.proofs.Candidates.{in_turn_of}
use Rattle.cps_clauses.proofs.forget.in_turn.Goals as goal

pub sort_by_turn-requires : goal.sort_by_turn-requires
sort_by_turn-requires c = c.in_ok-found.ensures.rising

pub returns : goal.returns
returns c =
    subst (λ (ns : List ℕ). GoInOrder c.args.clauses.now c.args.dropped.now c.args.learnt.now c.args.store.now ns)
    (sym (c.loop-candidate.invariant ∙ ap (λ (cs : List Candidate). map (λ d. d.place) cs) (take_all c.loop-candidate.candidate-index c.deref-candidate-items.result.now c.loop-candidate-test.false ∙ c.deref-candidate-items.ensures.value)))
    (in_turn_of c.args.clauses.now c.args.dropped.now c.args.learnt.now c.args.store.now c.in_ok-found.found.items c.sort_by_turn.new.candidates.items c.in_ok-found.ensures c.sort_by_turn.ensures)
