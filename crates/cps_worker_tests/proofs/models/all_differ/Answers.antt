-- One more constraint is of such a kind.
use Rattle.std.specs.Prelude.{All}
use Rattle.std.proofs.Common.{rules, ◌≡◌, true, List, [], ◌∷◌, ◌++◌, sym, subst}
use Rattle.std.proofs.lemmas.List.Elements.{All-push}
use Rattle.cps_model.specs.declared.constraint.Constraint.{Constraint}
use Rattle.cps_kinds.specs.Kinds.{is_propagated}
use Rattle.cps_worker_tests.proofs.models.all_differ.Goals as goal

pub loop-pair-preserved : goal.loop-pair-preserved
loop-pair-preserved c =
    let xs : List Constraint = c.loop-pair.constraints.items in
    let x : Constraint = c.in_ok-differ.field-0 in
    let e : c.push.new.self.items ≡ xs ++ x ∷ [] = search rules in
    subst (λ (cs : List Constraint). All (λ (k : Constraint). is_propagated k.kind ≡ true) cs) (sym e)
    (All-push (λ (k : Constraint). is_propagated k.kind ≡ true) xs x c.loop-pair.invariant c.in_ok-differ.ensures)
