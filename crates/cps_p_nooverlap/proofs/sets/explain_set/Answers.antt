-- The facts are those of the desk's list.
use Rattle.std.proofs.Common.{Ok, ◌≡◌, ◌++◌, ◌∙◌, true, [], List, ap, sym, subst, rules}
use Rattle.cps_literal.specs.declared.atom.Atom.{Atom}
use Rattle.cps_literal.specs.Truth.{atom_holds}
use Rattle.cps_model.specs.Scheduling.{IsNoOverlap}
use Rattle.cps_instance.specs.Parts.{span_runs}
use Rattle.cps_p_span.specs.Citing.{Cites}
use Rattle.cps_p_span.proofs.Refusing.{refused}
use Rattle.cps_p_nooverlap.proofs.sets.explain_set.Goals as goal
use Rattle.cps_instance.specs.Tasks.{span_subjects}

pub returns : goal.returns
returns c e =
    let one : c.explain_at.result ≡ Ok true = search rules in
    let same : c.extend_from_slice.new.self.items ≡ c.explain_at.new.desk.facts.items = c.in_ok-extend_from_slice.ensures.items ∙ ap (λ (l : List Atom). l ++ c.as_slice.result.now) c.clear.ensures.items ∙ c.as_slice.ensures.value in
    subst (λ (us : List Atom). Cites c.args.past.now (span_subjects c.args.spans.now) [] us (λ xs. IsNoOverlap (span_runs xs c.args.spans.now) → atom_holds xs c.args.question.target ≡ true)) (sym same) (c.explain_at.ensures one).cites

pub returns-then-not-branch : goal.returns-then-not-branch
returns-then-not-branch c e = refused e
