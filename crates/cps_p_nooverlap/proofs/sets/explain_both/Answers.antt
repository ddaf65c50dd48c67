-- What was asked for is given by two spans or by a set of them.
use Rattle.std.proofs.Common.{◌≡◌, true, [], subst}
use Rattle.cps_literal.specs.declared.atom.Atom.{Atom}
use Rattle.cps_literal.specs.Truth.{atom_holds}
use Rattle.cps_model.specs.Scheduling.{IsNoOverlap}
use Rattle.cps_instance.specs.Parts.{span_runs}
use Rattle.cps_p_span.specs.Citing.{Cites}
use Rattle.cps_p_span.proofs.Refusing.{refused}
use Rattle.cps_p_nooverlap.proofs.sets.explain_both.Goals as goal
use Rattle.cps_instance.specs.Tasks.{span_subjects}

pub returns-in-Some-question_of : goal.returns-in-Some-question_of
returns-in-Some-question_of c e = subst (λ (u : Atom). Cites c.args.past.now (span_subjects c.args.spans.now) [] c.explain_set.new.facts.items (λ xs. IsNoOverlap (span_runs xs c.args.spans.now) → atom_holds xs u ≡ true)) c.in-Some-question_of.ensures (c.explain_set.ensures e)

pub returns-in-None : goal.returns-in-None
returns-in-None c e = refused e
