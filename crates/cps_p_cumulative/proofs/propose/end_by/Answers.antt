use Rattle.std.proofs.Common.{inl, inr, ap, ◌∙◌}
use Rattle.cps_literal.specs.declared.atom.Atom.{Atom}
use Rattle.cps_p_cumulative.proofs.propose.end_by.Goals as goal

pub returns-in-Some : goal.returns-in-Some
returns-in-Some c = inl (ap (λ (u : Atom). u.subject) (c.narrowing.ensures ∙ c.at_most.ensures))

pub returns-in-None : goal.returns-in-None
returns-in-None c = inr (ap (λ (u : Atom). u.subject) (c.narrowing-in-None.ensures ∙ c.at_most-in-None.ensures))
