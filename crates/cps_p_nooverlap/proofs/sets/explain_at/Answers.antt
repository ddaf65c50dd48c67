-- The target that is given is the one that was asked for.
use Rattle.std.specs.Prelude.{IfSome}
use Rattle.std.proofs.Common.{Option, subst}
use Rattle.cps_literal.specs.declared.atom.Atom.{Atom}
use Rattle.cps_p_nooverlap.specs.Crowds.{IsReasoned}
use Rattle.cps_p_span.proofs.Refusing.{refused}
use Rattle.cps_p_nooverlap.proofs.sets.explain_at.Goals as goal

pub returns-else-not-same_atom : goal.returns-else-not-same_atom
returns-else-not-same_atom c e =
    let given = subst (λ (o : Option Atom). IfSome o (λ u. IsReasoned c.args.past.now c.args.spans.now c.give.new.desk.facts.items u)) c.in-Some-2.is c.in_ok-atom-in-Some.ensures in
    subst (λ (u : Atom). IsReasoned c.args.past.now c.args.spans.now c.give.new.desk.facts.items u) (c.same_atom.ensures c.if-not-same_atom.false) given

pub returns-then-question-spans : goal.returns-then-question-spans
returns-then-question-spans c e = refused e

pub returns-in-None : goal.returns-in-None
returns-in-None c e = refused e

pub returns-in-None-2 : goal.returns-in-None-2
returns-in-None-2 c e = refused e

pub returns-then-not-same_atom : goal.returns-then-not-same_atom
returns-then-not-same_atom c e = refused e
