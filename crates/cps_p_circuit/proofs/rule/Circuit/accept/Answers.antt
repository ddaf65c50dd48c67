use Rattle.std.proofs.Common.{Ok, ap, pos, subst}
use Rattle.std.proofs.lemmas.List.Elements.{All-push}
use Rattle.cps_literal.specs.declared.atom.Op.TheVariants.{Le}
use Rattle.cps_trail.specs.Trail.{Trail}
use Rattle.cps_trail.proofs.Laws.{IsAdmitted-within}
use Rattle.cps_rule.specs.declared.rule.Narrowing.{Narrowing}
use Rattle.cps_rule.specs.Rules.{IsExplained, IsGiven}
use Rattle.cps_p_circuit.specs.Showing.{body_by}
use Rattle.cps_p_circuit.proofs.ShownFacts.{atom_inside, given}
use Rattle.cps_p_circuit.proofs.ArcsAtNodes.{true_before}
use Rattle.cps_p_circuit.proofs.rule.Circuit.accept.Goals as goal

pub truth-requires : goal.truth-requires
truth-requires c = atom_inside c.args.store.now c.args.self.now.literals.items _ c.in-Some.target (record { subject = 0; op = Le; value = pos 0 }) (rw c.as_slice.ensures.value at c.in-Some.ensures) c.requires

pub returns-clause-given : goal.returns-clause-given
returns-clause-given c = λ all.
    (let b = body_by c.args.self.now.graph.nodes.items c.args.self.now.graph.from.items c.args.self.now.graph.to.items c.args.self.now.literals.items in
    let s = c.args.store.now in
    let inside = atom_inside s c.args.self.now.literals.items _ c.in-Some.target (record { subject = 0; op = Le; value = pos 0 }) (rw c.as_slice.ensures.value at c.in-Some.ensures) c.requires in
    let explained = subst (λ (t : Trail). IsExplained b t c.in-Some.target c.reason.new.facts.items) c.present-past.ensures (c.in_ok-reason.ensures (ap Ok c.if-not-branch.false)) in
    rw c.in_ok-push.ensures.items (All-push (λ (n : Narrowing). IsGiven b s n.target) c.args.found.now.items _ all
    (given b s c.in-Some.target c.reason.new.facts.items inside explained (λ xs w. IsAdmitted-within s.first s.entries xs w))))

pub returns-clause-before : goal.returns-clause-before
returns-clause-before c = λ t. true_before c.args.store.now c.args.found.now.items _ _ c.in_ok-push.ensures.items t
