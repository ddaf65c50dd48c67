-- The other enforcement atoms were true, so the negation of the one at the place follows where no sum is admitted.
use Rattle.std.proofs.Common.{◌<◌, ◌∙◌, ℕ, List, pos, sym, subst, length}
use Rattle.cps_literal.specs.declared.atom.Atom.{Atom}
use Rattle.cps_literal.specs.declared.atom.Op.TheVariants.{Le}
use Rattle.cps_literal.proofs.Normalizing.{holds_too}
use Rattle.cps_p_linear.specs.Supporting.{AreGrounds}
use Rattle.cps_p_linear.specs.Measuring.{Asks, reads}
use Rattle.cps_p_linear.proofs.Explained.{reason_for, facts_speak, others_speak}
use Rattle.cps_p_linear.proofs.Forces.{but_facts, negation_given}
use Rattle.cps_p_linear.proofs.NegatableAtoms.{negatable_low, negatable_high, negatable_above, negatable_below}
use Rattle.cps_p_linear.proofs.explain.explain_enforcement.Goals as goal

abbrev no_atom : Atom
no_atom = record { subject = 0; op = Le; value = pos 0 }

pub explain_none-requires-clause-facts : goal.explain_none-requires-clause-facts
explain_none-requires-clause-facts c =
    subst (λ (us : List Atom). AreGrounds c.args.past.now us) (sym c.in_ok-begin_without.ensures)
    (but_facts c.args.past.now c.args.measured.now.task.enforcement.now c.args.place c.requires.negatable (c.are_true_but.ensures c.if-not-are_true_but.false))

pub returns : goal.returns
returns c _ =
    let m = c.args.measured.now in
    let s = c.args.past.now in
    let n = c.negate-negation.result in
    let others = c.are_true_but.ensures c.if-not-are_true_but.false in
    let follows = c.implies.ensures.0 c.if-not-implies.false in
    let inside : c.args.target.subject < length c.args.past.now.first = subst (λ (i : ℕ). i < length c.args.past.now.first) (sym c.negate-negation.ensures.subject ∙ follows.subject) (c.requires.negatable.subjects c.args.place no_atom others.inside) in
    reason_for (Asks m.task) (reads m.task) s c.args.target c.explain_none.new.facts.atoms.items c.deny_facts.new.facts.atoms.items c.deny_facts.new.facts.reason.items c.push.new.self.items
    c.in_ok-deny_facts.ensures.atoms c.in_ok-deny_facts.ensures.reason c.in_ok-push.ensures.items c.in_ok-explain_none.ensures.extends.facts inside
    (facts_speak m.task.enforcement.now _ m.task.terms.now s c.begin_without.new.facts c.explain_none.new.facts c.in_ok-begin_without.ensures (others_speak m.task.enforcement.now c.args.place) c.in_ok-explain_none.ensures.extends)
    (λ xs within passing all. holds_too n c.args.target xs follows (negation_given s m.task.enforcement.now c.args.place no_atom n m.task.terms.now m.task.admitted.now c.begin_without.new.facts c.explain_none.new.facts others.inside c.negate-negation.ensures.subject c.negate-negation.ensures.negated c.in_ok-begin_without.ensures c.in_ok-explain_none.ensures xs within passing all))

pub negate-negation-requires-clause-low : goal.negate-negation-requires-clause-low
negate-negation-requires-clause-low c = negatable_low (c.requires.negatable.negatable c.args.place no_atom (c.are_true_but.ensures c.if-not-are_true_but.false).inside)

pub negate-negation-requires-clause-high : goal.negate-negation-requires-clause-high
negate-negation-requires-clause-high c = negatable_high (c.requires.negatable.negatable c.args.place no_atom (c.are_true_but.ensures c.if-not-are_true_but.false).inside)

pub negate-negation-requires-clause-above : goal.negate-negation-requires-clause-above
negate-negation-requires-clause-above c = λ _. negatable_above (c.requires.negatable.negatable c.args.place no_atom (c.are_true_but.ensures c.if-not-are_true_but.false).inside)

pub negate-negation-requires-clause-below : goal.negate-negation-requires-clause-below
negate-negation-requires-clause-below c = λ _. negatable_below (c.requires.negatable.negatable c.args.place no_atom (c.are_true_but.ensures c.if-not-are_true_but.false).inside)
