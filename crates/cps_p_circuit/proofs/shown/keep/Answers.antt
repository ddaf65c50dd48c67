-- The facts make each sign true before the one that is looked at.
use Rattle.std.proofs.Common.{arith, pos, subst, List}
use Rattle.cps_literal.specs.declared.atom.Op.TheVariants.{Le}
use Rattle.std.proofs.lemmas.List.{take_all}
use Rattle.cps_p_circuit.specs.declared.clash.Sign.{Sign}
use Rattle.cps_p_circuit.specs.Showing.{MakeSignsTrue}
use Rattle.cps_p_circuit.proofs.DistinctAnswers.{no_not_yes}
use Rattle.cps_p_circuit.proofs.ShownFacts.{kept_none, kept_more, kept_denied, atom_inside}
use Rattle.cps_p_circuit.proofs.shown.keep.Goals as goal

pub was_true-requires : goal.was_true-requires
was_true-requires c = atom_inside c.args.past.now c.args.literals.now _ c.in-Some.atom (record { subject = 0; op = Le; value = pos 0 }) c.in-Some.ensures c.requires

pub loop-sign-init : goal.loop-sign-init
loop-sign-init c = kept_none c.args.past.now c.args.literals.now c.args.denied c.clear.new.self.items c.clear.ensures.items

pub loop-sign-preserved-then-follows : goal.loop-sign-preserved-then-follows
loop-sign-preserved-then-follows c = kept_denied _ _ _ c.args.used.now c.loop-sign.sign-index _ _ c.in-Some.atom (omega arith) c.in-Some.ensures (c.follows.ensures c.if-follows.true) c.loop-sign.invariant

pub loop-sign-preserved : goal.loop-sign-preserved
loop-sign-preserved c = kept_more _ _ _ c.args.used.now c.loop-sign.sign-index _ _ _ c.in-Some.atom (omega arith) c.in-Some.ensures
    (atom_inside c.args.past.now c.args.literals.now _ c.in-Some.atom (record { subject = 0; op = Le; value = pos 0 }) c.in-Some.ensures c.requires)
    (c.was_true.ensures c.if-not-was_true.false) c.in_ok-push.ensures.items c.loop-sign.invariant

pub returns-then-not-was_true : goal.returns-then-not-was_true
returns-then-not-was_true c = λ e. no_not_yes _ e

pub returns : goal.returns
returns c = λ _. subst (λ (us : List Sign). MakeSignsTrue c.args.past.now c.args.literals.now c.args.denied us c.loop-sign.facts.items) (take_all c.loop-sign.sign-index c.args.used.now c.loop-sign-test.false) c.loop-sign.invariant
