-- Each literal before the one that is looked at is known, and is listed.
use Rattle.std.proofs.Common.{arith, ◌≡◌, ◌<◌, length, pos, List, subst}
use Rattle.std.proofs.lemmas.List.{take_all}
use Rattle.cps_literal.specs.declared.atom.Atom.{Atom}
use Rattle.cps_literal.specs.declared.atom.Op.TheVariants.{Le}
use Rattle.cps_propagate.specs.Now.{IsFixedNow}
use Rattle.cps_p_circuit.specs.Showing.{taken_at}
use Rattle.cps_p_circuit.proofs.TakenArcs.{subject_holds, taken_more}
use Rattle.cps_p_circuit.proofs.decided.read_taken.Goals as goal

pub known-requires : goal.known-requires
known-requires c = subject_holds (λ i. i < length c.args.store.now.first) c.args.literals.now c.loop-literal.literal-index _ (omega arith) c.requires

pub returns-in-None-clause-no : goal.returns-in-None-clause-no
returns-in-None-clause-no c = λ e fixed. c.in-None.ensures (subject_holds (IsFixedNow c.args.store.now) c.args.literals.now c.loop-literal.literal-index _ (omega arith) fixed)

pub loop-literal-preserved : goal.loop-literal-preserved
loop-literal-preserved c = taken_more c.args.store.now c.args.literals.now c.loop-literal.literal-index (record { subject = 0; op = Le; value = pos 0 }) _ _ c.in-Some.holds (omega arith) c.in_ok-push-in-Some.ensures.items c.loop-literal.invariant c.in-Some.ensures

pub returns-clause-yes : goal.returns-clause-yes
returns-clause-yes c = λ _. record { is = λ xs o. subst (λ (us : List Atom). taken_at xs us ≡ c.loop-literal.taken.items) (take_all c.loop-literal.literal-index c.args.literals.now c.loop-literal-test.false) (c.loop-literal.invariant xs o) }
