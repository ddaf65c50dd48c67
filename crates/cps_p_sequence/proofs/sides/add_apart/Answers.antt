use Rattle.std.proofs.Common.{List, sym, subst}
use Rattle.cps_rule.specs.declared.rule.Narrowing.{Narrowing}
use Rattle.cps_p_sequence.specs.Inverses.{AreGivenPlaces, AreTrue}
use Rattle.cps_p_sequence.proofs.Apart.{implied_given, both_given, first_true, second_true}
use Rattle.cps_p_sequence.proofs.sides.add_apart.Goals as goal

pub returns-clause-given : goal.returns-clause-given
returns-clause-given c b implies gs =
    let s = c.args.store.now in
    let more = c.as_slice.result.now in
    let part : AreGivenPlaces b s more = subst (λ (ns : List Narrowing). AreGivenPlaces b s ns) (sym c.as_slice.ensures.value) (implied_given b c.args.side.now implies s c.look.new.found.items c.in_ok-judged.ensures.given) in
    both_given s c.args.found.now.items more c.extend_from_slice.new.self.items c.in_ok-extend_from_slice.ensures.items b gs part

pub returns-clause-kept : goal.returns-clause-kept
returns-clause-kept c all = first_true c.args.store.now c.args.found.now.items c.as_slice.result.now c.extend_from_slice.new.self.items c.in_ok-extend_from_slice.ensures.items all

pub returns-clause-strong : goal.returns-clause-strong
returns-clause-strong c e all =
    let s = c.args.store.now in
    let more = second_true s c.args.found.now.items c.as_slice.result.now c.extend_from_slice.new.self.items c.in_ok-extend_from_slice.ensures.items all in
    let rest = c.in_ok-judged.ensures.rest e (subst (λ (ns : List Narrowing). AreTrue s ns) c.as_slice.ensures.value more) in
    rest.strong
