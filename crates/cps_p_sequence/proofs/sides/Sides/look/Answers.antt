use Rattle.std.proofs.Common.{List, sym, subst}
use Rattle.std.proofs.lemmas.List.Elements.{All-nil}
use Rattle.cps_rule.specs.declared.rule.Narrowing.{Narrowing}
use Rattle.cps_rule.specs.declared.rule.Look.{Look}
use Rattle.cps_rule.specs.Rules.{IsGiven, IsSeen}
use Rattle.cps_p_sequence.specs.Inverses.{AreGivenPlaces}
use Rattle.cps_p_sequence.proofs.Apart.{implied_denied, ok_possible, possible_of}
use Rattle.cps_p_sequence.proofs.sides.Sides.look.Goals as goal

pub returns-clause-given : goal.returns-clause-given
returns-clause-given c b direct inverse =
    let s = c.args.store.now in
    let start : AreGivenPlaces b s c.clear.new.self.items = subst (λ (ns : List Narrowing). AreGivenPlaces b s ns) (sym c.clear.ensures.items) (All-nil (λ (n : Narrowing). IsGiven b s n.target)) in
    c.in_ok-two.ensures.given b inverse (c.in_ok-one.ensures.given b direct start)

pub returns-clause-denied : goal.returns-clause-denied
returns-clause-denied c b direct inverse =
    let s = c.args.store.now in
    c.surest.ensures.denied b s (implied_denied b c.args.self.now.direct direct s c.in_ok-one.one c.in_ok-one.ensures.seen)
    (implied_denied b c.args.self.now.inverse inverse s c.in_ok-two.two c.in_ok-two.ensures.seen)

pub returns-clause-seen : goal.returns-clause-seen
returns-clause-seen c e =
    let s = c.args.store.now in
    let both = c.surest.ensures.possible (possible_of c.surest.result e) in
    (subst (λ (l : Look). IsSeen c.args.self.now.direct s l) both.0 c.in_ok-one.ensures.seen, subst (λ (l : Look). IsSeen c.args.self.now.inverse s l) both.1 c.in_ok-two.ensures.seen)

pub returns-clause-strong : goal.returns-clause-strong
returns-clause-strong c e all =
    let both = c.surest.ensures.possible (possible_of c.surest.result e) in
    (c.in_ok-one.ensures.strong (ok_possible c.in_ok-one.one both.0) (c.in_ok-two.ensures.kept all), c.in_ok-two.ensures.strong (ok_possible c.in_ok-two.two both.1) all)
