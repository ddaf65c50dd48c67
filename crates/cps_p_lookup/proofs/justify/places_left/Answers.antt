-- The facts that were true leave the index the places between its ends.
use Rattle.std.proofs.Common.{◌≡◌, ◌<◌, ℕ, true, Ok, ap, subst, arith, ltb, length}
use Rattle.std.proofs.lemmas.Bool.Decides.{nat_tests}
use Rattle.cps_p_lookup.specs.Elements.{IsLeft}
use Rattle.cps_p_lookup.proofs.Answering.{none_not_some, some_is}
use Rattle.cps_p_lookup.proofs.Placing.{left_by}
use Rattle.cps_p_lookup.proofs.justify.places_left.Goals as goal

lt_true : (a b : ℕ) → a < b → ltb a b ≡ true
lt_true a b l = grind (arith, nat_tests)

pub returns : goal.returns
returns c = λ window e.
    let from = c.first_place-from.result in
    let to = c.end_of_places-to.result in
    let is = some_is (from, to) window e in
    let s = c.args.past.now in
    let i = c.args.lookup.now.index in
    let es = c.args.lookup.now.exprs.now in
    let few = c.if-places.false in
    subst (λ w. IsLeft s i es c.args.facts.now.items c.push_where-2.new.facts.items w) is
    (left_by s i es c.atom.result c.atom-2.result _ _ from to c.args.facts.now.items c.push_where.new.facts.items c.push_where-2.new.facts.items (ltb 0 from) (ltb to (length es))
    (c.in_ok-push_where.ensures (ap Ok c.if-not-branch.false)) (c.in_ok-push_where-2.ensures (ap Ok c.if-not-branch-2.false)) c.atom.ensures c.atom-2.ensures
    (lt_true 0 from) (lt_true to (length es)) c.first_place-from.ensures c.end_of_places-to.ensures.covers c.end_of_places-to.ensures.inside (omega arith))

pub returns-then-not-branch : goal.returns-then-not-branch
returns-then-not-branch c = λ window e. none_not_some _ window e

pub returns-then-not-branch-2 : goal.returns-then-not-branch-2
returns-then-not-branch-2 c = λ window e. none_not_some _ window e
