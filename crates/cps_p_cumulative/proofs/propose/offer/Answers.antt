-- An atom counts where its denial is seen to overload the window.
use Rattle.std.proofs.Common.{◌≡◌, true, rules, subst, sym, List}
use Rattle.std.specs.Prelude.{Ok}
use Rattle.std.specs.List.{All}
use Rattle.std.proofs.lemmas.List.Elements.{All-push}
use Rattle.cps_literal.specs.declared.atom.Atom.{Atom}
use Rattle.cps_instance.specs.Tasks.{HoldsBody, subjects_of_body}
use Rattle.cps_rule.specs.declared.rule.Narrowing.{Narrowing}
use Rattle.cps_rule.specs.Rules.{IsGiven}
use Rattle.cps_p_cumulative.specs.Running.{body_of}
use Rattle.cps_p_cumulative.specs.Relying.{Relies}
use Rattle.cps_p_cumulative.proofs.Levelled.{ok_true}
use Rattle.cps_p_cumulative.proofs.NegatableValues.{tested, negatable_low, negatable_high, negatable_above, negatable_below}
use Rattle.cps_p_cumulative.proofs.Relied.{explained, given, no_facts}
use Rattle.cps_p_cumulative.proofs.propose.offer.Goals as goal

pub returns-in_ok-push : goal.returns-in_ok-push
returns-in_ok-push c =
    let s = c.args.past.now in
    let r = c.args.resource.now in
    let u = c.args.narrowing.target in
    let ok : c.charge.result ≡ Ok true = ok_true c.charge.result c.in_ok-charge.field-0 c.in_ok-charge.was c.if-branch.true in
    let facts = c.charge.new.facts.items in
    let e = explained s (body_of r) c.negate.result u facts c.negate.ensures.subject c.negate.ensures.negated
    (subst (λ (us : List Atom). Relies s c.negate.result (subjects_of_body (body_of r)) (λ xs. HoldsBody (body_of r) xs → ⊥) us facts) c.clear.ensures.items (c.charge.ensures ok)) in
    subst (λ (ns : List Narrowing). All (λ n. IsGiven (body_of r) s n.target) ns) (sym c.in_ok-push.ensures.items)
    (All-push (λ (n : Narrowing). IsGiven (body_of r) s n.target) c.args.found.now.items c.args.narrowing c.requires.found (given s (body_of r) u facts c.requires.subject e))

pub negate-requires-clause-low : goal.negate-requires-clause-low
negate-requires-clause-low c = negatable_low c.args.narrowing.target.value (tested c.args.narrowing.target.value (search rules) (c.is_inside.ensures c.if-not-is_inside.false))

pub negate-requires-clause-high : goal.negate-requires-clause-high
negate-requires-clause-high c = negatable_high c.args.narrowing.target.value (tested c.args.narrowing.target.value (search rules) (c.is_inside.ensures c.if-not-is_inside.false))

pub negate-requires-clause-above : goal.negate-requires-clause-above
negate-requires-clause-above c = λ _. negatable_above c.args.narrowing.target.value (tested c.args.narrowing.target.value (search rules) (c.is_inside.ensures c.if-not-is_inside.false))

pub negate-requires-clause-below : goal.negate-requires-clause-below
negate-requires-clause-below c = λ _. negatable_below c.args.narrowing.target.value (tested c.args.narrowing.target.value (search rules) (c.is_inside.ensures c.if-not-is_inside.false))

pub charge-requires-clause-resource : goal.charge-requires-clause-resource
charge-requires-clause-resource c = c.requires.resource

pub charge-requires-clause-facts : goal.charge-requires-clause-facts
charge-requires-clause-facts c = no_facts c.args.past.now c.clear.new.self.items c.clear.ensures.items
