-- The atom is true at the place, or one of the other side of the equation was true.
use Rattle.std.proofs.Common.{◌<◌, ◌^◌, ℕ, sym, subst, ◌∙◌, arith, w64, Option}
use Rattle.std.proofs.lemmas.Int.{to_z_pos}
use Rattle.cps_literal.specs.declared.atom.Atom.{Atom}
use Rattle.cps_p_lookup.specs.Elements.{Closes}
use Rattle.cps_p_lookup.proofs.Closing.{closes_met, closes_moved}
use Rattle.cps_p_lookup.proofs.justify.give.Goals as goal

small : (k : ℕ) → k < 2 ^ 62 → k < 2 ^ 63
small k l = omega arith

pub returns-then-is_met-clause-yes : goal.returns-then-is_met-clause-yes
returns-then-is_met-clause-yes c =
    let k = c.args.case.now in
    λ _. subst (λ (g : Option Atom). Closes c.args.past.now k.index k.target k.expr k.place g c.args.facts.now.items c.args.facts.now.items) (sym c.in-Some.is)
    (closes_met c.args.past.now k.index k.target k.expr k.place c.in-Some.atom c.args.facts.now.items c.if-atom-case.true
    (rw (to_z_pos w64 k.place (small k.place c.requires.place)) at (sym c.is_met.ensures ∙ c.if-is_met.true)))

pub returns-in-Some-moved-clause-yes : goal.returns-in-Some-moved-clause-yes
returns-in-Some-moved-clause-yes c =
    let k = c.args.case.now in
    λ e. subst (λ (g : Option Atom). Closes c.args.past.now k.index k.target k.expr k.place g c.args.facts.now.items c.push_fact.new.facts.items) (sym c.in-Some.is)
    (closes_moved c.args.past.now k.index k.target k.expr k.place c.in-Some.atom c.in-Some-moved.fact c.args.facts.now.items c.push_fact.new.facts.items c.in-Some-moved.ensures (c.push_fact.ensures.yes e))
