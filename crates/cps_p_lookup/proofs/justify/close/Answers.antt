-- A case gives the atom, the index is off its place, or the expression and the target are apart.
use Rattle.std.proofs.Common.{ℕ, ◌<◌, ◌^◌, ◌∙◌, Ok, ap, subst, arith, w64, List}
use Rattle.std.proofs.lemmas.Int.{to_z_pos}
use Rattle.cps_literal.specs.declared.atom.Atom.{Atom}
use Rattle.cps_p_lookup.specs.Elements.{Closes}
use Rattle.cps_p_lookup.proofs.Closing.{closes_off, closes_parted}
use Rattle.cps_p_lookup.proofs.justify.close.Goals as goal

small : (k : ℕ) → k < 2 ^ 62 → k < 2 ^ 63
small k l = omega arith

pub returns-then-branch-2 : goal.returns-then-branch-2
returns-then-branch-2 c =
    let k = c.args.case.now in
    λ e. subst (λ (us : List Atom). Closes c.args.past.now k.index k.target k.expr k.place c.args.goal us c.push_fact.new.facts.items) (c.in_ok-give.ensures.no (ap Ok c.if-branch.false))
    (closes_off c.args.past.now k.index k.target k.expr k.place c.args.goal c.atom-off.result c.give.new.facts.items c.push_fact.new.facts.items
    (rw (to_z_pos w64 k.place (small k.place c.requires.place)) at c.atom-off.ensures) (c.in_ok-push_fact.ensures.yes (ap Ok c.if-branch-2.true)))

pub returns : goal.returns
returns c =
    let k = c.args.case.now in
    λ e. subst (λ (us : List Atom). Closes c.args.past.now k.index k.target k.expr k.place c.args.goal us c.push_both.new.facts.items) (c.in_ok-push_fact.ensures.no (ap Ok c.if-branch-2.false) ∙ c.in_ok-give.ensures.no (ap Ok c.if-branch.false))
    (closes_parted c.args.past.now k.index k.target k.expr k.place c.args.goal _ _ c.push_fact.new.facts.items c.push_both.new.facts.items c.parting.ensures (c.push_both.ensures e))
