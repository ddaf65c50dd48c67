-- A row is ruled out by one more fact at some column.
use Rattle.std.proofs.Common.{Ok, Option, sym, ap, subst, ◌∙◌, pos, get_or, rules, FitsSigned, w64}
use Rattle.std.proofs.lemmas.Int.{to_z-of_z}
use Rattle.cps_literal.specs.declared.atom.Atom.{Atom}
use Rattle.cps_p_lookup.specs.Tabling.{ClosesRow}
use Rattle.cps_p_lookup.proofs.Excluding.{off_closes, met_closes}
use Rattle.cps_p_lookup.proofs.denials.close_row.Goals as goal

pub returns-then-branch : goal.returns-then-branch
returns-then-branch c = λ e.
    let row = c.args.row.now in
    let k = c.loop-k.k in
    let z = get_or row k (pos 0) in
    let f : FitsSigned w64 z = search rules in
    off_closes c.args.past.now c.args.exprs.now row k c.args.goal c.off-fact.result c.args.facts.now.items c.loop-k.facts.items c.push_fact.new.facts.items c.loop-k-test.true
    (rw (to_z-of_z w64 z f) at c.off-fact.ensures) c.loop-k.invariant (c.in_ok-push_fact.ensures.yes (ap Ok c.if-branch.true))

pub loop-k-preserved : goal.loop-k-preserved
loop-k-preserved c = c.in_ok-push_fact.ensures.no (ap Ok c.if-branch.false) ∙ c.loop-k.invariant

pub returns : goal.returns
returns c = λ _. subst (λ (g : Option Atom). ClosesRow c.args.past.now c.args.exprs.now c.args.row.now g c.args.facts.now.items c.args.facts.now.items) (sym c.in-Some.is) (met_closes c.args.past.now c.args.exprs.now c.args.row.now c.in-Some.atom c.args.facts.now.items (c.has_met.ensures c.if-has_met.true))
