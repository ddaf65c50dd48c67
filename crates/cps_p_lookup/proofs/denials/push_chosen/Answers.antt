-- A fact is added, or none.
use Rattle.std.specs.List.{Contains}
use Rattle.std.proofs.lemmas.List.Elements.{Contains-get_or}
use Rattle.std.proofs.Common.{ℕ, Ok, List, sym, ap, subst}
use Rattle.cps_literal.specs.declared.atom.Atom.{Atom}
use Rattle.cps_rule.specs.Facts.{Grows}
use Rattle.cps_p_lookup.proofs.Growing.{adds_grows, grows_same, grows_trans, either_way}
use Rattle.cps_p_lookup.proofs.denials.push_chosen.Goals as goal
use Rattle.cps_p_lookup.proofs.denials.push_chosen.Goals.{then-choice-exprs+in_ok-push_fact, else-choice-exprs}

pub loop-choice-preserved : goal.loop-choice-preserved
loop-choice-preserved c =
    let s = c.args.past.now in
    let es = c.args.exprs.now in
    let old = c.loop-choice.facts.items in
    let inv = c.loop-choice.invariant in
    elim c.if-choice-exprs.branch [
      | then-choice-exprs+in_ok-push_fact w ↦
          (let new = w.push_fact.new.facts.items in
          let step = either_way (Grows s es old new) w.in_ok-push_fact.field-0
          (λ e. adds_grows s w.atom-fact.result es old new (subst (λ (j : ℕ). Contains es j) (sym (ap (λ (u : Atom). u.subject) w.atom-fact.ensures)) (Contains-get_or es _ 0 w.if-choice-exprs.true)) (w.in_ok-push_fact.ensures.yes (ap Ok e)))
          (λ e. grows_same s es old new (w.in_ok-push_fact.ensures.no (ap Ok e))) in
          subst (λ (us : List Atom). Grows s es c.args.facts.now.items us) (sym (ap (λ v. v.items) w.facts-is)) (grows_trans s es c.args.facts.now.items old new inv step))
      | else-choice-exprs w ↦ subst (λ (us : List Atom). Grows s es c.args.facts.now.items us) (sym (ap (λ v. v.items) w.facts-is)) inv
    ]
