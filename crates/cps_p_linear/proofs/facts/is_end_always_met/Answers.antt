use Rattle.std.proofs.Common.{◌≡◌, [], ℤ, true, false, sym, ◌∙◌, subst, rules, FitsSigned, w64}
use Rattle.std.proofs.lemmas.Int.{to_z-of_z}
use Rattle.cps_literal.specs.declared.atom.Op.TheVariants.{Le, Ge}
use Rattle.cps_trail.specs.Trail.{IsTrueAfter}
use Rattle.cps_p_linear.specs.Ends.{is_upper}
use Rattle.cps_p_linear.proofs.Supports.{high_always, low_always}
use Rattle.cps_p_linear.proofs.facts.is_end_always_met.Goals as goal

pub returns-then-is_upper : goal.returns-then-is_upper
returns-then-is_upper c = λ yes.
    let t = c.args.term.now in
    let up : is_upper c.args.side t.coeff ≡ true = sym c.is_upper.ensures ∙ c.if-is_upper.true in
    let high = c.args.values.now.high in
    let fits : FitsSigned w64 high = search rules in
    high_always c.args.past.now c.args.side t c.args.values.now up
    (subst (λ (z : ℤ). IsTrueAfter c.args.past.now.first [] (record { subject = t.subject; op = Le; value = z })) (to_z-of_z w64 high fits) (c.was_always.ensures yes))

pub returns-else-is_upper : goal.returns-else-is_upper
returns-else-is_upper c = λ yes.
    let t = c.args.term.now in
    let up : is_upper c.args.side t.coeff ≡ false = sym c.is_upper.ensures ∙ c.if-is_upper.false in
    let low = c.args.values.now.low in
    let fits : FitsSigned w64 low = search rules in
    low_always c.args.past.now c.args.side t c.args.values.now up
    (subst (λ (z : ℤ). IsTrueAfter c.args.past.now.first [] (record { subject = t.subject; op = Ge; value = z })) (to_z-of_z w64 low fits) (c.was_always-else-is_upper.ensures yes))
