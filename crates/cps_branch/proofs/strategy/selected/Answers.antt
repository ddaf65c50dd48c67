-- The upper half begins one above the middle.
use Rattle.std.proofs.Common.{rules, ◌∙◌, refl, sym, subst, FitsSigned, w64, to_z, of_z}
use Rattle.std.proofs.lemmas.Int.{to_z-of_z}
use Rattle.cps_model.specs.declared.steering.Select.{Select}
use Rattle.cps_literal.specs.declared.atom.Op.TheVariants.{Ge}
use Rattle.cps_branch.specs.Strategies.{Selects}
use Rattle.cps_branch.proofs.strategy.selected.Goals as goal

pub returns-in-UpperHalf-clause-selected : goal.returns-in-UpperHalf-clause-selected
returns-in-UpperHalf-clause-selected c =
    let m = c.middle-in-UpperHalf.result in
    let f : FitsSigned w64 m = search rules in
    let g : FitsSigned w64 c.raised.result = search rules in
    let sum = simp to_z-of_z at c.raised.ensures in
    subst (λ (k : Select). Selects k c.args.store.now (record { subject = c.args.subject; op = Ge; value = to_z w64 (of_z w64 c.raised.result) })) (sym c.in-UpperHalf.is)
    (refl, (m, (c.middle-in-UpperHalf.ensures.middle, to_z-of_z w64 c.raised.result g ∙ sum)))
