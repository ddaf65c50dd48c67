-- An assumption without a fault is passed, and the first with one is found.
use Rattle.std.specs.Option.{option_map}
use Rattle.std.proofs.Common.{◌≡◌, ◌∙◌, pos, get_or, ap, sym, rules, FitsSigned, w32}
use Rattle.std.proofs.lemmas.Int.{to_z-of_z}
use Rattle.cps_model.specs.declared.place.Place.TheVariants.{Assumption}
use Rattle.cps_model.specs.Validity.{assumption_fault}
use Rattle.cps_validate.specs.Numbers.{number_of}
use Rattle.cps_validate.proofs.Firsts.{passed, found}
use Rattle.cps_validate.proofs.valid.assumptions_fault.Goals as goal

pub loop-i-preserved : goal.loop-i-preserved
loop-i-preserved c =
    let literals = c.args.assumptions.now in
    let i = c.loop-i.i in
    let fits : FitsSigned w32 (get_or literals i (pos 0)) = search rules in
    let same : option_map number_of c.assumption_fault.result ≡ assumption_fault c.args.variables.now (get_or literals i (pos 0)) = simp to_z-of_z at c.assumption_fault.ensures in
    passed (assumption_fault c.args.variables.now) Assumption literals i (pos 0) _ c.loop-i-test.true (sym same ∙ ap (option_map number_of) c.in_default.is) c.loop-i.invariant

pub returns-in-Some : goal.returns-in-Some
returns-in-Some c =
    let literals = c.args.assumptions.now in
    let i = c.loop-i.i in
    let fits : FitsSigned w32 (get_or literals i (pos 0)) = search rules in
    let same : option_map number_of c.assumption_fault.result ≡ assumption_fault c.args.variables.now (get_or literals i (pos 0)) = simp to_z-of_z at c.assumption_fault.ensures in
    found (assumption_fault c.args.variables.now) Assumption literals i (number_of c.in-Some.rule) (pos 0) _ c.loop-i-test.true (sym same ∙ ap (option_map number_of) c.in-Some.is) c.loop-i.invariant
