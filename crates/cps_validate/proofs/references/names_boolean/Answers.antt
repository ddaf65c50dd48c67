-- What is read at a variable's place is the variable, and past the last there is none.
use Rattle.std.proofs.Common.{◌≡◌, ◌∙◌, ap, sym, refl, slice_get, length, FitsSigned, w32}
use Rattle.std.proofs.lemmas.Int.{to_z-of_z}
use Rattle.std.proofs.lemmas.Option.{slice_get_read, slice_get_past}
use Rattle.cps_model.specs.Rules.{is_some_boolean}
use Rattle.cps_model.specs.Values.{variable_of}
use Rattle.cps_validate.proofs.references.names_boolean.Goals as goal

pub returns-in-Some : goal.returns-in-Some
returns-in-Some c =
    let vs = c.args.variables.now in
    let i = c.variable_of.result in
    let at = c.in-Some.ensures.lookup in
    let fits : FitsSigned w32 c.args.reference = c.ranges.reference in
    let which : i ≡ variable_of c.args.reference = simp to_z-of_z at c.variable_of.ensures in
    c.is_boolean.ensures ∙ ap is_some_boolean (sym (slice_get_read vs (length vs) i c.in-Some.variable.now refl at.3.0 at.1) ∙ ap (slice_get vs) which)

pub returns-in-None : goal.returns-in-None
returns-in-None c =
    let vs = c.args.variables.now in
    let i = c.variable_of.result in
    let fits : FitsSigned w32 c.args.reference = c.ranges.reference in
    let which : i ≡ variable_of c.args.reference = simp to_z-of_z at c.variable_of.ensures in
    ap is_some_boolean (sym (slice_get_past vs i c.in-None.ensures.lookup.3) ∙ ap (slice_get vs) which)
