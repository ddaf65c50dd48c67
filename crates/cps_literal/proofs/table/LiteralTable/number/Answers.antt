-- An atom that has a number stands there, and another is in no place.
use Rattle.std.proofs.Common.{◌≡◌, Some, None, sym, ◌∙◌, subst}
use Rattle.std.specs.Prelude.{slice_get}
use Rattle.std.specs.HashMap.{get}
use Rattle.cps_literal.specs.Table.{Numbers}
use Rattle.cps_literal.proofs.Ordering.{eq_same}
use Rattle.cps_literal.proofs.Indexing.{found, unlisted}
use Rattle.cps_literal.proofs.table.LiteralTable.number.Goals as goal

pub returns-in-Some-clause-ok : goal.returns-in-Some-clause-ok
returns-in-Some-clause-ok c =
    let i = c.self.inside in
    let e = subst (λ r. get r c.self.inside.numbers c.args.atom ≡ Some c.in-Some.number) eq_same (sym (c.in-Some.ensures ∙ c.get.ensures.value)) in
    subst (λ l. Numbers l l c.args.atom c.in-Some.number) c.self.view_is
    (found i.atoms.items i.numbers c.args.atom c.in-Some.number (record { number = c.self.invariant.number; listed = c.self.invariant.listed }) e)

pub add-requires : goal.add-requires
add-requires c =
    let i = c.self.inside in
    let none = subst (λ r. get r c.self.inside.numbers c.args.atom ≡ None) eq_same (sym (c.in_default.ensures ∙ c.get.ensures.value)) in
    λ k e. unlisted i.atoms.items i.numbers c.args.atom k (record { number = c.self.invariant.number; listed = c.self.invariant.listed }) none (subst (λ l. slice_get l k ≡ Some c.args.atom) (sym c.self.view_is) e)
