-- The atom is the one that stands at the number.
use Rattle.std.proofs.Common.{◌≡◌, ◌<◌, List, length, Some, sym, ◌∙◌, ap, subst}
use Rattle.std.specs.Prelude.{slice_get}
use Rattle.std.proofs.lemmas.Option.{slice_get-get_or}
use Rattle.cps_literal.specs.declared.atom.Atom.{Atom}
use Rattle.cps_literal.proofs.table.LiteralTable.atom.Goals as goal

pub returns : goal.returns
returns c =
    let l = subst (λ (xs : List Atom). c.args.number < length xs) (sym c.self.view_is) c.requires in
    subst (λ xs. slice_get xs c.args.number ≡ Some c.index.result.now) c.self.view_is
    (slice_get-get_or c.self.inside.atoms.items c.args.number c.index.result.now l ∙ ap (λ a. Some a) (sym c.index.ensures))
