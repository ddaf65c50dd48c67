-- The rows whose value in the column does not meet the atom.
use Rattle.std.proofs.Common.{Option, List, ℕ, sym, subst, rules, FitsSigned, w64}
use Rattle.std.proofs.lemmas.Int.{to_z-of_z}
use Rattle.cps_literal.specs.declared.atom.Atom.{Atom}
use Rattle.cps_p_lookup.specs.Cells.{IsColumnOf}
use Rattle.cps_p_lookup.specs.Tabling.{AreSought}
use Rattle.cps_p_lookup.proofs.Seeking.{unmet_sought}
use Rattle.cps_p_lookup.proofs.denials.seek.Goals as goal

pub returns : goal.returns
returns c =
    let es = c.args.tuples.now.exprs in
    let vs = c.args.tuples.now.values in
    let cells = c.cells_between-2.result.now in
    let u = c.in-Some.atom in
    let k = c.in-Some-column_of.column in
    let low = c.unmet_between-low.result.0 in
    let high = c.unmet_between-low.result.1 in
    let fl : FitsSigned w64 low = search rules in
    let fh : FitsSigned w64 high = search rules in
    let every = rw (to_z-of_z w64 low fl, to_z-of_z w64 high fh) at c.cells_between-2.ensures.every in
    subst (λ (g : Option Atom). AreSought es vs g cells) (sym c.in-Some.is)
    (unmet_sought es vs u k low high cells (subst (λ (ns : List ℕ). IsColumnOf ns k u) c.grid.ensures.exprs c.in-Some-column_of.ensures) c.unmet_between-low.ensures c.cells_between-2.ensures.inside every c.cells_between-2.ensures.range)
