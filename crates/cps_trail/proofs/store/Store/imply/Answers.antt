-- The reason is lent as it is.
use Rattle.std.proofs.Common.{List, ◌≡◌, ◌++◌, ◌∷◌, [], Ok, subst}
use Rattle.cps_domain.specs.declared.cut.Cut.TheVariants as cuts
use Rattle.cps_literal.specs.declared.atom.Atom.{Atom}
use Rattle.cps_trail.specs.Trail.{Because}
use Rattle.cps_trail.proofs.store.Store.imply.Goals as goal

pub returns-clause-narrowed : goal.returns-clause-narrowed
returns-clause-narrowed c =
    subst (λ (r : List Atom). c.imply_by.result ≡ Ok cuts.Narrowed → c.imply_by.new.self ≡ record c.args.self.now { entries = c.args.self.now.entries ++ record { atom = c.args.atom; level = c.args.self.now.level; reason = Because r } ∷ [] }) c.as_slice.ensures c.imply_by.ensures.narrowed
