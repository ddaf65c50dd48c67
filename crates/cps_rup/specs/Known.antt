-- What a contract sees of a `RupChecker`.
use Rattle.std.specs.Prelude.{List}
use Rattle.cps_domain.specs.Window.{Window}
use Rattle.cps_literal.specs.declared.atom.Atom.{Atom}

-- the domain of each subject as it was given, and the clauses in order
pub record Known : Type 0 where
  pub domains : List Window
  pub clauses : List (List Atom)
