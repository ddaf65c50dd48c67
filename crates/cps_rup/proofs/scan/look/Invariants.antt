-- Each clause so far that is not done is idle.
use Rattle.std.proofs.Common.{◌≡◌, ℕ, ◌<◌, List, get_or, true, false}
use Rattle.cps_literal.specs.declared.atom.Atom.{Atom}
use Rattle.cps_rup.specs.Domains.{box_in, IsIdle}
use Rattle.cps_rup.proofs.scan.look.Given as goal

abbrev pub invariant-loop-place : goal.invariant-loop-place
invariant-loop-place l = (k : ℕ) (d : List Atom) → k < l.place → get_or l.done k true ≡ false → IsIdle (box_in l.domains) (get_or l.clauses k d)
