use Rattle.std.proofs.Common.{◌≡◌, ℕ, ◌<◌, get_or}
use Rattle.cps_literal.specs.declared.atom.Atom.{Atom}
use Rattle.cps_reform.proofs.mark.is_among.Given as goal

abbrev pub invariant-loop-other : goal.invariant-loop-other
invariant-loop-other l = (k : ℕ) (d : Atom) → k < l.other-index → get_or l.atoms k d ≡ l.atom → ⊥
