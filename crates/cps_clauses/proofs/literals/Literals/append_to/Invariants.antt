use Rattle.std.proofs.Common.{◌+◌, ◌-◌, ◌≤◌, ◌≡◌, ◌++◌, length, take}
use Rattle.std.specs.Prelude.{vec_len, vec_capacity}
use Rattle.cps_clauses.proofs.literals.Literals.append_to.Given as goal

abbrev pub invariant-loop-place : goal.invariant-loop-place
invariant-loop-place l = (l.atoms.items ≡ l.fn.atoms.items ++ take l.place l.self) × (vec_len l.atoms + (length l.self - l.place) ≤ vec_capacity l.atoms)
