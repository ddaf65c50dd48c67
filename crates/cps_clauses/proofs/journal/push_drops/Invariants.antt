use Rattle.std.proofs.Common.{◌+◌, ◌-◌, ◌≤◌, ◌≡◌, ◌++◌, length, take}
use Rattle.std.specs.Prelude.{vec_len, vec_capacity}
use Rattle.cps_clauses.specs.Lines.{drop_lines}
use Rattle.cps_clauses.proofs.journal.push_drops.Given as goal

abbrev pub invariant-loop-place : goal.invariant-loop-place
invariant-loop-place l = (l.lines.items ≡ l.initial.lines.items ++ drop_lines (take l.place-index l.which)) × (vec_len l.lines + (length l.which - l.place-index) ≤ vec_capacity l.lines)
