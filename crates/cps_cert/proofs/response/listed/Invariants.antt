-- No reference so far is the number.
use Rattle.std.specs.Prelude.{All}
use Rattle.std.proofs.Common.{◌≢◌, take, ℤ}
use Rattle.cps_cert.proofs.response.listed.Given as goal

abbrev pub invariant-loop-reference : goal.invariant-loop-reference
invariant-loop-reference l = All (λ (r : ℤ). r ≢ l.number) (take l.reference-index l.references)
