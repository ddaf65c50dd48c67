-- The terms so far.
use Rattle.std.specs.Prelude.{string_bytes}
use Rattle.std.proofs.Common.{◌≡◌, ◌++◌, take}
use Rattle.cps_log.specs.Writing.{terms_text}
use Rattle.cps_log.proofs.text.put_terms.Given as goal

abbrev pub invariant-loop-place : goal.invariant-loop-place
invariant-loop-place l = string_bytes l.text ≡ string_bytes l.fn.text ++ terms_text (take l.place l.vars) (take l.place l.coeffs)
