-- The text is that of the terms so far and the rest; terms whose text it is begin with these.
use Rattle.std.proofs.Common.{◌≡◌, ℤ, List, ◌++◌, length}
use Rattle.cps_log.specs.Writing.{terms_text}
use Rattle.cps_log.specs.Fitting.{FitTerms}
use Rattle.cps_cert.proofs.reader.terms_of.Given as goal

abbrev pub invariant-loop-rest : goal.invariant-loop-rest
invariant-loop-rest l = record {
  fits : FitTerms l.vars.items l.coeffs.items;
  text : l.text ≡ terms_text l.vars.items l.coeffs.items ++ l.rest;
  begins : (rs cs : List ℤ) → FitTerms rs cs → l.text ≡ terms_text rs cs
      → (variables : List ℤ) × (coefficients : List ℤ) × FitTerms variables coefficients × (l.rest ≡ terms_text variables coefficients);
}

abbrev pub decreases-loop-rest : goal.decreases-loop-rest
decreases-loop-rest l = length l.rest
