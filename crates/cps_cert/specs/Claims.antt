-- What a response claims of a model, and what would show it wrong.
use Rattle.std.specs.Prelude.{IsTrue, ℤ, ◌<ℤ◌, List}
use Rattle.cps_model.specs.declared.model.CpModel.{CpModel}
use Rattle.cps_cert.specs.declared.claim.Claim.{Claim}
use Rattle.cps_cert.specs.declared.claim.Claim.TheVariants as claims
use Rattle.cps_model.specs.Values.{literals_hold}
use Rattle.cps_model.specs.Solutions.{objective_value, IsFree, IsSolution}

-- an assignment that shows a claim wrong
abbrev pub Contradicts : CpModel → Claim → List ℤ → Type 0
Contradicts m (claims.Optimal v) a = IsSolution m a × (objective_value m a <ℤ v)
Contradicts m (claims.Infeasible literals) a = IsFree m a × IsTrue (literals_hold a literals)

abbrev pub IsTrueClaim : CpModel → Claim → Type 0
IsTrueClaim m claim = (a : List ℤ) → Contradicts m claim a → ⊥
