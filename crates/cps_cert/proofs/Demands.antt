-- What a kind's own constructor says of its sums and of what it demands.
use Rattle.std.specs.Prelude.{All}
use Rattle.std.proofs.Common.{◌≡◌, ℕ, List, Bool, true, ◌⊎◌, refl, sym, arith, subst, ℤ, pos}
use Rattle.cps_model.specs.declared.model.LinearExpr.{LinearExpr}
use Rattle.cps_model.specs.declared.constraint.Kind.{Kind}
use Rattle.cps_model.specs.declared.constraint.Kind.TheVariants.{Linear, ExactlyOne}
use Rattle.cps_model.specs.Rules.{sums_of}
use Rattle.cps_unit.specs.Boxes.{Box}
use Rattle.cps_log.specs.Boxes.{IsFixedTrue, IsFixedFalse}
use Rattle.cps_subjects.specs.Domains.{IsSmallSum}
use Rattle.cps_cert.specs.Refuting.{AtTwo, is_direct, IsDemandRefuted}

-- the sum of a linear constraint is small
pub linear_small : (box : Box) (count : ℕ) (kind : Kind) (vars coeffs domain : List ℤ) → kind ≡ Linear vars coeffs domain → All (λ (e : LinearExpr). IsSmallSum box count e.vars e.coeffs) (sums_of kind) → IsSmallSum box count vars coeffs
linear_small box count kind vars coeffs domain e all =
    let sums : All (λ (e : LinearExpr). IsSmallSum box count e.vars e.coeffs) (sums_of (Linear vars coeffs domain)) = subst (λ (k : Kind). All (λ (e : LinearExpr). IsSmallSum box count e.vars e.coeffs) (sums_of k)) e all in
    sums 0 (record { vars = vars; coeffs = coeffs; offset = pos 0 }) (omega arith)

pub exactly_refuted : (box : Box) (kind : Kind) (literals : List ℤ) (b : Bool) → kind ≡ ExactlyOne literals → ((b ≡ true → All (IsFixedFalse box) literals ⊎ AtTwo (IsFixedTrue box) literals) × (All (IsFixedFalse box) literals ⊎ AtTwo (IsFixedTrue box) literals → b ≡ true)) → (is_direct kind ≡ true) × ((b ≡ true → IsDemandRefuted box kind) × (IsDemandRefuted box kind → b ≡ true))
exactly_refuted box kind literals b e said = subst (λ (k : Kind). (is_direct k ≡ true) × ((b ≡ true → IsDemandRefuted box k) × (IsDemandRefuted box k → b ≡ true))) (sym e) (refl, said)
