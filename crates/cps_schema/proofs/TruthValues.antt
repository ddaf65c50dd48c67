-- Numbers as truth values.
use Rattle.std.specs.Option.{option_map}
use Rattle.std.proofs.Common.{◌≡◌, ℕ, ◌==◌, ◌≤◌, ◌<◌, ◌⊎◌, inl, inr, min, ◌^◌, ◌-◌, Option, Some, None, refl, arith}
use Rattle.std.proofs.lemmas.Grind.{common_steps}
use Rattle.cps_schema.specs.Digits.{capped}
use Rattle.cps_schema.specs.Truths.{truth_numbered}

-- a size is no 0 and no 1 where it is too great for 64 bits
pub capped_truth : (size : Option ℕ) → truth_numbered (option_map capped size) ≡ truth_numbered size
capped_truth None = refl
capped_truth (Some n) = by_size (capped n) refl where
  by_size : (m : ℕ) → m ≡ capped n → truth_numbered (Some m) ≡ truth_numbered (Some n)
  by_size m e = grind (arith, common_steps)
