-- Members of Luby's sequence by their numbers.
use Rattle.std.proofs.Common.{ℕ, suc, zero, ◌+◌, ◌-◌, ◌*◌, ◌/◌, ◌^◌, ◌≤◌, ◌<◌, ◌≡◌, sym, ap, subst, ◌∙◌, arith, refl}
use Rattle.std.proofs.Math.Nat.{pow-succ'}
use Rattle.cps_branch.specs.Luby.{IsLuby, last, inner}

-- the member sought is the one at a place below 2 ^ (exponent + 1)
pub record IsPlaceOf (member place power : ℕ) : Type 0 where
  pub exponent : ℕ
  pub is_power : power ≡ 2 ^ exponent
  pub some : 0 < place
  pub high : place < 2 * power
  pub leads : (m : ℕ) → IsLuby place m → IsLuby member m

pub place_first : (member : ℕ) → 0 < member → member ≤ 2 ^ 32 → IsPlaceOf member member (2 ^ 32)
place_first member some few = record { exponent = 32; is_power = refl; some = some; high = omega arith; leads = λ m h. h }

twice : (e : ℕ) → 2 ^ suc e ≡ 2 * 2 ^ e
twice e = pow-succ' 2 e

at_suc : (e : ℕ) → 2 ^ (e + 1) ≡ 2 * 2 ^ e
at_suc e = ap (λ n. 2 ^ n) (let h : e + 1 ≡ suc e = omega arith in h) ∙ twice e

-- the half of the power
halved : (e power : ℕ) → power ≡ 2 ^ suc e → power / 2 ≡ 2 ^ e
halved e power h = omega (arith, h, twice e)

pub place_high : (member place power : ℕ) → IsPlaceOf member place power → place + 1 < 2 * power → power ≤ place → IsPlaceOf member (place - (power - 1)) (power / 2)
place_high member place power at below high = go at.exponent at.is_power
  where
    go : (e : ℕ) → power ≡ 2 ^ e → IsPlaceOf member (place - (power - 1)) (power / 2)
    go zero h = let one : power ≡ 1 = h in absurd (omega (arith, below, high, at.some, one))
    go (suc e) h =
        let half : power / 2 ≡ 2 ^ e = halved e power h in
        let whole : power ≡ 2 * 2 ^ e = h ∙ twice e in
        let positive : 0 < power = omega (arith, at.some, at.high) in
        record {
          exponent = e;
          is_power = half;
          some = omega (arith, high, positive);
          high = omega (arith, below, half, whole, positive);
          leads = λ m l. at.leads m (inner (suc e) place m (omega (arith, h, high)) (omega (arith, at_suc (suc e), h, below))
              (subst (λ n. IsLuby n m) (let same : place - (power - 1) ≡ place - 2 ^ suc e + 1 = omega (arith, h, high, positive) in same) l));
        }

pub place_low : (member place power : ℕ) → IsPlaceOf member place power → place + 1 < 2 * power → place < power → IsPlaceOf member place (power / 2)
place_low member place power at below low = go at.exponent at.is_power
  where
    go : (e : ℕ) → power ≡ 2 ^ e → IsPlaceOf member place (power / 2)
    go zero h = let one : power ≡ 1 = h in absurd (omega (arith, low, at.some, one))
    go (suc e) h =
        let half : power / 2 ≡ 2 ^ e = halved e power h in
        let whole : power ≡ 2 * 2 ^ e = h ∙ twice e in
        record { exponent = e; is_power = half; some = at.some; high = omega (arith, low, half, whole); leads = at.leads }

pub place_last : (member place power : ℕ) → IsPlaceOf member place power → 2 * power ≤ place + 1 → IsLuby member power
place_last member place power at high =
    at.leads power (subst (λ p. IsLuby place p) (sym at.is_power) (last at.exponent place (omega (arith, at_suc at.exponent, at.is_power, high, at.high))))
