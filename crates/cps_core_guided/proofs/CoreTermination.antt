-- A core-guided worker's turns do not go on for ever: a number for what is left, which each turn but the last makes less.
use Rattle.std.specs.Prelude.{unsigned_abs}
use Rattle.std.proofs.Common.{ℕ, ◌+◌, ◌-◌, ◌*◌, ◌^◌, ◌≤◌, ◌<◌, ◌≡◌, ◌∙◌, ◌⊎◌, inl, inr, Option, Some, None, length, ap, arith, ℤ, pos, ◌+ℤ◌, ◌-ℤ◌, ◌≤ℤ◌, ◌<ℤ◌}
use Rattle.std.proofs.lemmas.Int.{ints}
use Rattle.std.proofs.Math.Nat.{mul-le-mul_right}
use Rattle.cps_model.specs.declared.bound.Bound.{Bound}
use Rattle.cps_model.specs.declared.bound.Bound.TheVariants.{At, Infinite}
use Rattle.cps_instance.specs.Terms.{Domains}
use Rattle.cps_trail.specs.Trail.{open_values}
use Rattle.cps_port.specs.declared.part.BoardPart.{BoardPart}
use Rattle.cps_port.specs.Order.{BoundLe, IsSmallBound}
use Rattle.cps_search.specs.Searches.{Search}
use Rattle.cps_search.specs.Turns.{IsLess}
use Rattle.cps_core_guided.specs.CoreTurns.{LowersCore, SameCoreSetting, fewer_conflicts, fewer_rows, fewer_values, higher_base, lesser_z}
use Rattle.cps_core_guided.specs.Reforming.{CoreSearch, IsSoundCore}
use Rattle.cps_core_guided.proofs.Reforms.{z-small}
use Rattle.cps_core_guided.proofs.Values.{open-most}

-- ---- numbers of two digits

first_less : (a a' b b' base : ℕ) → a' < a → b' < base → a' * base + b' < a * base + b
first_less a a' b b' base l m =
    let more : (a' + 1) * base ≤ a * base = mul-le-mul_right base l' in
    omega (arith, more, times_more a' base, m)
  where
    l' : a' + 1 ≤ a
    l' = omega (arith, l)

    times_more : (a base : ℕ) → (a + 1) * base ≡ a * base + base
    times_more a base = grind arith

second_less : (a a' b b' base : ℕ) → a' ≤ a → b' < b → a' * base + b' < a * base + b
second_less a a' b b' base l m = (let more = mul-le-mul_right base l in omega (arith, more, m))

both_most : (a a' b b' base : ℕ) → a' ≤ a → b' ≤ b → a' * base + b' ≤ a * base + b
both_most a a' b b' base l m = (let more = mul-le-mul_right base l in omega (arith, more, m))

-- ---- a number for z, in the order of bounds
abbrev pub height : Bound → ℕ
height (At v) = unsigned_abs (v +ℤ pos (2 ^ 62))
height Infinite = 2 ^ 63

height_most : (z : Bound) → IsSmallBound z → height z < 2 ^ 63 + 1
height_most (At v) h = omega (arith, ints, h)
height_most Infinite h = omega arith

height_falls : (y z : Bound) → IsSmallBound y → IsSmallBound z → BoundLe y z → height y ≤ height z
height_falls (At x) (At y) hx hy l = omega (arith, ints, hx, hy, l)
height_falls (At x) Infinite hx hy l = omega (arith, ints, hx)
height_falls Infinite (At y) hx hy l = absurd l
height_falls Infinite Infinite hx hy l = omega arith

less_or : (x y : ℤ) → (x <ℤ y) ⊎ (y ≤ℤ x)
less_or x y = grind (arith, ints)

height_less : (y z : Bound) → IsSmallBound y → IsSmallBound z → IsLess y z → height y < height z
height_less (At x) (At y) hx hy l = elim (less_or x y) [ inl less ↦ omega (arith, ints, hx, hy, less) | inr most ↦ absurd (l most) ]
height_less (At x) Infinite hx hy l = omega (arith, ints, hx)
height_less Infinite (At y) hx hy l = absurd (l tt)
height_less Infinite Infinite hx hy l = absurd (l tt)

-- ---- what is left
abbrev budget_of : Option ℕ → ℕ
budget_of None = 0
budget_of (Some b) = b

abbrev pub conflicts_left : Search → ℕ
conflicts_left s = budget_of s.budget - s.tally

-- how far the base can rise
abbrev pub rise_left : ℤ → ℕ
rise_left base = unsigned_abs (pos (2 ^ 62) -ℤ base)

rise_most : (base : ℤ) → unsigned_abs base < 2 ^ 62 → rise_left base < 2 ^ 63 + 1
rise_most base h = omega (arith, ints, h)

rise_less : (a b : ℤ) → unsigned_abs a < 2 ^ 62 → unsigned_abs b < 2 ^ 62 → a <ℤ b → rise_left b < rise_left a
rise_less a b h k l = omega (arith, ints, h, k, l)

-- what is left of the conflicts, of z and of the base
abbrev pub steps_left : CoreSearch → ℕ
steps_left s = (conflicts_left s.search * (2 ^ 63 + 1) + height s.search.z) * (2 ^ 63 + 1) + rise_left s.form.base

-- what is left of a core-guided worker: conflicts to learn from, the bound z, how far the base can rise, rows to take, and open values
abbrev pub core_left : CoreSearch → ℕ → BoardPart → ℕ
core_left s rows p = (steps_left s * (rows + 1) + (rows - length p.taken)) * (2 ^ 94 + 1) + open_values s.search.store.first s.search.store.entries

module _ (s t : CoreSearch) (rows : ℕ) (p q : BoardPart) (before : IsSoundCore s) (after : IsSoundCore t) (setting : SameCoreSetting s t) where
  few_open : open_values t.search.store.first t.search.store.entries < 2 ^ 94 + 1
  few_open =
      let domains = after.search.instance.domains in
      let most = open-most t.search.instance.domains t.search.store.entries domains.sound domains.few in
      let same = ap (λ (ds : Domains). open_values ds t.search.store.entries) after.search.domains in
      omega (arith, most, same)

  few_rows : rows - length q.taken < rows + 1
  few_rows = omega arith

  high_most : height t.search.z < 2 ^ 63 + 1
  high_most = height_most t.search.z (z-small t.search after.search)

  rise : rise_left t.form.base < 2 ^ 63 + 1
  rise = rise_most t.form.base after.base

  same_conflicts : t.search.tally ≡ s.search.tally → conflicts_left t.search ≡ conflicts_left s.search
  same_conflicts e = ap (λ (b : Option ℕ). budget_of b - t.search.tally) setting.budget ∙ ap (λ (n : ℕ). budget_of s.search.budget - n) e

  z_most : t.search.tally ≡ s.search.tally → BoundLe t.search.z s.search.z → conflicts_left t.search * (2 ^ 63 + 1) + height t.search.z ≤ conflicts_left s.search * (2 ^ 63 + 1) + height s.search.z
  z_most e falls =
      let same = same_conflicts e in
      both_most (conflicts_left s.search) (conflicts_left t.search) (height s.search.z) (height t.search.z) (2 ^ 63 + 1) (omega (arith, same))
      (height_falls t.search.z s.search.z (z-small t.search after.search) (z-small s.search before.search) falls)

  steps_most : t.search.tally ≡ s.search.tally → BoundLe t.search.z s.search.z → t.form.base ≡ s.form.base → steps_left t ≤ steps_left s
  steps_most e falls same =
      let rest = ap (λ (b : ℤ). rise_left b) same in
      both_most (conflicts_left s.search * (2 ^ 63 + 1) + height s.search.z) (conflicts_left t.search * (2 ^ 63 + 1) + height t.search.z) (rise_left s.form.base) (rise_left t.form.base) (2 ^ 63 + 1)
      (z_most e falls) (omega (arith, rest))

  -- where the steps that are left get fewer, all does
  by_steps : steps_left t < steps_left s → core_left t rows q < core_left s rows p
  by_steps less =
      first_less (steps_left s * (rows + 1) + (rows - length p.taken)) (steps_left t * (rows + 1) + (rows - length q.taken)) (open_values s.search.store.first s.search.store.entries) (open_values t.search.store.first t.search.store.entries) (2 ^ 94 + 1)
      (first_less (steps_left s) (steps_left t) (rows - length p.taken) (rows - length q.taken) (rows + 1) less few_rows) few_open

  by_z : conflicts_left t.search * (2 ^ 63 + 1) + height t.search.z < conflicts_left s.search * (2 ^ 63 + 1) + height s.search.z → core_left t rows q < core_left s rows p
  by_z less = by_steps (first_less (conflicts_left s.search * (2 ^ 63 + 1) + height s.search.z) (conflicts_left t.search * (2 ^ 63 + 1) + height t.search.z) (rise_left s.form.base) (rise_left t.form.base) (2 ^ 63 + 1) less rise)

  pub core_lowered : LowersCore s t rows p q → core_left t rows q < core_left s rows p
  core_lowered (fewer_conflicts budget is left e) =
      let had = ap budget_of is in
      let have = ap budget_of setting.budget in
      let less : conflicts_left t.search < conflicts_left s.search = omega (arith, left, e, had, have) in
      by_z (first_less (conflicts_left s.search) (conflicts_left t.search) (height s.search.z) (height t.search.z) (2 ^ 63 + 1) less high_most)
  core_lowered (lesser_z e less) =
      let same = same_conflicts e in
      by_z (second_less (conflicts_left s.search) (conflicts_left t.search) (height s.search.z) (height t.search.z) (2 ^ 63 + 1) (omega (arith, same))
      (height_less t.search.z s.search.z (z-small t.search after.search) (z-small s.search before.search) less))
  core_lowered (higher_base e falls more most) =
      by_steps (second_less (conflicts_left s.search * (2 ^ 63 + 1) + height s.search.z) (conflicts_left t.search * (2 ^ 63 + 1) + height t.search.z) (rise_left s.form.base) (rise_left t.form.base) (2 ^ 63 + 1) (z_most e falls)
      (rise_less s.form.base t.form.base before.base after.base more))
  core_lowered (fewer_rows e falls same within more) =
      first_less (steps_left s * (rows + 1) + (rows - length p.taken)) (steps_left t * (rows + 1) + (rows - length q.taken)) (open_values s.search.store.first s.search.store.entries) (open_values t.search.store.first t.search.store.entries) (2 ^ 94 + 1)
      (second_less (steps_left s) (steps_left t) (rows - length p.taken) (rows - length q.taken) (rows + 1) (steps_most e falls same) (omega (arith, within, more))) few_open
  core_lowered (fewer_values e falls same taken less) =
      second_less (steps_left s * (rows + 1) + (rows - length p.taken)) (steps_left t * (rows + 1) + (rows - length q.taken)) (open_values s.search.store.first s.search.store.entries) (open_values t.search.store.first t.search.store.entries) (2 ^ 94 + 1)
      (both_most (steps_left s) (steps_left t) (rows - length p.taken) (rows - length q.taken) (rows + 1) (steps_most e falls same) (omega (arith, taken))) less
