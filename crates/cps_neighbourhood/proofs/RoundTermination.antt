-- A neighbourhood worker's turns do not go on for ever: a number for what is left, which each turn but the last makes less.
use Rattle.std.specs.Prelude.{negsuc}
use Rattle.std.proofs.Common.{ℕ, ◌+◌, ◌-◌, ◌*◌, ◌^◌, ◌≤◌, ◌<◌, pos, ◌≡◌, ◌∙◌, Option, None, [], length, sym, ap, subst, arith}
use Rattle.std.proofs.lemmas.Int.{ints}
use Rattle.std.proofs.Math.Nat.{mul-le-mul_right}
use Rattle.cps_model.specs.declared.bound.Bound.{Bound}
use Rattle.cps_model.specs.declared.bound.Bound.TheVariants.{At, Infinite}
use Rattle.cps_instance.specs.Problem.{Problem}
use Rattle.cps_trail.specs.Trail.{Domains, open_values}
use Rattle.cps_port.specs.declared.part.BoardPart.{BoardPart}
use Rattle.cps_port.specs.Order.{IsSmallBound}
use Rattle.cps_search.specs.Searches.{IsSoundSearch, Search}
use Rattle.cps_search.specs.Turns.{SameSetting}
use Rattle.cps_search.specs.Ends.{round_count}
use Rattle.cps_search.proofs.ConflictLessons.{small_of}
use Rattle.cps_search.proofs.TurnTermination.{left_of, lowered, open_most, rank}
use Rattle.cps_neighbourhood.specs.Nears.{Near, NearLowers, fewer_conflicts, fewer_rounds, in_search, learnt_in}

-- a number of two digits
digit_fits : (a b n base : ℕ) → a < n → b < base → a * base + b < n * base
digit_fits a b n base l m =
    let more : (a + 1) * base ≤ n * base = mul-le-mul_right base l' in
    omega (arith, more, times_more a base, m)
  where
    l' : a + 1 ≤ n
    l' = omega arith

    times_more : (a base : ℕ) → (a + 1) * base ≡ a * base + base
    times_more a base = grind arith

first_less : (a a' b b' base : ℕ) → a' < a → b' < base → a' * base + b' < a * base + b
first_less a a' b b' base l m = (let low = digit_fits a' b' a base l m in omega (arith, low))

second_less : (a a' b b' base : ℕ) → a' ≡ a → b' < b → a' * base + b' < a * base + b
second_less a a' b b' base e m = omega (arith, ap (λ (n : ℕ). n * base) e, m)

rank_most : (z : Bound) → IsSmallBound z → rank z < 2 ^ 63 + 1
rank_most (At (pos n)) h = omega (arith, h, ints)
rank_most (At (negsuc n)) h = omega (arith, h, ints)
rank_most Infinite h = omega arith

all_fit : (tally r rows taken top values : ℕ) → r < 2 ^ 63 + 1 → values < top → (((0 - tally) * (2 ^ 63 + 1) + r) * (rows + 1) + (rows - taken)) * top + values < (2 ^ 63 + 1) * (rows + 1) * top
all_fit tally r rows taken top values l m =
    digit_fits (((0 - tally) * (2 ^ 63 + 1) + r) * (rows + 1) + (rows - taken)) values ((2 ^ 63 + 1) * (rows + 1)) top
    (digit_fits ((0 - tally) * (2 ^ 63 + 1) + r) (rows - taken) (2 ^ 63 + 1) (rows + 1) (omega (arith, l)) (omega arith)) m

-- what is left of a search without a budget is less than this
left_fits : (top : ℕ) (s : Search) (rows : ℕ) (p : BoardPart) → s.budget ≡ None → rank s.z < 2 ^ 63 + 1 → open_values s.store.first s.store.entries < top → left_of top s rows p < (2 ^ 63 + 1) * (rows + 1) * top
left_fits top s rows p budget low below =
    subst (λ (o : Option ℕ). left_of top (record s { budget = o }) rows p < (2 ^ 63 + 1) * (rows + 1) * top) (sym budget)
    (all_fit s.tally (rank s.z) rows (length p.taken) top (open_values s.store.first s.store.entries) low below)

-- what is left of the rounds, and of the conflicts of the one under way
abbrev pub rounds_left : Near → ℕ
rounds_left s = (round_count s.conflicts - s.rounds) * 101 + (100 - learnt_in s.round)

-- what is left of a neighbourhood worker: rounds, conflicts in its round, and what is left of its search, all open values being below a number
abbrev pub near_left : ℕ → Near → ℕ → BoardPart → ℕ
near_left top s rows p = rounds_left s * ((2 ^ 63 + 1) * (rows + 1) * top) + left_of top s.search rows p

rounds_fewer : (n r r' l l' : ℕ) → r < n → r' ≡ r + 1 → (n - r') * 101 + (100 - l') < (n - r) * 101 + (100 - l)
rounds_fewer n r r' l l' some e = omega (arith, some, e)

module _ (s t : Near) (rows : ℕ) (p q : BoardPart) (before : IsSoundSearch s.search) (after : IsSoundSearch t.search) (setting : SameSetting s.search t.search) (conflicts : t.conflicts ≡ s.conflicts) (budget : s.search.budget ≡ None) where
  fits : left_of (open_values s.search.instance.domains [] + 1) t.search rows q < (2 ^ 63 + 1) * (rows + 1) * (open_values s.search.instance.domains [] + 1)
  fits =
      left_fits (open_values s.search.instance.domains [] + 1) t.search rows q (setting.budget ∙ budget) (rank_most t.search.z (small_of t.search.instance.model t.search.z after.instance.valid after.incumbent))
      (omega (arith, open_most t.search.store.first t.search.store.entries, ap (λ (ds : Domains). open_values ds []) (after.domains ∙ ap (λ (x : Problem). x.domains) setting.instance)))

  count : round_count t.conflicts ≡ round_count s.conflicts
  count = ap round_count conflicts

  pub near_lowered : NearLowers s t rows p q → near_left (open_values s.search.instance.domains [] + 1) t rows q < near_left (open_values s.search.instance.domains [] + 1) s rows p
  near_lowered (fewer_rounds some e) = first_less _ _ _ _ _ (omega (arith, rounds_fewer (round_count s.conflicts) s.rounds t.rounds (learnt_in s.round) (learnt_in t.round) some e, ap (λ (n : ℕ). n - t.rounds) count)) fits
  near_lowered (fewer_conflicts e more low) = first_less _ _ _ _ _ (omega (arith, e, more, low, ap (λ (n : ℕ). n - t.rounds) count, ap (λ (n : ℕ). round_count s.conflicts - n) e)) fits
  near_lowered (in_search e same less) =
      second_less _ _ _ _ _ (omega (arith, same, ap (λ (n : ℕ). n - t.rounds) count, ap (λ (n : ℕ). round_count s.conflicts - n) e)) (lowered s.search t.search rows p q before after setting less)
