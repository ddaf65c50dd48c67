-- Turns of one worker alone: what it saw last of the two bounds is what they are.
use Rattle.std.specs.Prelude.{Bool, true, false, if◌then◌else◌}
use Rattle.std.proofs.Common.{◌≡◌, refl, sym, ap, subst, ◌∙◌, ℕ, ◌+◌, ◌<◌, ◌%◌, List, [], ◌∷◌, length, arith}
use Rattle.rand_pcg.specs.Lcg.{Lcg}
use Rattle.rand_pcg.specs.Pcg.{pcg32}
use Rattle.cps_port.specs.Shared.{Shared}
use Rattle.cps_port.specs.Others.{ActsAlone}
use Rattle.cps_crew.specs.declared.interleaved.Turning.{Turning}
use Rattle.cps_crew.specs.Workers.{AnySearch}
use Rattle.cps_crew.specs.Turning.{one_at_work, count_at_work, place_at_work, drawn_place, TakesDrawnTurns}
use Rattle.cps_crew.specs.Turning.{none_yet as none_drawn, one_more as one_drawn}
use Rattle.cps_crew.proofs.AloneBounds.{SeesAll, sees_alone}
use Rattle.cps_crew.proofs.DrawnTurns.{drawn_length}

mod_one : (n : ℕ) → n % 1 ≡ 0
mod_one n = omega arith

module _ {W : Type 0} where
  -- one worker alone is the one that is drawn
  drawn_first : (crew : List (Turning W)) (words : Lcg) → length crew ≡ 1 → 0 < count_at_work crew → drawn_place crew words ≡ 0
  drawn_first [] words one some = absurd (omega (arith, one))
  drawn_first (w ∷ v ∷ ws) words one some = absurd (omega (arith, one))
  drawn_first (w ∷ []) words one some = go w.over refl
    where
      go : (b : Bool) → w.over ≡ b → drawn_place (w ∷ []) words ≡ 0
      go true is = absurd (let none : one_at_work w ≡ 0 = ap (λ (x : Bool). if x then 0 else 1) is in omega (arith, none, some))
      go false is =
          let here : one_at_work w ≡ 1 = ap (λ (x : Bool). if x then 0 else 1) is in
          let count : count_at_work (w ∷ []) ≡ 1 = omega (arith, here) in
          let rank : (pcg32 words).0 % count_at_work (w ∷ []) ≡ 0 = subst (λ (k : ℕ). (pcg32 words).0 % k ≡ 0) (sym count) (mod_one (pcg32 words).0) in
          ap (λ (r : ℕ). place_at_work (w ∷ []) r) rank ∙ ap (λ (x : Bool). if x then 1 else 0) is

module _ {W : Type 0} (known : W → AnySearch) where
  pub sees_turns : (rows : ℕ) (c : Shared) (crew : List (Turning W)) (begun : Lcg) (d : Shared) (later : List (Turning W)) (words : Lcg) → TakesDrawnTurns known rows c crew begun d later words → length crew ≡ 1 → SeesAll c.bounds → SeesAll d.bounds
  sees_turns rows c crew begun d later words none_drawn one h = h
  sees_turns rows c crew begun core last words (one_drawn d e before next left turns took) one h =
      let place = drawn_first before left (drawn_length known rows c crew begun d before left turns ∙ one) took.some_left in
      sees_alone d e (subst (λ (k : ℕ). ActsAlone k k d e) place took.alone) (sees_turns rows c crew begun d before left turns one h)
