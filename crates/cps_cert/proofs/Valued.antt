-- What the value of a sum rests on, and values within the domains, one after another.
use Rattle.std.specs.Prelude.{◌&&◌}
use Rattle.std.specs.List.{list_all}
use Rattle.std.proofs.Common.{◌≡◌, ℕ, zero, suc, ◌+◌, ◌<◌, ◌++◌, List, [], ◌∷◌, length, take, get_or, Bool, true, false, refl, sym, ◌∙◌, ap, subst, arith, ℤ, pos}
use Rattle.std.proofs.lemmas.List.{take_more}
use Rattle.cps_model.specs.declared.model.Variable.{Variable}
use Rattle.cps_model.specs.Rules.{names}
use Rattle.cps_model.specs.Solutions.{are_within}
use Rattle.cps_model.specs.Within.{is_within}
use Rattle.cps_model.proofs.Tests.{and_true}

-- each of the references that are named is named (the same stands in cps_eval, which does not export it)
pub named_at : (n : ℕ) (rs : List ℤ) (k : ℕ) → list_all (names n) rs ≡ true → k < length rs → names n (get_or rs k (pos 0)) ≡ true
named_at n [] k h l = absurd (omega arith)
named_at n (r ∷ rs) zero h l = (and_true (names n r) (list_all (names n) rs) h).0
named_at n (r ∷ rs) (suc k) h l = named_at n rs k (and_true (names n r) (list_all (names n) rs) h).1 (omega arith)

-- ---- values of variables one after another

both_hold : (a b : Bool) → a ≡ true → b ≡ true → (a && b) ≡ true
both_hold true b p q = q
both_hold false b p q = cc

within_push : (vs : List Variable) (a : List ℤ) (v : Variable) (x : ℤ) → are_within vs a ≡ true → is_within v.domain x ≡ true → are_within (vs ++ v ∷ []) (a ++ x ∷ []) ≡ true
within_push [] [] v x w h = both_hold (is_within v.domain x) true h refl
within_push [] (y ∷ a) v x w h = cc
within_push (u ∷ vs) [] v x w h = cc
within_push (u ∷ vs) (y ∷ a) v x w h =
    let both = and_true (is_within u.domain y) (are_within vs a) w in
    both_hold (is_within u.domain y) (are_within (vs ++ v ∷ []) (a ++ x ∷ [])) both.0 (within_push vs a v x both.1 h)

-- one more variable has its value
pub within_more : (vs : List Variable) (a : List ℤ) (k : ℕ) (v : Variable) (x : ℤ) → k < length vs → v ≡ get_or vs k v → are_within (take k vs) a ≡ true → is_within v.domain x ≡ true → are_within (take (k + 1) vs) (a ++ x ∷ []) ≡ true
within_more vs a k v x l at w h =
    let longer : take (k + 1) vs ≡ take k vs ++ v ∷ [] = take_more vs k v l ∙ ap (λ (u : Variable). take k vs ++ u ∷ []) (sym at) in
    subst (λ (us : List Variable). are_within us (a ++ x ∷ []) ≡ true) (sym longer) (within_push (take k vs) a v x w h)
