-- A strategy all of whose subjects stand before the place is done, and the one at whose subject the place is decides.
use Rattle.std.specs.Prelude.{All}
use Rattle.std.proofs.Common.{◌≡◌, ◌+◌, ◌-◌, ◌<◌, ◌≤◌, [], ◌∷◌, List, ℕ, length, length-append, take, drop, get_or, arith, refl, sym, ap, subst, ◌∙◌}
use Rattle.std.proofs.lemmas.List.{get_or_append_left, get_or-append_right, length-drop, take_all}
use Rattle.std.proofs.lemmas.List.Elements.{All-get_or, All-more}
use Rattle.cps_instance.specs.declared.steering.Steering.{Steering}
use Rattle.cps_branch.specs.Fixed.{IsFixed}
use Rattle.cps_branch.specs.Strategies.{IsDone, listed}
use Rattle.cps_branch.proofs.Plans.{both_parts, first_part, listed_from}
use Rattle.cps_branch.proofs.StrategyChoices.{follows_at}
use Rattle.cps_branch.proofs.strategy.decided_at.Goals as goal

-- the place of the strategy at hand in the list
here : (gs : List Steering) (k : ℕ) (g : Steering) (left : ℕ) → k < length gs → g ≡ get_or gs k g → left < length g.subjects → get_or (listed (drop k gs)) left 0 ≡ get_or g.subjects left 0
here gs k g left l at low = ap (λ (xs : List ℕ). get_or xs left 0) (listed_from gs k g l at) ∙ get_or_append_left g.subjects (listed (drop (k + 1) gs)) 0 left low

later : (gs : List Steering) (k : ℕ) (g : Steering) (left : ℕ) → k < length gs → g ≡ get_or gs k g → length g.subjects ≤ left → get_or (listed (drop k gs)) left 0 ≡ get_or (listed (drop (k + 1) gs)) (left - length g.subjects) 0
later gs k g left l at high = ap (λ (xs : List ℕ). get_or xs left 0) (listed_from gs k g l at) ∙ get_or-append_right g.subjects (listed (drop (k + 1) gs)) (length g.subjects) left 0 refl high

rest_length : (gs : List Steering) (k : ℕ) (g : Steering) → k < length gs → g ≡ get_or gs k g → length (listed (drop k gs)) ≡ length g.subjects + length (listed (drop (k + 1) gs))
rest_length gs k g l at = ap (λ (xs : List ℕ). length xs) (listed_from gs k g l at) ∙ length-append g.subjects (listed (drop (k + 1) gs))

pub decided_by-requires-clause-within : goal.decided_by-requires-clause-within
decided_by-requires-clause-within c =
    let g = c.strategy-item.result in
    let l : c.loop-strategy.strategy-index < length c.args.strategies.now = omega arith in
    let n = length c.args.store.now.first in
    subst (λ (h : Steering). All (λ i. i < n) h.subjects) (sym c.strategy-item.is)
    (All-get_or (λ (h : Steering). All (λ i. i < n) h.subjects) c.args.strategies.now c.loop-strategy.strategy-index g l c.requires.within)

pub decided_by-requires-clause-before : goal.decided_by-requires-clause-before
decided_by-requires-clause-before c =
    let gs = c.args.strategies.now in
    let k = c.loop-strategy.strategy-index in
    let g = c.strategy-item.result in
    let l : k < length gs = omega arith in
    first_part (IsFixed c.args.store.now) g.subjects (listed (drop (k + 1) gs)) (listed (drop k gs)) c.loop-strategy.left (listed_from gs k g l c.strategy-item.is) (omega (arith, c.if-left-count.true, c.len-count.ensures)) c.loop-strategy.invariant.before

pub decided_by-requires-clause-open_there : goal.decided_by-requires-clause-open_there
decided_by-requires-clause-open_there c =
    let gs = c.args.strategies.now in
    let k = c.loop-strategy.strategy-index in
    let g = c.strategy-item.result in
    let l : k < length gs = omega arith in
    let low : c.loop-strategy.left < length g.subjects = omega (arith, c.if-left-count.true, c.len-count.ensures) in
    λ f. c.loop-strategy.invariant.open_there (omega (arith, low, rest_length gs k g l c.strategy-item.is)) (subst (λ (i : ℕ). IsFixed c.args.store.now i) (sym (here gs k g c.loop-strategy.left l c.strategy-item.is low)) f)

pub returns-then-left-count-clause-choice : goal.returns-then-left-count-clause-choice
returns-then-left-count-clause-choice c =
    let g = c.strategy-item.result in
    let l : c.loop-strategy.strategy-index < length c.args.strategies.now = omega arith in
    follows_at c.args.strategies.now c.args.store.now c.decided_by.result c.loop-strategy.strategy-index g l c.strategy-item.is c.loop-strategy.invariant.done c.decided_by.ensures.decides

pub loop-strategy-preserved : goal.loop-strategy-preserved
loop-strategy-preserved c =
    let s = c.args.store.now in
    let gs = c.args.strategies.now in
    let k = c.loop-strategy.strategy-index in
    let left = c.loop-strategy.left in
    let g = c.strategy-item.result in
    let at = c.strategy-item.is in
    let l : k < length gs = omega arith in
    let count : c.len-count.result ≡ length g.subjects = c.len-count.ensures in
    let high : length g.subjects ≤ left = omega (arith, c.if-left-count.false, count) in
    let less : left - length g.subjects ≡ left - c.len-count.result = ap (λ (n : ℕ). left - n) (sym count) in
    let parts = both_parts (IsFixed s) g.subjects (listed (drop (k + 1) gs)) (listed (drop k gs)) left (listed_from gs k g l at) high c.loop-strategy.invariant.before in
    record {
      done = All-more (IsDone s) gs k g l c.loop-strategy.invariant.done (subst (λ (h : Steering). IsDone s h) at parts.0);
      place = omega (arith, c.loop-strategy.invariant.place, rest_length gs k g l at, count, high);
      before = subst (λ (n : ℕ). All (IsFixed s) (take n (listed (drop (k + 1) gs)))) less parts.1;
      open_there = λ low f. c.loop-strategy.invariant.open_there (omega (arith, low, rest_length gs k g l at, count, high))
          (subst (λ (i : ℕ). IsFixed s i) (sym (later gs k g left l at high)) (subst (λ (n : ℕ). IsFixed s (get_or (listed (drop (k + 1) gs)) n 0)) (sym less) f));
    }

none_listed : (gs : List Steering) → length gs ≡ 0 → length (listed gs) ≡ 0
none_listed [] e = refl
none_listed (g ∷ gs) e = absurd (omega arith)

pub returns-clause-choice : goal.returns-clause-choice
returns-clause-choice c =
    let gs = c.args.strategies.now in
    let k = c.loop-strategy.strategy-index in
    let all : length gs ≤ k = omega arith in
    let gone : length (listed (drop k gs)) ≡ 0 = none_listed (drop k gs) (omega (arith, all, length-drop k gs)) in
    (omega (arith, gone, c.loop-strategy.invariant.place), subst (All (IsDone c.args.store.now)) (take_all k gs all) c.loop-strategy.invariant.done)
