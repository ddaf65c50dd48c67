-- One subject after another, the better of two is kept.
use Rattle.std.proofs.Common.{◌≡◌, ◌+◌, ◌<◌, ℕ, List, [], ◌∷◌, ◌++◌, length, take, get_or, sym, subst, arith, ◌∙◌, ap, true≢false}
use Rattle.std.proofs.lemmas.List.{take_all, take_more}
use Rattle.cps_branch.specs.declared.strategy.Ranked.{Ranked}
use Rattle.cps_branch.specs.Fixed.{IsFixed}
use Rattle.cps_branch.specs.Strategies.{IsTaken, better_of}
use Rattle.cps_branch.proofs.StrategyChoices.{taken_first, taken_fixed, taken_open}
use Rattle.cps_branch.proofs.strategy.least_ranked.Goals as goal
use Rattle.cps_branch.proofs.strategy.least_ranked.Goals.{then-not-is_fixed, else-not-is_fixed}

pub loop-place-init : goal.loop-place-init
loop-place-init c =
    let s = c.args.store.now in
    let xs = c.args.subjects.now in
    let k = c.args.from in
    let best = c.with_rank-best.result in
    let is : best.subject ≡ get_or xs k 0 = c.with_rank-best.ensures.subject in
    let longer : take (k + 1) xs ≡ take k xs ++ best.subject ∷ [] = take_more xs k 0 c.requires.from ∙ ap (λ (x : ℕ). take k xs ++ x ∷ []) (sym is) in
    subst (λ (ys : List ℕ). IsTaken c.args.choose s ys best.subject best.rank) (sym longer)
    (taken_first c.args.choose s (take k xs) best c.requires.before (subst (λ (x : ℕ). IsFixed s x → ⊥) (sym is) c.requires.open_there) c.with_rank-best.ensures.rank)

pub loop-place-preserved : goal.loop-place-preserved
loop-place-preserved c =
    let s = c.args.store.now in
    let xs = c.args.subjects.now in
    let k = c.loop-place.place in
    let x = get_or xs k 0 in
    let old = c.loop-place.best in
    let l : k < length xs = omega arith in
    let longer : take (k + 1) xs ≡ take k xs ++ x ∷ [] = take_more xs k 0 l in
    subst (λ (ys : List ℕ). IsTaken c.args.choose s ys c.if-not-is_fixed.best.subject c.if-not-is_fixed.best.rank) (sym longer)
    (elim c.if-not-is_fixed.branch [
      | then-not-is_fixed w ↦
          let n = w.with_rank.result in
          let is : n.subject ≡ x = w.with_rank.ensures.subject in
          subst (λ (b : Ranked). IsTaken c.args.choose s (take k xs ++ x ∷ []) b.subject b.rank) (sym (w.best-is ∙ w.better-best.ensures))
          (subst (λ (y : ℕ). IsTaken c.args.choose s (take k xs ++ y ∷ []) (better_of old n).subject (better_of old n).rank) is
          (taken_open c.args.choose s (take k xs) old n (subst (λ (y : ℕ). IsFixed s y → ⊥) (sym is) (λ f. true≢false (sym (c.is_fixed.ensures.1 f) ∙ w.if-not-is_fixed.true))) w.with_rank.ensures.rank c.loop-place.invariant))
      | else-not-is_fixed w ↦
          subst (λ (b : Ranked). IsTaken c.args.choose s (take k xs ++ x ∷ []) b.subject b.rank) (sym w.best-is)
          (taken_fixed c.args.choose s (take k xs) x old (c.is_fixed.ensures.0 w.if-not-is_fixed.false) c.loop-place.invariant)
    ])

pub returns : goal.returns
returns c =
    subst (λ (ys : List ℕ). IsTaken c.args.choose c.args.store.now ys c.loop-place.best.subject c.loop-place.best.rank) (take_all c.loop-place.place c.args.subjects.now (omega arith)) c.loop-place.invariant
