-- A final state that is listed, or none.
use Rattle.std.specs.Prelude.{Contains}
use Rattle.std.proofs.Common.{List, ℤ, get_or, pos, arith, rules, refl, sym, subst, ◌∙◌, below_more, FitsSigned, w64}
use Rattle.std.proofs.lemmas.Int.{to_z-of_z}
use Rattle.std.proofs.lemmas.List.{get_or_default}
use Rattle.std.proofs.lemmas.List.Sorted.{Contains-permutation, IsPermutation-sym}
use Rattle.cps_eval.proofs.automata.some_is_final.Goals as goal

pub returns-then-is_listed : goal.returns-then-is_listed
returns-then-is_listed c =
    let finals = c.args.finals.now in
    let k = c.loop-state.state-index in
    let s = get_or finals k (pos 0) in
    let fits : FitsSigned w64 s = search rules in
    let decided = simp to_z-of_z at c.is_listed.ensures in
    let listed = subst (λ (xs : List ℤ). Contains xs s) c.as_slice.ensures.value (decided.0 c.if-is_listed.true) in
    let moved = IsPermutation-sym _ _ c.sort_unstable.ensures.permutation in
    (λ _. (s, Contains-permutation _ _ s moved listed, (k, c.loop-state-test.true, get_or_default finals k s (pos 0) c.loop-state-test.true)), λ _. refl)

pub loop-state-preserved : goal.loop-state-preserved
loop-state-preserved c =
    let finals = c.args.finals.now in
    let k = c.loop-state.state-index in
    let s = get_or finals k (pos 0) in
    let fits : FitsSigned w64 s = search rules in
    let decided = simp to_z-of_z at c.is_listed.ensures in
    below_more _ _ c.loop-state.invariant
    (λ h. (let yes = decided.1 (subst (λ (xs : List ℤ). Contains xs s) (sym c.as_slice.ensures.value) h) in let no = c.if-is_listed.false in cc))

pub returns : goal.returns
returns c =
    let finals = c.args.finals.now in
    let moved = c.sort_unstable.ensures.permutation in
    let past = c.loop-state-test.false in (
      λ t. cc,
      λ h. absurd
          (c.loop-state.invariant h.2.0 (let l = h.2.1 in omega arith)
          (subst (λ (s : ℤ). Contains c.sort_unstable.new.self.items s) (sym h.2.2 ∙ get_or_default finals h.2.0 h.0 (pos 0) h.2.1)
          (Contains-permutation _ _ h.0 moved h.1))),
    )
