-- A variable is free or has its decision, and what is left is still to be decided.
use Rattle.std.specs.Prelude.{IsTrue}
use Rattle.std.proofs.Common.{ℕ, pos, ◌+◌, ◌≤◌, ◌<◌, ◌≡◌, ◌∙◌, false, [], ◌∷◌, ◌++◌, length, get_or, drop, refl, sym, ap, subst, arith}
use Rattle.cps_literal.specs.declared.atom.Atom.{Atom}
use Rattle.cps_neighbourhood.specs.Rounds.{fixed_from}
use Rattle.cps_neighbourhood.proofs.FreeVariables.{after_next, after_other, all_fixed, before_next, step_fixed, step_free}
use Rattle.cps_neighbourhood.proofs.round.fix_others.Goals as goal
use Rattle.cps_neighbourhood.proofs.round.fix_others.Goals.{then-is_free, else-is_free+in_ok-push}

no_truth : IsTrue false → ⊥
no_truth h = absurd (cc h)

pub loop-variable-preserved : goal.loop-variable-preserved
loop-variable-preserved c = elim c.if-is_free.branch [
  | then-is_free w ↦
      let i = c.loop-variable.invariant in
      let here = w.if-is_free.ensures.here.0 refl in
      let place : c.if-is_free.place ≡ c.loop-variable.place + 1 = w.place-is in
      record {
        decided = subst (λ (v : _). v.items ++ fixed_from (c.loop-variable.variable + 1) (drop (c.loop-variable.variable + 1) c.args.values.now) c.args.free.now ≡ fixed_from 0 c.args.values.now c.args.free.now) (sym w.decisions-is)
            (step_free c.loop-variable.decisions.items _ c.args.values.now c.args.free.now c.loop-variable.variable (pos 0) c.loop-variable-test.true w.if-is_free.ensures.is i.decided);
        within = omega (arith, place, here.0);
        before = subst (λ (n : ℕ). (k : ℕ) → k < n → k < length c.args.free.now → get_or c.args.free.now k 0 < c.loop-variable.variable + 1) (sym place) (before_next c.args.free.now c.loop-variable.place c.loop-variable.variable i.before here.1);
        after = subst (λ (n : ℕ). (k : ℕ) → n ≤ k → k < length c.args.free.now → c.loop-variable.variable + 1 ≤ get_or c.args.free.now k 0) (sym place) (after_next c.args.free.now c.loop-variable.place c.loop-variable.variable c.requires.rising here.1);
      }
  | else-is_free+in_ok-push w ↦
      let i = c.loop-variable.invariant in
      let other : c.loop-variable.place < length c.args.free.now → get_or c.args.free.now c.loop-variable.place 0 ≡ c.loop-variable.variable → ⊥ = λ l e. absurd (no_truth (w.if-is_free.ensures.here.1 (l, e))) in
      let place : c.if-is_free.place ≡ c.loop-variable.place = w.place-is in
      record {
        decided = step_fixed c.loop-variable.decisions.items c.if-is_free.decisions.items _ c.args.values.now c.args.free.now c.loop-variable.variable (pos 0) c.loop-variable-test.true w.if-is_free.ensures.is
            (ap (λ (v : _). v.items) w.decisions-is ∙ w.in_ok-push.ensures.items ∙ ap (λ (t : Atom). c.loop-variable.decisions.items ++ t ∷ []) w.has_value.ensures) i.decided;
        within = omega (arith, place, i.within);
        before = subst (λ (n : ℕ). (k : ℕ) → k < n → k < length c.args.free.now → get_or c.args.free.now k 0 < c.loop-variable.variable + 1) (sym place) (λ k l m. (let h = i.before k l m in omega (arith, h)));
        after = subst (λ (n : ℕ). (k : ℕ) → n ≤ k → k < length c.args.free.now → c.loop-variable.variable + 1 ≤ get_or c.args.free.now k 0) (sym place) (after_other c.args.free.now c.loop-variable.place c.loop-variable.variable c.requires.rising i.after other);
      }
]

pub returns : goal.returns
returns c = all_fixed c.loop-variable.decisions.items (fixed_from 0 c.args.values.now c.args.free.now) c.args.values.now c.args.free.now c.loop-variable.variable (omega arith) c.loop-variable.invariant.decided
