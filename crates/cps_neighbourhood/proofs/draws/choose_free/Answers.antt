-- Each number is taken or passed, and what is left of the sample is still to be drawn.
use Rattle.std.specs.Prelude.{All}
use Rattle.std.proofs.Common.{ℕ, suc, ◌+◌, ◌++◌, ◌≤◌, ◌-◌, ◌<◌, ◌≡◌, ◌∙◌, List, length, sym, ap, subst, arith}
use Rattle.cps_neighbourhood.specs.Drawing.{AscendsStrictly, sample, sampled}
use Rattle.cps_neighbourhood.proofs.Samples.{none_left, sampled_under, sampled_length, sampled_rising, step_taken, step_passed, wanted_after, room_after, words_after, words_done}
use Rattle.cps_neighbourhood.proofs.draws.choose_free.Goals as goal
use Rattle.cps_neighbourhood.proofs.draws.choose_free.Goals.{then-is_taken+in_ok-push, else-is_taken}

pub loop-number-preserved : goal.loop-number-preserved
loop-number-preserved c = elim c.if-is_taken.branch [
  | then-is_taken+in_ok-push w ↦
      let i = c.loop-number.invariant in
      let on : c.args.n - c.loop-number.number ≡ suc (c.args.n - (c.loop-number.number + 1)) = omega arith in
      let yes = sym w.if-is_taken.true ∙ c.is_taken.ensures.is in
      let some = wanted_after _ _ _ yes in
      record {
        room = omega (arith, w.wanted-is, i.room, on, some);
        drawn = subst (λ (n : ℕ). c.if-is_taken.chosen.items ++ sampled (c.args.n - (c.loop-number.number + 1)) (c.loop-number.number + 1) n c.is_taken.new.draws ≡ sample c.args.n c.args.count c.args.draws.now) (sym w.wanted-is)
            (step_taken c.loop-number.chosen.items c.if-is_taken.chosen.items _ _ _ _ _ _ _ on i.drawn yes c.is_taken.ensures.after (ap (λ (v : _). v.items) w.chosen-is ∙ w.in_ok-push.ensures.items));
        after = words_after _ _ _ _ _ on i.after c.is_taken.ensures.after;
      }
  | else-is_taken w ↦
      let i = c.loop-number.invariant in
      let on : c.args.n - c.loop-number.number ≡ suc (c.args.n - (c.loop-number.number + 1)) = omega arith in
      let no = sym w.if-is_taken.false ∙ c.is_taken.ensures.is in
      record {
        room = subst (λ (n : ℕ). n ≤ c.args.n - (c.loop-number.number + 1)) (sym w.wanted-is) (room_after _ _ _ _ on no);
        drawn = subst (λ (n : ℕ). c.if-is_taken.chosen.items ++ sampled (c.args.n - (c.loop-number.number + 1)) (c.loop-number.number + 1) n c.is_taken.new.draws ≡ sample c.args.n c.args.count c.args.draws.now) (sym w.wanted-is)
            (subst (λ (xs : List ℕ). xs ++ sampled (c.args.n - (c.loop-number.number + 1)) (c.loop-number.number + 1) c.loop-number.wanted c.is_taken.new.draws ≡ sample c.args.n c.args.count c.args.draws.now) (sym (ap (λ (v : _). v.items) w.chosen-is))
            (step_passed c.loop-number.chosen.items _ _ _ _ _ _ _ on i.drawn no c.is_taken.ensures.after));
        after = words_after _ _ _ _ _ on i.after c.is_taken.ensures.after;
      }
]

pub returns-clause-count : goal.returns-clause-count
returns-clause-count c =
    let i = c.loop-number.invariant in
    ap (λ (xs : List ℕ). length xs) (none_left c.loop-number.chosen.items (sample c.args.n c.args.count c.args.draws.now) _ _ _ _ (omega arith) i.drawn) ∙ sampled_length c.args.n 0 c.args.count c.args.draws.now c.requires

pub returns-clause-rising : goal.returns-clause-rising
returns-clause-rising c =
    let i = c.loop-number.invariant in
    subst AscendsStrictly (sym (none_left c.loop-number.chosen.items (sample c.args.n c.args.count c.args.draws.now) _ _ _ _ (omega arith) i.drawn)) (sampled_rising c.args.n 0 c.args.count c.args.draws.now)

pub returns-clause-below : goal.returns-clause-below
returns-clause-below c =
    let i = c.loop-number.invariant in
    subst (λ (xs : List ℕ). All (λ i. i < c.args.n) xs) (sym (none_left c.loop-number.chosen.items (sample c.args.n c.args.count c.args.draws.now) _ _ _ _ (omega arith) i.drawn)) (sampled_under c.args.n c.args.count c.args.draws.now)

pub returns-clause-drawn : goal.returns-clause-drawn
returns-clause-drawn c = none_left c.loop-number.chosen.items (sample c.args.n c.args.count c.args.draws.now) _ _ _ _ (omega arith) c.loop-number.invariant.drawn

pub returns-clause-after : goal.returns-clause-after
returns-clause-after c = words_done (c.args.n - c.loop-number.number) c.loop-number.draws _ (omega arith) c.loop-number.invariant.after
