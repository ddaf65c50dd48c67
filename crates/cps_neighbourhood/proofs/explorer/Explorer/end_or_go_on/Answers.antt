-- A round ends where the search went back below its decisions, or after its last conflict, and goes on else.
use Rattle.std.proofs.Common.{◌∙◌, ℕ, ap, min, refl, subst, sym, true≢false}
use Rattle.cps_trail.specs.Trail.{Trail}
use Rattle.cps_neighbourhood.specs.Standing.{IsRoundEnd, held_to}
use Rattle.cps_neighbourhood.proofs.explorer.Explorer.end_or_go_on.Goals as goal

pub returns-then-is_ended_at-clause-ends : goal.returns-then-is_ended_at-clause-ends
returns-then-is_ended_at-clause-ends g c =
    λ _. record { rounds = refl; round = refl; back = c.restart.ensures.back; is = c.restart.ensures.is }

pub returns-then-is_ended_at-clause-goes_on : goal.returns-then-is_ended_at-clause-goes_on
returns-then-is_ended_at-clause-goes_on g c =
    let x = c.args.self.now in
    let back = c.level-back.ensures.is ∙ ap (λ (s : Trail). s.level) c.store.ensures in
    λ not. absurd (not (subst (λ (n : ℕ). IsRoundEnd x.round n) back (c.is_ended_at.ensures.0 c.if-is_ended_at.true)))

pub returns-then-is_ended_at-clause-sound : goal.returns-then-is_ended_at-clause-sound
returns-then-is_ended_at-clause-sound g c =
    λ running _. c.restart.ensures.sound running

pub returns-else-is_ended_at-clause-ends : goal.returns-else-is_ended_at-clause-ends
returns-else-is_ended_at-clause-ends g c =
    let x = c.args.self.now in
    let back = c.level-back.ensures.is ∙ ap (λ (s : Trail). s.level) c.store.ensures in
    λ ends. absurd (true≢false (sym (c.is_ended_at.ensures.1 (subst (λ (n : ℕ). IsRoundEnd x.round n) (sym back) ends)) ∙ c.if-is_ended_at.false))

pub returns-else-is_ended_at-clause-goes_on : goal.returns-else-is_ended_at-clause-goes_on
returns-else-is_ended_at-clause-goes_on g c =
    let x = c.args.self.now in
    let back = c.level-back.ensures.is ∙ ap (λ (s : Trail). s.level) c.store.ensures in
    λ _. record {
      rounds = refl;
      in_round = refl;
      decisions = c.count_learnt.ensures.decisions;
      learnt = c.count_learnt.ensures.learnt;
      assumed = c.count_learnt.ensures.assumed ∙ ap (λ (n : ℕ). min x.round.assumed n) back;
      held = c.count_learnt.ensures.held ∙ ap (λ (n : ℕ). held_to x.round n) back;
      place = c.count_learnt.ensures.place;
      frame = refl;
    }

pub returns-else-is_ended_at-clause-sound : goal.returns-else-is_ended_at-clause-sound
returns-else-is_ended_at-clause-sound g c =
    λ _ sound. sound
