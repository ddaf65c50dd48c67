use Rattle.std.specs.Prelude.{OnOk, MatchOption}
use Rattle.std.proofs.Common.{ℕ, ◌≤◌, Result, Ok, Err, Option}
use Rattle.cps_propagate.specs.Recalling.{Seen, Stand}
use Rattle.cps_propagate.proofs.seen.Seen.begin.Goals as goal

-- what stands after both steps
both_stand : {A E : Type 0} (r : Result A E) (a b c : Seen) (rested : Option ℕ) → ((j n : ℕ) → Stand b j n → MatchOption rested ⊥ (λ from. Stand a j n × (n ≤ from))) → OnOk r ((j n : ℕ) → Stand c j n → Stand b j n)
    → OnOk r ((j n : ℕ) → Stand c j n → MatchOption rested ⊥ (λ from. Stand a j n × (n ≤ from)))
both_stand (Ok x) a b c rested h k = λ j n st. h j n (k j n st)
both_stand (Err e) a b c rested h k = tt

pub returns-clause-stand : goal.returns-clause-stand
returns-clause-stand c = both_stand c.note.result _ _ _ c.args.rested c.in_ok-go_back.ensures.stand c.note.ensures.stand
