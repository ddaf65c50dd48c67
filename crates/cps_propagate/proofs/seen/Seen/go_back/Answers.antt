use Rattle.std.specs.Prelude.{OnOk, MatchOption}
use Rattle.std.proofs.Common.{ℕ, ◌≡◌, ◌≤◌, Result, Ok, Err, Option, None}
use Rattle.cps_propagate.specs.Recalling.{Seen, Stand}
use Rattle.cps_propagate.proofs.seen.Seen.go_back.Goals as goal

-- where nothing stands
none_stand : {A E : Type 0} (r : Result A E) (a b : Seen) (rested : Option ℕ) → rested ≡ None → OnOk r ((j n : ℕ) → Stand b j n → ⊥) → OnOk r ((j n : ℕ) → Stand b j n → MatchOption rested ⊥ (λ from. Stand a j n × (n ≤ from)))
none_stand (Ok x) a b rested is h = λ j n st. absurd (h j n st)
none_stand (Err e) a b rested is h = tt

pub returns-in-None-clause-stand : goal.returns-in-None-clause-stand
returns-in-None-clause-stand c = none_stand c.forget.result _ _ c.args.rested c.in-None.is c.forget.ensures.none
