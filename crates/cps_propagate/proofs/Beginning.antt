-- Which tasks are at rest, or wait, when a run begins.
use Rattle.std.specs.Prelude.{OnOk, IfSome}
use Rattle.std.proofs.Common.{Result, Ok, Err, Option, Some, ℕ, ◌<◌, ◌≡◌, Bool, true, false, List, length, sym, ◌∙◌, subst, arith}
use Rattle.std.specs.List.{All}
use Rattle.cps_instance.specs.declared.task.Task.{Task}
use Rattle.cps_instance.specs.Fitting.{IsFitting}
use Rattle.cps_trail.specs.Trail.{Trail}
use Rattle.cps_propagate.specs.Laws.{IsInStep}
use Rattle.cps_propagate.specs.Readers.{BySide}
use Rattle.cps_propagate.specs.Waiting.{is_waiting}
use Rattle.cps_propagate.specs.Wiring.{IsWired, AreCuts, RestUnlessWaiting}

-- what a run begins with: whatever is wired so, each task that does not wait is at rest
abbrev pub Begins : ℕ → BySide → List ℕ → Option ℕ → Trail → List Bool → Type 0
Begins n readers cuts rested s waits = (tasks : List Task) → n ≡ length tasks → All (IsFitting s.first) tasks
    → IsWired tasks readers → AreCuts tasks cuts → IfSome rested (IsInStep tasks s) → RestUnlessWaiting tasks waits s

-- where all wait, none is asked to rest
pub all_begin : {A E : Type 0} (r : Result A E) (n : ℕ) (readers : BySide) (cuts : List ℕ) (rested : Option ℕ) (s : Trail) (waits : List Bool)
    → OnOk r ((k : ℕ) → k < n → is_waiting waits k ≡ true) → OnOk r (Begins n readers cuts rested s waits)
all_begin (Ok x) n readers cuts rested s waits wait = λ tasks count fits wired are_cuts in_step. λ k t l no.
    let bad : true ≡ false = sym (wait k (omega (arith, l, count))) ∙ no in
    absurd (cc bad)
all_begin (Err e) n readers cuts rested s waits wait = tt

-- where those wait whom later entries wake, the others are at rest as they were
pub some_begin : {A E : Type 0} (r : Result A E) (n : ℕ) (readers : BySide) (cuts : List ℕ) (rested : Option ℕ) (from : ℕ) (s : Trail) (waits : List Bool)
    → rested ≡ Some from
    → OnOk r ((tasks : List Task) → All (IsFitting s.first) tasks → IsWired tasks readers → AreCuts tasks cuts → IsInStep tasks s from → RestUnlessWaiting tasks waits s)
    → OnOk r (Begins n readers cuts rested s waits)
some_begin (Ok x) n readers cuts rested from s waits is rest = λ tasks count fits wired are_cuts in_step.
    rest tasks fits wired are_cuts (subst (λ (o : Option ℕ). IfSome o (IsInStep tasks s)) is in_step)
some_begin (Err e) n readers cuts rested from s waits is rest = tt
