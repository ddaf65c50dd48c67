-- What keeps a subject out of an interval, and what an all-different gives.
use Rattle.std.specs.Prelude.{◌≡◌, ℕ, ℤ, ◌≤ℤ◌, Bool, true, false, List, All}
use Rattle.cps_literal.specs.declared.atom.Atom.{Atom}
use Rattle.cps_literal.specs.Truth.{meets}
use Rattle.cps_instance.specs.declared.task.Body.{Body}
use Rattle.cps_instance.specs.declared.task.Body.TheVariants.{AllDiff}
use Rattle.cps_trail.specs.Trail.{Trail}
use Rattle.cps_rule.specs.declared.rule.Narrowing.{Narrowing}
use Rattle.cps_rule.specs.Rules.{IsGiven}
use Rattle.cps_p_alldiff.specs.declared.interval.Interval.{Interval}
use Rattle.cps_p_alldiff.specs.Intervals.{lies_in}

-- a value between the ends at which the atom is not true lies in the interval
pub record IsBar (i : ℕ) (e h : Interval) (t : Atom) : Type 0 where
  pub subject : t.subject ≡ i
  pub bars : (x : ℤ) → e.low ≤ℤ x → x ≤ℤ e.high → meets t.op t.value x ≡ false → lies_in h x ≡ true

-- each of these atoms is given by the all-different of subjects
abbrev pub AreGivenBars : Trail → List ℕ → List Narrowing → Type 0
AreGivenBars s is found = All (λ n. IsGiven (AllDiff is) s n.target) found

-- whether a body asks that subjects have different values
abbrev pub is_all_diff : Body → Bool
is_all_diff (AllDiff subjects) = true
is_all_diff _ = false
