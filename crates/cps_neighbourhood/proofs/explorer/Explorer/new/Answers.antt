-- A worker that knows nothing yet has the model's hint, and keeps what one keeps between two turns.
use Rattle.std.specs.Prelude.{slice_index_or}
use Rattle.std.proofs.Common.{rules, ◌≡◌, ◌∙◌, ◌<◌, ℕ, Bool, cond, Some, None, length, refl, sym, ap, subst}
use Rattle.cps_instance.specs.Problem.{Problem}
use Rattle.cps_branch.specs.Activities.{ByActivity}
use Rattle.cps_branch.specs.Guidances.{AreHintsOf}
use Rattle.cps_branch.specs.Hints.{hint_for}
use Rattle.cps_branch.specs.Scope.{IsScopeOf}
use Rattle.cps_neighbourhood.proofs.explorer.Explorer.new.Goals as goal

-- hints with a place for each activity are those of the instance that has as many variables
are_hints : (p : Problem) (b : ByActivity) → IsScopeOf p (record { variables = length b.activities; subjects = length b.activities })
    → ((i : ℕ) → i < length b.activities → slice_index_or b.hints i None ≡ hint_for p.model.hint i) → length b.hints ≡ length b.activities → AreHintsOf p b.hints
are_hints p b scope hints places = record {
  count = places ∙ scope.variables_are;
  values = λ i l. hints i (subst (λ (n : ℕ). i < n) (sym scope.variables_are) l);
}

pub returns-clause-begins : goal.returns-clause-begins
returns-clause-begins g c =
    let b = c.in_ok-brancher.ensures in
    record {
      search = c.in_ok-frame.ensures.is;
      hints = are_hints _ c.in_ok-brancher.brancher b.scope b.hints b.places;
      places = b.places;
      idle = b.idle;
      pace = b.fresh;
      conflicts_are = refl;
      draws_are = refl;
      aim = ap (λ (t : Bool). cond t (Some c.in_ok-aim.aim.values.items) None) c.in_ok-aim.ensures.unset;
      rounds = refl;
      round = refl;
    }

pub returns-clause-exploring : goal.returns-clause-exploring
returns-clause-exploring g c = record {
  sound = search rules;
  running = search rules;
  scope = search rules;
  budget = search rules;
  conflicts = search rules;
  imported = search rules;
  within = search rules;
  no_log = search rules;
  agreed = search rules;
  variables = search rules;
  few_variables = search rules;
  rounds = search rules;
  tally = search rules;
  between = search rules;
  under_way = search rules;
}
