-- What a worker that has not ended keeps between two turns, and what a learnt clause does to it.
use Rattle.std.specs.Prelude.{◌≡◌, ◌+◌, ◌*◌, min, ◌^◌, ◌≤◌, Bool, true, false, None, length}
use Rattle.cps_instance.specs.Problem.{variable_count}
use Rattle.cps_port.specs.Entries.{most_rows}
use Rattle.cps_branch.specs.Scope.{IsScopeOf}
use Rattle.cps_branch.specs.SetAside.{AreFixedAside}
use Rattle.cps_search.specs.Lessons.{GoesBack}
use Rattle.cps_search.specs.Moves.{moved}
use Rattle.cps_search.specs.Ends.{IsOver, round_conflicts, round_count}
use Rattle.cps_search.specs.Searches.{IsSoundSearch}
use Rattle.cps_neighbourhood.specs.declared.explorer.Explorer.{Explorer}
use Rattle.cps_neighbourhood.specs.Nears.{Near, learnt_in}
use Rattle.cps_neighbourhood.specs.Standing.{IsUnderWay, held_to, round_if, solution_of}

-- what an explorer knows
abbrev pub near_of : {P : Type 0} → Explorer P → Near
near_of {P} x = record {
  search = x.frame;
  brancher = x.brancher;
  conflicts = x.conflicts;
  draws = x.draws;
  aim = solution_of x.aim;
  rounds = x.rounds;
  round = round_if x.in_round x.round;
}

-- the same, where memory was refused or not
abbrev pub near_as : Bool → Near → Near
near_as refused s = record s { search = record s.search { refused = refused } }

-- What an explorer keeps between two turns. Of the turn that ends it nothing is kept of the round.
pub record IsExploring {P : Type 0} (x : Explorer P) : Type 0 where
  pub sound : IsSoundSearch x.frame
  pub running : x.frame.refused ≡ false
  pub no_log : x.frame.log ≡ None
  pub scope : IsScopeOf x.frame.instance
      (record { variables = length x.brancher.activities; subjects = length x.brancher.activities })
  pub budget : x.frame.budget ≡ None
  pub conflicts : x.conflicts ≤ 10 ^ 9
  pub imported : x.frame.imported ≤ most_rows
  pub within : x.kept ≤ length x.frame.store.entries
  pub agreed : AreFixedAside (length x.brancher.activities) x.brancher.aside x.frame.store x.kept
  pub variables : length x.aim.values.items ≡ variable_count x.frame.instance
  pub few_variables : length x.aim.values.items ≤ 2 ^ 31
  pub rounds : x.rounds ≤ round_count x.conflicts
  pub tally : x.frame.tally ≤ round_conflicts * x.rounds + learnt_in (round_if x.in_round x.round)
  pub between : x.in_round ≡ false → x.frame.store.level ≡ 0
  pub under_way : (IsOver x.frame.phase → ⊥) → x.in_round ≡ true → IsUnderWay x.round x.frame.store

-- what a learnt clause does to rounds: the round ends, and the search goes back to level 0; or it goes on
pub record RoundEnds {P : Type 0} (x y : Explorer P) : Type 0 where
  pub rounds : y.rounds ≡ x.rounds + 1
  pub round : y.in_round ≡ false
  pub back : GoesBack x.frame.store y.frame.store 0
  pub is : y.frame ≡ moved x.frame y.frame.store y.frame.rested

pub record RoundGoesOn {P : Type 0} (x y : Explorer P) : Type 0 where
  pub rounds : y.rounds ≡ x.rounds
  pub in_round : y.in_round ≡ x.in_round
  pub decisions : y.round.decisions.items ≡ x.round.decisions.items
  pub learnt : y.round.learnt ≡ x.round.learnt + 1
  pub assumed : y.round.assumed ≡ min x.round.assumed x.frame.store.level
  pub held : y.round.held ≡ held_to x.round x.frame.store.level
  pub place : y.round.place ≡ 0
  pub frame : y.frame ≡ x.frame

-- what neither of them changes
pub record KeepsRest {P : Type 0} (x y : Explorer P) : Type 0 where
  pub conflicts : y.conflicts ≡ x.conflicts
  pub draws : y.draws ≡ x.draws
  pub aim : y.aim ≡ x.aim
