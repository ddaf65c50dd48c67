-- What a neighbourhood worker knows, and what it does in a turn and in a run.
use Rattle.std.specs.Prelude.{◌≡◌, ℕ, ◌+◌, ◌<◌, ℤ, Bool, Option, Some, None, List, length, slice_index}
use Rattle.rand_pcg.specs.Lcg.{Lcg}
use Rattle.cps_model.specs.Solutions.{IsSolution}
use Rattle.cps_literal.specs.declared.atom.Atom.{Atom}
use Rattle.cps_instance.specs.Problem.{Problem, variable_count}
use Rattle.cps_port.specs.declared.part.BoardPart.{BoardPart}
use Rattle.cps_port.specs.declared.part.BoundsPart.{BoundsPart}
use Rattle.cps_port.specs.declared.part.Part.{Part}
use Rattle.cps_branch.specs.Activities.{AreBumped, ByActivity}
use Rattle.cps_branch.specs.Guidances.{AreHintsOf}
use Rattle.cps_branch.specs.Luby.{CountsConflict}
use Rattle.cps_search.specs.declared.end.End.{End}
use Rattle.cps_search.specs.declared.end.End.TheVariants as ends
use Rattle.cps_search.specs.declared.end.Phase.TheVariants.{Over}
use Rattle.cps_search.specs.declared.turn.Turn.{Turn}
use Rattle.cps_search.specs.declared.turn.Turn.TheVariants as turns
use Rattle.cps_search.specs.Shelves.{HasLearnt}
use Rattle.cps_search.specs.Lessons.{IsBackLevel}
use Rattle.cps_search.specs.Searches.{Search, IsSoundSearch}
use Rattle.cps_search.specs.Moves.{fresh}
use Rattle.cps_search.specs.Following.{MovesWith}
use Rattle.cps_search.specs.Rounds.{RoundsOver}
use Rattle.cps_search.specs.Turns.{BackAsLearnt, BackToBottom, ExhaustedAll, FoundOne, GoesOnAndBack, LearntOne, SameSetting, SawMet, TookOne}
use Rattle.cps_search.specs.Ends.{DecidedOne, Decides, EndsAs, EndsRaised, LastSawMet, Lowers, RaisedToZ, end_of, round_conflicts, round_count}
use Rattle.cps_neighbourhood.specs.Drawing.{after_words}
use Rattle.cps_neighbourhood.specs.Rounds.{ChoosesInRound, EndsRound, Round, first_round}

-- What a neighbourhood worker knows: its search and its brancher; the conflicts for which it does its rounds; the
-- generator by which it draws; the solution aimed at, if there is one; how many rounds ended; and the round that is
-- under way, if one is.
pub record Near : Type 0 where
  pub search : Search
  pub brancher : ByActivity
  pub conflicts : ℕ
  pub draws : Lcg
  pub aim : Option (List ℤ)
  pub rounds : ℕ
  pub round : Option Round

-- one that has just begun and draws by a generator: its brancher has the model's hint and heard nothing, no round is
-- under way, and no round ended
pub record BeginsNear (p : Problem) (gap conflicts : ℕ) (draws : Lcg) (s : Near) : Type 0 where
  pub search : s.search ≡ fresh p gap None
  pub hints : AreHintsOf p s.brancher.hints
  pub places : length s.brancher.hints ≡ length s.brancher.activities
  pub idle : (i : ℕ) → slice_index s.brancher.activities i ≡ 0
  pub pace : s.brancher.pace ≡ record { restarts = 0; conflicts = 0 }
  pub conflicts_are : s.conflicts ≡ conflicts
  pub draws_are : s.draws ≡ draws
  pub aim : s.aim ≡ None
  pub rounds : s.rounds ≡ 0
  pub round : s.round ≡ None

-- rounds are left to do
abbrev pub HasRounds : Near → Type 0
HasRounds s = s.rounds < round_count s.conflicts

-- rounds and brancher stay as they were
pub record SameRounds (s t : Near) : Type 0 where
  pub rounds : t.rounds ≡ s.rounds
  pub round : t.round ≡ s.round
  pub draws : t.draws ≡ s.draws
  pub brancher : t.brancher ≡ s.brancher

-- ---- decisions

-- the round under way, or the one that begins where none is: it frees drawn variables, and takes up the aim
abbrev pub round_or_first : ℕ → Option (List ℤ) → Lcg → Option Round → Round
round_or_first n aim draws None = first_round n aim draws
round_or_first n aim draws (Some round) = round

-- the generator after that
abbrev pub draws_or_after : ℕ → Lcg → Option Round → Lcg
draws_or_after n draws None = after_words n draws
draws_or_after n draws (Some round) = draws

abbrev pub round_now : Near → Round
round_now s = round_or_first (variable_count s.search.instance) s.aim s.draws s.round

abbrev pub draws_now : Near → Lcg
draws_now s = draws_or_after (variable_count s.search.instance) s.draws s.round

-- the round goes on or began, and the brancher chose or did not
pub record SameButDecided (s t : Near) : Type 0 where
  pub round : t.round ≡ Some (round_now s)
  pub draws : t.draws ≡ draws_now s
  pub rounds : t.rounds ≡ s.rounds
  -- choosing changes neither activities nor hints, and counts no conflict
  pub activities : t.brancher.activities ≡ s.brancher.activities
  pub pace : t.brancher.pace ≡ s.brancher.pace
  pub hints : t.brancher.hints ≡ s.brancher.hints
  pub conflicts : t.conflicts ≡ s.conflicts
  pub aim : t.aim ≡ s.aim

-- what a decision does: after the assumptions the round under way, or one that begins with it, has its say before the
-- brancher
pub record DecidesInRound (s t : Near) : Type 0 where
  pub one : Decides (ChoosesInRound (round_now s).decisions s.brancher) s.search t.search
  pub rest : SameButDecided s t

-- a decision was due, and one was made
pub record DecidedInRound (s t : Near) (rows : ℕ) (p q : Part) : Type 0 where
  pub one : DecidedOne (ChoosesInRound (round_now s).decisions s.brancher) s.search t.search rows p q
  pub rest : SameButDecided s t

-- ---- conflicts

-- the brancher heard a clause: its activities rose; its wish to restart was not followed
pub record HeardClause (clause : List Atom) (b c : ByActivity) : Type 0 where
  pub raised : AreBumped clause b.activities c.activities
  pub wish : Bool
  pub counted : CountsConflict b.pace c.pace wish
  pub hints : c.hints ≡ b.hints

-- a round ended: one more is done, none is under way, and the search is back at level 0
pub record EndedRound (s t : Near) : Type 0 where
  pub rounds : t.rounds ≡ s.rounds + 1
  pub round : t.round ≡ None
  pub back : BackToBottom s.search t.search

-- a round goes on with one more clause learnt, and the search went back just as far as the clause says
pub record WentOnInRound (s t : Near) (round : Round) : Type 0 where
  pub rounds : t.rounds ≡ s.rounds
  pub one_more : t.round ≡ Some (record round { learnt = round.learnt + 1 })
  pub back : BackAsLearnt s.search t.search

-- A clause was learnt in a round. The round ends exactly where the clause is its last or refutes it.
pub record LearntInRound (s t : Near) (rows : ℕ) (p q : Part) : Type 0 where
  pub one : LearntOne s.search t.search rows p q
  pub round : Round
  pub under_way : s.round ≡ Some round
  pub clause : List Atom
  pub learnt : HasLearnt s.search.base t.search.base clause t.search.z
  pub back : ℕ
  pub sent_back : IsBackLevel s.search.store clause back
  pub ends : EndsRound round s.search.store back → EndedRound s t
  pub goes_on : (EndsRound round s.search.store back → ⊥) → WentOnInRound s t round
  pub heard : HeardClause clause s.brancher t.brancher
  pub draws : t.draws ≡ s.draws

-- The cause of a turn. Where all rounds are done, it looks at the bounds and does nothing else.
abbrev pub NearCaused : Near → Near → ℕ → Part → Part → Turn → Type 0
NearCaused s t rows p q turns.Imported = HasRounds s × TookOne s.search t.search rows p q × SameRounds s t
NearCaused s t rows p q turns.Decided = HasRounds s × DecidedInRound s t rows p q
NearCaused s t rows p q turns.Learnt = HasRounds s × LearntInRound s t rows p q
NearCaused s t rows p q turns.Found = HasRounds s × FoundOne s.search t.search rows p q × SameRounds s t
NearCaused s t rows p q turns.Exhausted = HasRounds s × ExhaustedAll s.search t.search rows p q × SameRounds s t
NearCaused s t rows p q turns.SawClosed = SawMet s.search t.search p q × SameRounds s t
NearCaused s t rows p q turns.RoundsDone = (s.rounds ≡ round_count s.conflicts) × RoundsOver s.search t.search p q
    × SameRounds s t
NearCaused s t rows p q turn = ⊥

-- ---- turns

-- how many clauses were learnt in the round under way
abbrev pub learnt_in : Option Round → ℕ
learnt_in None = 0
learnt_in (Some round) = round.learnt

-- Why a worker does not go on for ever: of rounds to do, conflicts left in the round, z, rows to take and open values,
-- in this order, the first that a turn changes gets less; and each turn but the last changes one.
pub data NearLowers (s t : Near) (rows : ℕ) (p q : BoardPart) : Type 0 where
  fewer_rounds : s.rounds < round_count s.conflicts → t.rounds ≡ s.rounds + 1 → NearLowers s t rows p q
  fewer_conflicts : t.rounds ≡ s.rounds → learnt_in t.round ≡ learnt_in s.round + 1
      → learnt_in t.round < round_conflicts → NearLowers s t rows p q
  in_search : t.rounds ≡ s.rounds → learnt_in t.round ≡ learnt_in s.round → Lowers s.search t.search rows p q
      → NearLowers s t rows p q

-- what each turn of a neighbourhood worker does
pub record TakesNearTurn (s t : Near) (rows : ℕ) (p q : Part) (turn : Turn) : Type 0 where
  pub setting : SameSetting s.search t.search
  pub conflicts : t.conflicts ≡ s.conflicts
  pub aim : t.aim ≡ s.aim
  -- only a decision adds an entry that was not inferred
  pub store : (turn ≡ turns.Decided → ⊥) → GoesOnAndBack s.search.store t.search.store
  pub cause : NearCaused s t rows p q turn
  pub moves : MovesWith s.search t.search p q
  pub ends : EndsAs (end_of turn) t.search
  pub lowers : end_of turn ≡ None → NearLowers s t rows p.board q.board

-- ---- runs

-- one turn of a neighbourhood worker whose search is sound before and after it
pub record OneNearTurn (rows : ℕ) (s t : Near) (p q : Part) (turn : Turn) : Type 0 where
  pub before : IsSoundSearch s.search
  pub after : IsSoundSearch t.search
  pub takes : TakesNearTurn s t rows p q turn

-- turns one after another, none of which ended the worker; between two of them it may be handed another solution to aim
-- at
pub data TakesNearTurns (rows : ℕ) (s : Near) (p : Part) : Near → Part → Type 0 where
  none_yet : TakesNearTurns rows s p s p
  one_more : (m t : Near) (n q : Part) (turn : Turn) → TakesNearTurns rows s p m n → end_of turn ≡ None
      → OneNearTurn rows m t n q turn → TakesNearTurns rows s p t q
  aimed : (t : Near) (q : Part) (solution : List ℤ) → TakesNearTurns rows s p t q
      → IsSolution t.search.instance.model solution → TakesNearTurns rows s p (record t { aim = Some solution }) q

-- such turns, of which the last ended the worker so
pub record NearRunsInTurns (rows : ℕ) (s t : Near) (p q : Part) (end : End) : Type 0 where
  pub before : Near
  pub part : Part
  pub turns : TakesNearTurns rows s p before part
  pub turn : Turn
  pub last : OneNearTurn rows before t part q turn
  pub ended : end_of turn ≡ Some end

-- why a run ended
abbrev pub NearEndsBy : Near → BoundsPart → End → Type 0
NearEndsBy t q ends.Exhausted = RaisedToZ t.search
NearEndsBy t q ends.SawClosed = LastSawMet t.search.gap q
NearEndsBy t q (ends.Spent clause below) = ⊥
NearEndsBy t q ends.RoundsDone = t.rounds ≡ round_count t.conflicts

-- what a run of a neighbourhood worker does, up to its end
pub record NearRunsTo (s t : Near) (p q : Part) (end : End) : Type 0 where
  pub setting : SameSetting s.search t.search
  pub conflicts : t.conflicts ≡ s.conflicts
  pub moves : MovesWith s.search t.search p q
  pub phase : t.search.phase ≡ Over end
  pub why : NearEndsBy t q.bounds end
  pub raises_last : EndsRaised s.search t.search end
