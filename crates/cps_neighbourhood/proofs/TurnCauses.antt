-- What a turn of a worker does, by its cause.
use Rattle.std.proofs.Common.{ℕ, ◌+◌, ◌*◌, ◌≤◌, ◌<◌, ℤ, ◌≡◌, ◌∙◌, inl, inr, min, Option, Some, None, List, [], ◌∷◌, ◌++◌, length, refl, sym, ap, subst, arith, length-append}
use Rattle.std.proofs.lemmas.List.Elements.{All-weaker}
use Rattle.rand_pcg.specs.Lcg.{Lcg}
use Rattle.cps_model.specs.declared.bound.Bound.{Bound}
use Rattle.cps_model.specs.declared.bound.Bound.TheVariants.{At}
use Rattle.cps_model.specs.declared.model.CpModel.{CpModel}
use Rattle.cps_model.specs.Solutions.{objective_value}
use Rattle.cps_literal.specs.declared.atom.Atom.{Atom}
use Rattle.cps_instance.specs.Problem.{Problem, variable_count}
use Rattle.cps_trail.specs.Trail.{Trail, Entry, Decision, open_values}
use Rattle.cps_trail.proofs.Room.{open_values-push}
use Rattle.cps_port.specs.declared.entry.Entry.{Entry as BoardEntry}
use Rattle.cps_port.specs.declared.part.BoardPart.{BoardPart}
use Rattle.cps_port.specs.declared.part.Part.{Part}
use Rattle.cps_port.specs.Says.{TookEntry}
use Rattle.cps_branch.specs.Activities.{ByActivity}
use Rattle.cps_branch.specs.Agreeing.{aside_kept_on}
use Rattle.cps_branch.specs.SetAside.{AreFixedAside}
use Rattle.cps_search.specs.declared.end.Phase.{Phase}
use Rattle.cps_search.specs.declared.end.Phase.TheVariants.{Over}
use Rattle.cps_search.specs.declared.turn.Turn.{Turn}
use Rattle.cps_search.specs.declared.turn.Turn.TheVariants as turns
use Rattle.cps_search.specs.Following.{MovesWith}
use Rattle.cps_search.specs.Logged.{Log}
use Rattle.cps_search.specs.Moves.{decided, moved}
use Rattle.cps_search.specs.Rounds.{EndsRounds}
use Rattle.cps_search.specs.Searches.{IsSoundSearch, Search}
use Rattle.cps_search.specs.Turns.{Caused, IsInferredAt, IsLess, IsOnward, SameSetting, Steps, TookNothing}
use Rattle.cps_search.specs.Ends.{DecidedOne, Decides, IsOver, Lowers, fewer_rows, fewer_values, lesser_z, round_conflicts, round_count}
use Rattle.cps_search.proofs.Bounds.{below_less, less_than}
use Rattle.cps_search.proofs.TurnMoves.{saw_open, turn_moves}
use Rattle.cps_search.proofs.TurnCauses.{setting_of, setting_trans, stays_there}
use Rattle.cps_search.proofs.WorkerInvariants.{decided_one, imported_few, same_back}
use Rattle.cps_neighbourhood.specs.declared.explorer.Explorer.{Explorer}
use Rattle.cps_neighbourhood.specs.declared.round.Progress.{Progress}
use Rattle.cps_neighbourhood.specs.Exploring.{IsExploring}
use Rattle.cps_neighbourhood.specs.Nears.{DecidesInRound, Near, SameRounds, TakesNearTurn, draws_or_after, in_search, learnt_in, round_now, round_or_first}
use Rattle.cps_neighbourhood.specs.Rounds.{ChoosesInRound, Round}
use Rattle.cps_neighbourhood.specs.Standing.{IsUnderWay, held_to}
use Rattle.cps_neighbourhood.proofs.ExplorerInvariants.{explores_on, learnt_same, not_over}
use Rattle.cps_neighbourhood.proofs.RoundAgreement.{held_stays, way_back, way_onward, way_placed}

-- ---- decisions

took_nothing : (rows : ℕ) (p q : BoardPart) → TookNothing rows p q → q.taken ≡ p.taken
took_nothing rows p q h = elim h [ inl closed ↦ ap (λ (b : BoardPart). b.taken) closed.counts | inr all ↦ ap (λ (b : BoardPart). b.taken) all.same ]

lowers_decided : (chooses : Trail → Option Atom → Type 0) (s t : Search) (rows : ℕ) (p q : Part) → MovesWith s t p q → DecidedOne chooses s t rows p q → Lowers s t rows p.board q.board
lowers_decided chooses s t rows p q moves h =
    let m = h.midway.store in
    let e : Entry = record { atom = h.atom; level = m.level + 1; reason = Decision } in
    let trail : t.store ≡ decided m h.atom = ap (λ (x : Search). x.store) h.is in
    let fewer = open_values-push m.first m.entries e h.undecided.subject h.undecided.not_true in
    let at : open_values t.store.first t.store.entries ≡ open_values m.first (m.entries ++ e ∷ []) = ap (λ (x : Trail). open_values x.first x.entries) trail in
    fewer_values (ap (λ (x : Search). x.tally) h.is ∙ h.due.learnt.tally) moves.falls (ap (λ (es : List BoardEntry). length es) (took_nothing rows p.board q.board h.due.begins.board))
    (omega (arith, at, fewer, h.due.onward.fewer))

taken_more : (m : CpModel) (rows : ℕ) (p q : BoardPart) (e : BoardEntry) → TookEntry m rows p q e → length q.taken ≡ length p.taken + 1
taken_more m rows p q e h = ap (λ (b : BoardPart). length b.taken) h.takes ∙ length-append p.taken (e ∷ [])

pub learnt_now : (n : ℕ) (aim : Option (List ℤ)) (draws : Lcg) (o : Option Round) → (round_or_first n aim draws o).learnt ≡ learnt_in o
learnt_now n aim draws None = refl
learnt_now n aim draws (Some round) = refl

-- the steps before a decision and the decision
pub turn_decided : (s t : Near) (f : Search) (rows : ℕ) (p q : Part) → s.rounds < round_count s.conflicts → IsSoundSearch s.search → Steps s.search f rows p q None → DecidesInRound (record s { search = f }) t → TakesNearTurn s t rows p q turns.Decided
turn_decided s t f rows p q left sound steps h =
    let same : round_now (record s { search = f }) ≡ round_now s = ap (λ (x : Problem). round_or_first (variable_count x) s.aim s.draws s.round) steps.setting.instance in
    let one : DecidedOne (ChoosesInRound (round_now s).decisions s.brancher) s.search t.search rows p q =
    decided_one (ChoosesInRound (round_now s).decisions s.brancher) s.search f t.search rows p q steps.cause (subst (λ (r : Round). Decides (ChoosesInRound r.decisions s.brancher) f t.search) same h.one) in
    let setting = setting_trans s.search f t.search steps.setting (setting_of f (moved f (decided f.store h.one.atom) f.rested) t.search h.one.is refl refl refl refl refl) in
    let moves = turn_moves (ChoosesInRound (round_now s).decisions s.brancher) s.search t.search rows p q turns.Decided sound setting one in
    let round : t.round ≡ Some (round_now s) = h.rest.round ∙ ap (λ (r : Round). Some r) same in
    record {
      setting = setting;
      conflicts = h.rest.conflicts;
      aim = h.rest.aim;
      store = λ not. absurd (not refl);
      cause = (
        left,
        record {
          one = one;
          rest = record {
            round = round;
            draws = h.rest.draws ∙ ap (λ (x : Problem). draws_or_after (variable_count x) s.draws s.round) steps.setting.instance;
            rounds = h.rest.rounds;
            activities = h.rest.activities;
            pace = h.rest.pace;
            hints = h.rest.hints;
            conflicts = h.rest.conflicts;
            aim = h.rest.aim;
          };
        },
      );
      moves = moves;
      ends = not_over t.search.phase (ap (λ (x : Search). x.phase) h.one.is);
      lowers = λ _. in_search h.rest.rounds (ap (λ (o : Option Round). learnt_in o) round ∙ learnt_now (variable_count s.search.instance) s.aim s.draws s.round) (lowers_decided (ChoosesInRound (round_now s).decisions s.brancher) s.search t.search rows p q moves one);
    }

onward_way : (r : Progress) (s t : Trail) → IsOnward s t → IsUnderWay r s → IsUnderWay r t
onward_way r s t h k = way_onward r s t h.added h.first h.level h.entries (All-weaker (IsInferredAt s.level) (λ (e : Entry). e.level ≡ s.level) (λ e i. i.at) h.added h.inferred) (All-weaker (IsInferredAt s.level) (λ (e : Entry). e.reason ≡ Decision → ⊥) (λ e i. i.not_decided) h.added h.inferred) k

-- what is kept, where a decision is due
pub explores_due : {P : Type 0} (x y : Explorer P) (rows : ℕ) (p q : Part) → IsExploring x → (IsOver x.frame.phase → ⊥) → IsSoundSearch y.frame → Steps x.frame y.frame rows p q None → y.brancher ≡ x.brancher → y.kept ≡ x.kept → y.conflicts ≡ x.conflicts → y.aim ≡ x.aim → y.rounds ≡ x.rounds
    → y.in_round ≡ x.in_round → y.round ≡ x.round → IsExploring y
explores_due x y rows p q h running sound steps brancher kept conflicts aim rounds in_round round =
    let d = steps.cause in
    let more : length y.frame.store.entries ≡ length x.frame.store.entries + length d.onward.added = ap (λ (es : List Entry). length es) d.onward.entries ∙ length-append x.frame.store.entries d.onward.added in
    let inside : x.kept ≤ length y.frame.store.entries = omega (arith, h.within, more) in
    explores_on x y h sound steps.setting (omega (arith, d.imported, h.imported)) (ap (λ (b : ByActivity). length b.activities) brancher) conflicts aim (omega (arith, kept, inside))
    (subst (λ (b : ByActivity). AreFixedAside (length b.activities) b.aside y.frame.store y.kept) (sym brancher)
    (subst (λ (k : ℕ). AreFixedAside (length x.brancher.activities) x.brancher.aside y.frame.store k) (sym kept)
    (aside_kept_on (length x.brancher.activities) x.brancher.aside x.frame.store y.frame.store x.kept x.kept (omega arith) (same_back (length x.brancher.activities) x.kept x.frame.store y.frame.store h.within inside steps.store) h.agreed)))
    (omega (arith, rounds, h.rounds))
    (omega (arith, d.learnt.tally, h.tally, ap (λ (n : ℕ). round_conflicts * n) rounds, learnt_same x.in_round y.in_round x.round y.round in_round (ap (λ (r : Progress). r.learnt) round)))
    (λ off. d.onward.level ∙ h.between (sym in_round ∙ off))
    (λ _ on. subst (λ (r : Progress). IsUnderWay r y.frame.store) (sym round) (onward_way x.round x.frame.store y.frame.store d.onward (h.under_way running (sym in_round ∙ on))))

-- ---- other turns

pub turn_other : (s t : Near) (rows : ℕ) (p q : Part) (turn : Turn) → s.rounds < round_count s.conflicts → IsSoundSearch s.search → s.search.budget ≡ None → Steps s.search t.search rows p q (Some turn) → (turn ≡ turns.Learnt → ⊥) → SameRounds s t → t.conflicts ≡ s.conflicts → t.aim ≡ s.aim
    → TakesNearTurn s t rows p q turn
turn_other s t rows p q turns.Imported left sound budget h not same conflicts aim =
    record {
      setting = h.setting;
      conflicts = conflicts;
      aim = aim;
      store = λ _. h.store;
      cause = (left, h.cause, same);
      moves = h.moves;
      ends = not_over t.search.phase h.cause.phase;
      lowers = λ _. in_search same.rounds (ap (λ (o : Option Round). learnt_in o) same.round) (fewer_rows h.cause.tally h.moves.falls h.cause.takes.left (taken_more s.search.instance.model rows p.board q.board h.cause.entry h.cause.takes));
    }
turn_other s t rows p q turns.Found left sound budget h not same conflicts aim =
    let v = objective_value s.search.instance.model h.cause.solution in
    let k = h.cause in
    record {
      setting = h.setting;
      conflicts = conflicts;
      aim = aim;
      store = λ _. h.store;
      cause = (left, k, same);
      moves = h.moves;
      ends = not_over t.search.phase k.phase;
      lowers = λ _. in_search same.rounds (ap (λ (o : Option Round). learnt_in o) same.round)
          (lesser_z k.learnt.tally (subst (λ (b : Bound). IsLess b s.search.z) (sym k.z) (less_than (At v) k.before s.search.z (below_less v k.before k.below) (saw_open s.search p.bounds k.midway.bounds k.before k.begins.bounds).falls)));
    }
turn_other s t rows p q turns.Exhausted left sound budget h not same conflicts aim =
    record { setting = h.setting; conflicts = conflicts; aim = aim; store = λ _. h.store; cause = (left, h.cause, same); moves = h.moves; ends = h.cause.phase; lowers = λ e. absurd (cc e) }
turn_other s t rows p q turns.SawClosed left sound budget h not same conflicts aim =
    record { setting = h.setting; conflicts = conflicts; aim = aim; store = λ _. h.store; cause = (h.cause, same); moves = h.moves; ends = ap (λ (x : Search). x.phase) h.cause.same; lowers = λ e. absurd (cc e) }
turn_other s t rows p q turns.Decided left sound budget h not same conflicts aim = absurd h.cause
turn_other s t rows p q turns.Learnt left sound budget h not same conflicts aim = absurd (not refl)
turn_other s t rows p q (turns.Spent clause below) left sound budget h not same conflicts aim = absurd (none_some s.search.tally s.search.budget budget h.cause.budget)
  where
    none_some : (n : ℕ) (o : Option ℕ) → o ≡ None → o ≡ Some n → ⊥
    none_some n o e f = absurd (cc)
turn_other s t rows p q turns.RoundsDone left sound budget h not same conflicts aim = absurd h.cause
turn_other s t rows p q (turns.Reformed base) left sound budget h not same conflicts aim = absurd h.cause

other_tally : (s t : Search) (rows : ℕ) (p q : Part) (turn : Turn) → (turn ≡ turns.Learnt → ⊥) → Caused s t rows p q (Some turn) → t.tally ≡ s.tally
other_tally s t rows p q turns.Imported not h = h.tally
other_tally s t rows p q turns.Decided not h = absurd h
other_tally s t rows p q turns.Learnt not h = absurd (not refl)
other_tally s t rows p q turns.Found not h = h.learnt.tally
other_tally s t rows p q turns.Exhausted not h = h.learnt.tally
other_tally s t rows p q turns.SawClosed not h = ap (λ (x : Search). x.tally) h.same
other_tally s t rows p q (turns.Spent clause below) not h = h.learnt.tally
other_tally s t rows p q turns.RoundsDone not h = absurd h
other_tally s t rows p q (turns.Reformed base) not h = absurd h

over_runs : (phase : Phase) (end : _) → phase ≡ Over end → (IsOver phase → ⊥) → ⊥
over_runs phase end e running = running (subst (λ (x : Phase). IsOver x) (sym e) tt)

-- the store stayed, and the round looks from its beginning again
same_way : (r u : Progress) (s t : Trail) → t ≡ s → u.decisions.items ≡ r.decisions.items → u.learnt ≡ r.learnt → u.assumed ≡ min r.assumed t.level → u.held ≡ held_to r t.level → u.place ≡ 0 → IsUnderWay r s → IsUnderWay u t
same_way r u s t is decisions learnt assumed held place h =
    let stays = held_stays r s h in
    let level : t.level ≡ s.level = ap (λ (x : Trail). x.level) is in
    subst (λ (x : Trail). IsUnderWay u x) (sym is)
    (way_placed r u s decisions learnt (assumed ∙ ap (λ (n : ℕ). min r.assumed n) level ∙ stays.0) (held ∙ ap (λ (n : ℕ). held_to r n) level ∙ stays.1) (λ j d l m is_open. absurd (omega (arith, l, place))) h)

other_way : (s t : Search) (rows : ℕ) (p q : Part) (turn : Turn) (r u : Progress) → (turn ≡ turns.Learnt → ⊥) → Caused s t rows p q (Some turn) → (IsOver t.phase → ⊥) → u.decisions.items ≡ r.decisions.items → u.learnt ≡ r.learnt → u.assumed ≡ min r.assumed t.store.level → u.held ≡ held_to r t.store.level → u.place ≡ 0
    → IsUnderWay r s.store → IsUnderWay u t.store
other_way s t rows p q turns.Imported r u not k running decisions learnt assumed held place h = elim k.used [
  | inl given ↦
      let b = given.0.back in
      let at : t.store.level ≡ given.0.level = ap (λ (x : Trail). x.level) b.is in
      way_back r u s.store t.store given.0.level (ap (λ (x : Trail). x.first) b.is) (ap (λ (x : Trail). x.entries) b.is) at b.within decisions (assumed ∙ ap (λ (n : ℕ). min r.assumed n) at) (held ∙ ap (λ (n : ℕ). held_to r n) at) place (omega (arith, learnt, h.few)) h
  | inr pass ↦ same_way r u s.store t.store pass.0.store decisions learnt assumed held place h
]
other_way s t rows p q turns.Found r u not k running decisions learnt assumed held place h =
    same_way r u t.store t.store refl decisions learnt assumed held place (onward_way r s.store t.store k.onward h)
other_way s t rows p q turns.Exhausted r u not k running decisions learnt assumed held place h = absurd (over_runs t.phase _ k.phase running)
other_way s t rows p q turns.SawClosed r u not k running decisions learnt assumed held place h = absurd (over_runs t.phase _ (ap (λ (x : Search). x.phase) k.same) running)
other_way s t rows p q turns.Decided r u not k running decisions learnt assumed held place h = absurd k
other_way s t rows p q turns.Learnt r u not k running decisions learnt assumed held place h = absurd (not refl)
other_way s t rows p q (turns.Spent clause below) r u not k running decisions learnt assumed held place h = absurd (over_runs t.phase _ k.phase running)
other_way s t rows p q turns.RoundsDone r u not k running decisions learnt assumed held place h = absurd k
other_way s t rows p q (turns.Reformed base) r u not k running decisions learnt assumed held place h = absurd k

pub explores_other : {P : Type 0} (x y : Explorer P) (rows : ℕ) (p q : Part) (turn : Turn) → IsExploring x → (IsOver x.frame.phase → ⊥) → IsSoundSearch y.frame → Steps x.frame y.frame rows p q (Some turn) → (turn ≡ turns.Learnt → ⊥) → x.frame.imported ≤ length p.board.taken → rows ≤ 4096
    → y.brancher ≡ x.brancher → y.kept ≡ min x.kept (length y.frame.store.entries) → y.conflicts ≡ x.conflicts → y.aim ≡ x.aim → y.rounds ≡ x.rounds → y.in_round ≡ x.in_round → y.round.decisions.items ≡ x.round.decisions.items → y.round.learnt ≡ x.round.learnt
    → y.round.assumed ≡ min x.round.assumed y.frame.store.level → y.round.held ≡ held_to x.round y.frame.store.level → y.round.place ≡ 0 → IsExploring y
explores_other x y rows p q turn h running sound steps not taken small brancher kept conflicts aim rounds in_round decisions learnt assumed held place =
    explores_on x y h sound steps.setting (imported_few x.frame y.frame rows p q (Some turn) h.imported taken small steps.cause) (ap (λ (b : ByActivity). length b.activities) brancher) conflicts aim (omega (arith, kept))
    (subst (λ (b : ByActivity). AreFixedAside (length b.activities) b.aside y.frame.store y.kept) (sym brancher)
    (aside_kept_on (length x.brancher.activities) x.brancher.aside x.frame.store y.frame.store y.kept x.kept (omega (arith, kept)) (same_back (length x.brancher.activities) y.kept x.frame.store y.frame.store (omega (arith, kept, h.within)) (omega (arith, kept)) steps.store) h.agreed))
    (omega (arith, rounds, h.rounds))
    (omega (arith, other_tally x.frame y.frame rows p q turn not steps.cause, h.tally, ap (λ (n : ℕ). round_conflicts * n) rounds, learnt_same x.in_round y.in_round x.round y.round in_round learnt))
    (λ off. (let none = h.between (sym in_round ∙ off) in omega (arith, steps.store.level, none)))
    (λ run on. other_way x.frame y.frame rows p q turn x.round y.round not steps.cause run decisions learnt assumed held place (h.under_way running (sym in_round ∙ on)))

-- ---- all rounds are done

-- the worker looks at the bounds and ends
done_search : (s f : Search) (p q : Part) (turn : Turn) → EndsRounds s f p q turn → (f.imported ≡ s.imported) × (f.tally ≡ s.tally) × IsOver f.phase
done_search s f p q turns.SawClosed h =
    let e = h.cause.same in
    (ap (λ (x : Search). x.imported) e, ap (λ (x : Search). x.tally) e, subst (λ (x : Phase). IsOver x) (sym (ap (λ (x : Search). x.phase) e)) tt)
done_search s f p q turns.RoundsDone h =
    let e = h.cause.is in
    (ap (λ (x : Search). x.imported) e, ap (λ (x : Search). x.tally) e, subst (λ (x : Phase). IsOver x) (sym (ap (λ (x : Search). x.phase) e)) tt)
done_search s f p q turns.Imported h = absurd h.cause
done_search s f p q turns.Decided h = absurd h.cause
done_search s f p q turns.Learnt h = absurd h.cause
done_search s f p q turns.Found h = absurd h.cause
done_search s f p q turns.Exhausted h = absurd h.cause
done_search s f p q (turns.Spent clause below) h = absurd h.cause
done_search s f p q (turns.Reformed base) h = absurd h.cause

-- where no log is kept, none is let go
kept_setting : (s f : Search) → s.log ≡ None → SameSetting (record s { log = None }) f → SameSetting s f
kept_setting s f none h = subst (λ (l : Option Log). SameSetting (record s { log = l }) f) (sym none) h

pub turn_done : (s : Near) (f : Search) (rows : ℕ) (p q : Part) (turn : Turn) → s.search.log ≡ None → s.rounds ≡ round_count s.conflicts → EndsRounds s.search f p q turn → TakesNearTurn s (record s { search = f }) rows p q turn
turn_done s f rows p q turns.SawClosed none all h =
    let same : SameRounds s (record s { search = f }) = record { rounds = refl; round = refl; draws = refl; brancher = refl } in
    record { setting = kept_setting s.search f none h.setting; conflicts = refl; aim = refl; store = λ _. stays_there s.search.store f.store h.store; cause = (h.cause, same); moves = h.moves; ends = ap (λ (x : Search). x.phase) h.cause.same; lowers = λ e. absurd (cc e) }
turn_done s f rows p q turns.RoundsDone none all h =
    let same : SameRounds s (record s { search = f }) = record { rounds = refl; round = refl; draws = refl; brancher = refl } in
    record { setting = kept_setting s.search f none h.setting; conflicts = refl; aim = refl; store = λ _. stays_there s.search.store f.store h.store; cause = (all, h.cause, same); moves = h.moves; ends = ap (λ (x : Search). x.phase) h.cause.is; lowers = λ e. absurd (cc e) }
turn_done s f rows p q turns.Imported none all h = absurd h.cause
turn_done s f rows p q turns.Decided none all h = absurd h.cause
turn_done s f rows p q turns.Learnt none all h = absurd h.cause
turn_done s f rows p q turns.Found none all h = absurd h.cause
turn_done s f rows p q turns.Exhausted none all h = absurd h.cause
turn_done s f rows p q (turns.Spent clause below) none all h = absurd h.cause
turn_done s f rows p q (turns.Reformed base) none all h = absurd h.cause

pub explores_done : {P : Type 0} (x : Explorer P) (f : Search) (p q : Part) (turn : Turn) → IsExploring x → IsSoundSearch f → EndsRounds x.frame f p q turn → IsExploring (record x { frame = f })
explores_done x f p q turn h sound k =
    let d = done_search x.frame f p q turn k in
    explores_on x (record x { frame = f }) h sound (kept_setting x.frame f h.no_log k.setting) (omega (arith, d.0, h.imported)) refl refl refl
    (omega (arith, h.within, ap (λ (t : Trail). length t.entries) k.store))
    (subst (λ (t : Trail). AreFixedAside (length x.brancher.activities) x.brancher.aside t x.kept) (sym k.store) h.agreed)
    h.rounds (omega (arith, d.1, h.tally)) (λ off. ap (λ (t : Trail). t.level) k.store ∙ h.between off) (λ not _. absurd (not d.2))
