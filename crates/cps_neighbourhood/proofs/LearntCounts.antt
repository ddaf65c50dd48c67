-- How many clauses a neighbourhood worker learns, by the rounds that it did, and what its turns come to.
use Rattle.std.proofs.Common.{ℕ, ◌+◌, ◌*◌, ◌≤◌, ◌<◌, ◌≡◌, ◌∙◌, ◌⊎◌, inl, inr, Option, Some, None, refl, sym, ap, subst, arith}
use Rattle.rand_pcg.specs.Lcg.{Lcg}
use Rattle.cps_model.specs.declared.bound.Bound.{Bound}
use Rattle.cps_model.specs.declared.bound.Bound.TheVariants.{Infinite}
use Rattle.cps_instance.specs.Problem.{Problem}
use Rattle.cps_port.specs.declared.part.BoundsPart.{BoundsPart}
use Rattle.cps_port.specs.declared.part.Part.{Part}
use Rattle.cps_port.specs.Order.{raised_to}
use Rattle.cps_search.specs.declared.end.End.{End}
use Rattle.cps_search.specs.declared.end.End.TheVariants as ends
use Rattle.cps_search.specs.declared.end.WorkerKind.TheVariants as kinds
use Rattle.cps_search.specs.declared.turn.Turn.{Turn}
use Rattle.cps_search.specs.declared.turn.Turn.TheVariants as turns
use Rattle.cps_search.specs.Following.{MovesWith}
use Rattle.cps_search.specs.Searches.{IsSoundSearch, Search}
use Rattle.cps_search.specs.Turns.{SameCore, SameRaised}
use Rattle.cps_search.specs.Ends.{EndsAs, EndsRaised, IsHonestEnding, IsWhy, LastSawMet, end_of, ending, round_conflicts, round_count}
use Rattle.cps_search.proofs.RunEnds.{core_of, honest_by}
use Rattle.cps_search.proofs.TurnMoves.{ends_by, moves_more}
use Rattle.cps_search.proofs.TurnCauses.{setting_trans}
use Rattle.cps_search.proofs.WorkerInvariants.{HasRun, run_begins}
use Rattle.cps_neighbourhood.specs.Nears.{BeginsNear, Near, NearCaused, NearEndsBy, NearRunsInTurns, NearRunsTo, OneNearTurn, TakesNearTurn, TakesNearTurns, aimed, learnt_in, none_yet, one_more}
use Rattle.cps_neighbourhood.specs.Rounds.{EndsRound, Round}
use Rattle.cps_neighbourhood.proofs.TurnCauses.{learnt_now}

-- each round that ended learnt a clause, and at most 100
record HasCounted (s : Near) : Type 0 where
  each : s.rounds ≤ s.search.tally
  most : s.search.tally ≤ round_conflicts * s.rounds + learnt_in s.round
  whole : round_conflicts * s.rounds + learnt_in s.round ≤ round_conflicts * round_count s.conflicts
  few : learnt_in s.round < round_conflicts

counted_same : (s t : Near) → t.rounds ≡ s.rounds → learnt_in t.round ≡ learnt_in s.round → t.search.tally ≡ s.search.tally → t.conflicts ≡ s.conflicts → HasCounted s → HasCounted t
counted_same s t rounds learnt tally conflicts h = record {
  each = omega (arith, rounds, tally, h.each);
  most = omega (arith, rounds, learnt, tally, h.most);
  whole = omega (arith, rounds, learnt, ap round_count conflicts, h.whole);
  few = omega (arith, learnt, h.few);
}

at_most_by : (a b : ℕ) (P : Type 0) → (P → a ≤ b) → ((P → ⊥) → a ≤ b) → a ≤ b
at_most_by a b P h k = elim (le_or a b) [ inl l ↦ l | inr more ↦ k (λ p. (let l = h p in omega (arith, l, more))) ]
  where
    le_or : (a b : ℕ) → (a ≤ b) ⊎ (b < a)
    le_or a b = grind arith

not_last : (n : ℕ) → n < round_conflicts → (n + 1 ≡ round_conflicts → ⊥) → n + 1 < round_conflicts
not_last n l not = grind arith

counts_on : (s t : Near) (rows : ℕ) (p q : Part) (turn : Turn) → HasCounted s → t.conflicts ≡ s.conflicts → NearCaused s t rows p q turn → HasCounted t
counts_on s t rows p q turns.Imported h conflicts k = counted_same s t k.2.rounds (ap (λ (o : Option Round). learnt_in o) k.2.round) k.1.tally conflicts h
counts_on s t rows p q turns.Decided h conflicts k =
    counted_same s t k.1.rest.rounds (ap (λ (o : Option Round). learnt_in o) k.1.rest.round ∙ learnt_now _ s.aim s.draws s.round) (ap (λ (x : Search). x.tally) k.1.one.is ∙ k.1.one.due.learnt.tally) conflicts h
counts_on s t rows p q turns.Found h conflicts k = counted_same s t k.2.rounds (ap (λ (o : Option Round). learnt_in o) k.2.round) k.1.learnt.tally conflicts h
counts_on s t rows p q turns.Exhausted h conflicts k = counted_same s t k.2.rounds (ap (λ (o : Option Round). learnt_in o) k.2.round) k.1.learnt.tally conflicts h
counts_on s t rows p q turns.SawClosed h conflicts k = counted_same s t k.1.rounds (ap (λ (o : Option Round). learnt_in o) k.1.round) (ap (λ (x : Search). x.tally) k.0.same) conflicts h
counts_on s t rows p q turns.RoundsDone h conflicts k = counted_same s t k.2.rounds (ap (λ (o : Option Round). learnt_in o) k.2.round) (ap (λ (x : Search). x.tally) k.1.is) conflicts h
counts_on s t rows p q (turns.Spent clause below) h conflicts k = absurd k
counts_on s t rows p q (turns.Reformed base) h conflicts k = absurd k
counts_on s t rows p q turns.Learnt h conflicts k =
    let l = k.1 in
    let P = EndsRound l.round s.search.store l.back in
    let before : learnt_in s.round ≡ l.round.learnt = ap (λ (o : Option Round). learnt_in o) l.under_way in
    let count : t.search.tally ≡ s.search.tally + 1 = l.one.tally in
    let most = ap round_count conflicts in
    let ended : P → learnt_in t.round ≡ 0 = λ e. ap (λ (o : Option Round). learnt_in o) (l.ends e).round in
    let went : (P → ⊥) → learnt_in t.round ≡ l.round.learnt + 1 = λ n. ap (λ (o : Option Round). learnt_in o) (l.goes_on n).one_more in
    let short : (P → ⊥) → l.round.learnt + 1 < round_conflicts = λ n. not_last l.round.learnt (omega (arith, before, h.few)) (λ e. n (inl e)) in
    record {
      each = at_most_by t.rounds t.search.tally P (λ e. (let r = (l.ends e).rounds in omega (arith, r, count, h.each))) (λ n. (let r = (l.goes_on n).rounds in omega (arith, r, count, h.each)));
      most = at_most_by t.search.tally (round_conflicts * t.rounds + learnt_in t.round) P
          (λ e. (let r = (l.ends e).rounds in let none = ended e in omega (arith, r, none, count, h.most, h.few)))
          (λ n. (let r = (l.goes_on n).rounds in let more = went n in omega (arith, r, more, before, count, h.most)));
      whole = at_most_by (round_conflicts * t.rounds + learnt_in t.round) (round_conflicts * round_count t.conflicts) P
          (λ e. (let r = (l.ends e).rounds in let none = ended e in omega (arith, r, none, k.0, most)))
          (λ n. (let r = (l.goes_on n).rounds in let more = went n in let low = short n in omega (arith, r, more, low, k.0, most)));
      few = (let low = at_most_by (learnt_in t.round + 1) round_conflicts P (λ e. (let none = ended e in omega (arith, none))) (λ n. (let more = went n in let low = short n in omega (arith, more, low))) in omega (arith, low));
    }

counted_turns : (rows : ℕ) (s : Near) (p : Part) (t : Near) (q : Part) → TakesNearTurns rows s p t q → HasCounted s → HasCounted t
counted_turns rows s p t q none_yet h = h
counted_turns rows s p t q (one_more m u n r turn before going last) h = counts_on m u rows n r turn (counted_turns rows s p m n before h) last.takes.conflicts last.takes.cause
counted_turns rows s p t q (aimed u r solution before is) h =
    let k = counted_turns rows s p u r before h in
    record { each = k.each; most = k.most; whole = k.whole; few = k.few }

-- ---- what turns come to

-- a turn on as many rows, between two sound searches
pub one_near_turn : (rows now : ℕ) (s t : Near) (p q : Part) (turn : Turn) → now ≡ rows → IsSoundSearch s.search × IsSoundSearch t.search → TakesNearTurn s t now p q turn → OneNearTurn rows s t p q turn
one_near_turn rows now s t p q turn same sound takes = record { before = sound.0; after = sound.1; takes = subst (λ (n : ℕ). TakesNearTurn s t n p q turn) same takes }

-- what a run has done so far
pub record HasNearRun (s t : Near) (p q : Part) : Type 0 where
  pub run : HasRun s.search t.search p q
  pub conflicts : t.conflicts ≡ s.conflicts

pub near_begins : (s : Near) (p : Part) → HasNearRun s s p p
near_begins s p = record { run = run_begins s.search p; conflicts = refl }

raised_on : (s t : Near) (rows : ℕ) (p q : Part) (turn : Turn) → end_of turn ≡ None → NearCaused s t rows p q turn → SameRaised s.search t.search
raised_on s t rows p q turns.Imported e k = k.1.raised
raised_on s t rows p q turns.Decided e k = ap (λ (x : Search). x.raised) k.1.one.is ∙ k.1.one.due.raised
raised_on s t rows p q turns.Learnt e k = k.1.one.raised
raised_on s t rows p q turns.Found e k = k.1.raised
raised_on s t rows p q turns.Exhausted e k = absurd (cc e)
raised_on s t rows p q turns.SawClosed e k = absurd (cc e)
raised_on s t rows p q turns.RoundsDone e k = absurd (cc e)
raised_on s t rows p q (turns.Spent clause below) e k = absurd k
raised_on s t rows p q (turns.Reformed base) e k = absurd k

core_on : (s t : Near) (rows : ℕ) (p q : Part) (turn : Turn) → end_of turn ≡ None → NearCaused s t rows p q turn → SameCore s.search t.search
core_on s t rows p q turns.Imported e k = k.1.core
core_on s t rows p q turns.Decided e k = ap (λ (x : Search). x.core) k.1.one.is ∙ k.1.one.due.core
core_on s t rows p q turns.Learnt e k = k.1.one.core
core_on s t rows p q turns.Found e k = k.1.core
core_on s t rows p q turns.Exhausted e k = absurd (cc e)
core_on s t rows p q turns.SawClosed e k = absurd (cc e)
core_on s t rows p q turns.RoundsDone e k = absurd (cc e)
core_on s t rows p q (turns.Spent clause below) e k = absurd k
core_on s t rows p q (turns.Reformed base) e k = absurd k

pub near_goes_on : (s t u : Near) (rows : ℕ) (p m q : Part) (turn : Turn) → end_of turn ≡ None → HasNearRun s t p m → TakesNearTurn t u rows m q turn → HasNearRun s u p q
near_goes_on s t u rows p m q turn e h k = record {
  run = record {
    setting = setting_trans s.search t.search u.search h.run.setting k.setting;
    moves = moves_more s.search t.search u.search p m q h.run.moves k.moves;
    raised = raised_on t u rows m q turn e k.cause ∙ h.run.raised;
    core = core_on t u rows m q turn e k.cause ∙ h.run.core;
  };
  conflicts = k.conflicts ∙ h.conflicts;
}

end_is : (a b : End) → Some a ≡ Some b → a ≡ b
end_is a b e = cc

ended_by : (t u : Near) (rows : ℕ) (p q : Part) (turn : Turn) (end : End) → IsSoundSearch t.search → end_of turn ≡ Some end → TakesNearTurn t u rows p q turn → NearEndsBy u q.bounds end
ended_by t u rows p q turns.Imported end sound e k = absurd (cc e)
ended_by t u rows p q turns.Decided end sound e k = absurd (cc e)
ended_by t u rows p q turns.Learnt end sound e k = absurd (cc e)
ended_by t u rows p q turns.Found end sound e k = absurd (cc e)
ended_by t u rows p q turns.Exhausted end sound e k =
    subst (λ (x : End). NearEndsBy u q.bounds x) (end_is ends.Exhausted end e) (ends_by (λ s o. ⊥) t.search u.search rows p q turns.Exhausted ends.Exhausted sound k.setting k.cause.1 refl)
ended_by t u rows p q turns.SawClosed end sound e k =
    subst (λ (x : End). NearEndsBy u q.bounds x) (end_is ends.SawClosed end e) (ends_by (λ s o. ⊥) t.search u.search rows p q turns.SawClosed ends.SawClosed sound k.setting k.cause.0 refl)
ended_by t u rows p q turns.RoundsDone end sound e k =
    subst (λ (x : End). NearEndsBy u q.bounds x) (end_is ends.RoundsDone end e) (k.cause.2.rounds ∙ k.cause.0 ∙ ap round_count (sym k.conflicts))
ended_by t u rows p q (turns.Spent clause below) end sound e k = absurd k.cause
ended_by t u rows p q (turns.Reformed base) end sound e k = absurd k.cause

ended_raised : (s t u : Near) (rows : ℕ) (p q : Part) (turn : Turn) (end : End) → end_of turn ≡ Some end → NearCaused t u rows p q turn → SameRaised s.search t.search → SameCore s.search t.search → EndsRaised s.search u.search end
ended_raised s t u rows p q turns.Imported end e k same core = absurd (cc e)
ended_raised s t u rows p q turns.Decided end e k same core = absurd (cc e)
ended_raised s t u rows p q turns.Learnt end e k same core = absurd (cc e)
ended_raised s t u rows p q turns.Found end e k same core = absurd (cc e)
ended_raised s t u rows p q turns.Exhausted end e k same core = subst (λ (x : End). EndsRaised s.search u.search x) (end_is ends.Exhausted end e) (k.1.raised ∙ ap (λ (o : Option Bound). raised_to o u.search.z) same)
ended_raised s t u rows p q turns.SawClosed end e k same core = subst (λ (x : End). EndsRaised s.search u.search x) (end_is ends.SawClosed end e) (ap (λ (x : Search). x.raised) k.0.same ∙ same, ap (λ (x : Search). x.core) k.0.same ∙ core)
ended_raised s t u rows p q turns.RoundsDone end e k same core = subst (λ (x : End). EndsRaised s.search u.search x) (end_is ends.RoundsDone end e) (ap (λ (x : Search). x.raised) k.1.is ∙ same, ap (λ (x : Search). x.core) k.1.is ∙ core)
ended_raised s t u rows p q (turns.Spent clause below) end e k same core = absurd k
ended_raised s t u rows p q (turns.Reformed base) end e k same core = absurd k

pub near_ends : (s t u : Near) (rows : ℕ) (p m q : Part) (turn : Turn) (end : End) → IsSoundSearch t.search → HasNearRun s t p m → TakesNearTurn t u rows m q turn → end_of turn ≡ Some end → NearRunsTo s u p q end
near_ends s t u rows p m q turn end sound h k e = record {
  setting = setting_trans s.search t.search u.search h.run.setting k.setting;
  conflicts = k.conflicts ∙ h.conflicts;
  moves = moves_more s.search t.search u.search p m q h.run.moves k.moves;
  phase = subst (λ (o : Option End). EndsAs o u.search) e k.ends;
  why = ended_by t u rows m q turn end sound e k;
  raises_last = ended_raised s t u rows m q turn end e k.cause h.run.raised h.run.core;
}

near_run : (rows : ℕ) (s : Near) (p : Part) (t : Near) (q : Part) → TakesNearTurns rows s p t q → HasNearRun s t p q
near_run rows s p t q none_yet = near_begins s p
near_run rows s p t q (one_more m u n r turn before going last) = near_goes_on s m u rows p n r turn going (near_run rows s p m n before) last.takes
near_run rows s p t q (aimed u r solution before is) = (let k = near_run rows s p u r before in record { run = k.run; conflicts = k.conflicts })

pub near_turns_run : (rows : ℕ) (s t : Near) (p q : Part) (end : End) → NearRunsInTurns rows s t p q end → NearRunsTo s t p q end
near_turns_run rows s t p q end h = near_ends s h.before t rows p h.part q h.turn end h.last.before (near_run rows s p h.before h.part h.turns) h.last.takes h.ended

-- ---- a worker that has ended is honest

why_of : (t : Near) (gap conflicts : ℕ) (q : BoundsPart) (end last : End) → t.search.gap ≡ gap → t.conflicts ≡ conflicts → HasCounted t → NearEndsBy t q end → IsWhy t.search.instance gap conflicts t.search.z q (ending kinds.Near None last t.search) end
why_of t gap conflicts q ends.Exhausted last e c counted h = (h.raise, h.raised, h.at_least)
why_of t gap conflicts q ends.SawClosed last e c counted h = subst (λ (n : ℕ). LastSawMet n q) e h
why_of t gap conflicts q (ends.Spent clause below) last e c counted h = absurd h
why_of t gap conflicts q ends.RoundsDone last e c counted h = (refl, omega (arith, h, counted.each, ap round_count c))

begins_counted : (p : Problem) (gap conflicts : ℕ) (draws : Lcg) (s : Near) → BeginsNear p gap conflicts draws s → HasCounted s
begins_counted p gap conflicts draws s h =
    let none : learnt_in s.round ≡ 0 = ap (λ (o : Option Round). learnt_in o) h.round in
    let tally : s.search.tally ≡ 0 = ap (λ (x : Search). x.tally) h.search in
    record { each = omega (arith, h.rounds, tally); most = omega (arith, tally); whole = omega (arith, none, h.rounds); few = omega (arith, none) }

pub near_honest : (p : Problem) (gap conflicts rows : ℕ) (draws : Lcg) (s t : Near) (part q : Part) (end : End) → BeginsNear p gap conflicts draws s → NearRunsInTurns rows s t part q end
    → part.bounds.offered ≡ Infinite → part.bounds.raised ≡ None → IsHonestEnding p.model gap conflicts q.bounds (ending kinds.Near None end t.search)
near_honest p gap conflicts rows draws s t part q end begins h offered raised =
    let runs = near_turns_run rows s t part q end h in
    let counted = counts_on h.before t rows h.part q h.turn (counted_turns rows s part h.before h.part h.turns (begins_counted p gap conflicts draws s begins)) h.last.takes.conflicts h.last.takes.cause in
    let same : t.conflicts ≡ conflicts = runs.conflicts ∙ begins.conflicts_are in
    honest_by p gap conflicts None t.search part q kinds.Near None end
    (runs.setting.instance ∙ ap (λ (x : Search). x.instance) begins.search)
    (core_of p kinds.Near None t.search end s.search (runs.setting.instance ∙ ap (λ (x : Search). x.instance) begins.search) (ap (λ (x : Search). x.raised) begins.search) (ap (λ (x : Search). x.core) begins.search)
    (λ e. subst (λ (x : End). NearEndsBy t q.bounds x) e runs.why) runs.raises_last)
    (subst (λ (x : Search). MovesWith x t.search part q) begins.search runs.moves) h.last.after offered raised
    (omega (arith, counted.most, counted.whole, ap round_count same)) runs.phase
    (why_of t gap conflicts q.bounds end end (runs.setting.gap ∙ ap (λ (x : Search). x.gap) begins.search) same counted runs.why)
