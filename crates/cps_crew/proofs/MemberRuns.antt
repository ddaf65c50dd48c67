-- What turns of a worker of any kind come to, and why they come to an end.
use Rattle.std.specs.Prelude.{Bool, Option, Some, None, IfSome, is_some, true, false, List, ℤ}
use Rattle.std.proofs.Common.{◌≡◌, refl, sym, ap, subst, ◌∙◌, ℕ, ◌+◌, ◌<◌, inl, inr, []}
use Rattle.cps_model.specs.declared.model.CpModel.{CpModel}
use Rattle.cps_instance.specs.Strategies.{model_sums}
use Rattle.cps_instance.specs.Sums.{DefinedSum}
use Rattle.cps_instance.specs.Problem.{Problem}
use Rattle.cps_trail.specs.Trail.{open_values}
use Rattle.cps_port.specs.declared.part.BoardPart.{BoardPart}
use Rattle.cps_port.specs.declared.part.Part.{Part}
use Rattle.cps_port.specs.Entries.{most_rows}
use Rattle.cps_port.specs.Parts.{newcomer}
use Rattle.cps_options.specs.declared.options.Options.{Options}
use Rattle.rand_pcg.specs.Lcg.{Lcg}
use Rattle.cps_literal.specs.declared.atom.Atom.{Atom}
use Rattle.cps_branch.specs.declared.guidance.Guidance.{Guidance}
use Rattle.cps_branch.specs.declared.guidance.Guidance.TheVariants.{Steered, Hinted}
use Rattle.cps_branch.specs.Guidances.{Branching, in_order, by_activity, guidance_of, ChoosesAs, HearsAs, StaysAs}
use Rattle.cps_branch.specs.Strategies.{Planned}
use Rattle.cps_model.specs.declared.bound.Bound.{Bound}
use Rattle.cps_model.specs.Statuses.{is_closed}
use Rattle.cps_trail.specs.Trail.{Trail}
use Rattle.cps_port.specs.declared.part.BoundsPart.{BoundsPart}
use Rattle.cps_tracer.specs.Traced.{Traced}
use Rattle.cps_search.specs.declared.end.End.{End}
use Rattle.cps_search.specs.declared.end.End.TheVariants as ends
use Rattle.cps_search.specs.declared.end.Phase.{Phase}
use Rattle.cps_search.specs.declared.end.WorkerKind.{WorkerKind}
use Rattle.cps_search.specs.declared.end.WorkerKind.TheVariants as kinds
use Rattle.cps_search.specs.declared.turn.Turn.{Turn}
use Rattle.cps_search.specs.declared.turn.Turn.TheVariants as turns
use Rattle.cps_search.specs.Logged.{Log, items_of}
use Rattle.cps_search.specs.Moves.{fresh, with_log}
use Rattle.cps_search.specs.Searches.{Search, IsSoundSearch}
use Rattle.cps_search.specs.Following.{MovesWith}
use Rattle.cps_search.specs.Guided.{IsGuidedBy, RunsBy}
use Rattle.cps_search.specs.Ends.{BrancherTurn, DecidedBy, EndsAs, HeardOne, IsComplete, IsHonestEnding, IsOver, RunsTo, TurnCaused, none_yet, one_more, end_of, ending}
use Rattle.cps_search.proofs.RunEnds.{honest_ending}
use Rattle.cps_search.proofs.TurnTermination.{left_of, lowered}
use Rattle.cps_search.proofs.WorkerInvariants.{HasRun, run_begins, run_goes_on, run_ends}
use Rattle.cps_core_guided.specs.Reforming.{CoreSearch, whole}
use Rattle.cps_core_guided.specs.CoreTurns.{core_ending, no_turn, one_turn_more}
use Rattle.cps_core_guided.proofs.CoreEnds.{core-honest}
use Rattle.cps_core_guided.proofs.CoreTermination.{core_left, core_lowered}
use Rattle.cps_core_guided.proofs.CoreRuns.{HasCoreRun, core-begins, core-goes-on, core-turns-run}
use Rattle.cps_core_guided.proofs.CoreTurnCauses.{phase-search}
use Rattle.cps_neighbourhood.specs.Drawing.{draws_of}
use Rattle.cps_neighbourhood.specs.Nears.{Near, BeginsNear, NearRunsInTurns, OneNearTurn, TakesNearTurn, TakesNearTurns, aimed}
use Rattle.cps_neighbourhood.specs.Nears.{none_yet as near_none_yet, one_more as near_one_more}
use Rattle.cps_neighbourhood.proofs.LearntCounts.{HasNearRun, near_begins, near_goes_on, near_honest, near_turns_run}
use Rattle.cps_neighbourhood.proofs.RoundTermination.{near_left, near_lowered}
use Rattle.cps_crew.specs.Workers.{AnySearch, by_brancher, by_cores, in_rounds, search_in, HasBrancher, BeginsGuided, BeginsByCores, BeginsRounds, BeginsAs, DrawsBy, keeps_log, near_stream, IsAimed, TakesTurnsBy, TakesCoreTurnsBy, RunsByCores, TurnedBy, TurnedByCores, TurnedNear, HasTurned, TakesTurnsAs, HasEnded}
use Rattle.cps_crew.specs.Outcomes.{HasSums, SpentOnlyIf}
use Rattle.cps_crew.specs.Crews.{IsHonestlyDone, LastSawOpen}

pub none_of : (o : Option End) → false ≡ is_some o → o ≡ None
none_of None e = refl
none_of (Some x) e = absurd cc

pub some_of : (o : Option End) → true ≡ is_some o → (end : End) × (o ≡ Some end)
some_of None e = absurd cc
some_of (Some x) e = (x, refl)

-- ---- a worker that begins

-- of a model, with memory, with nothing imported, and about to step
pub record HasBegun (m : CpModel) (s : Search) : Type 0 where
  pub model : s.instance.model ≡ m
  pub refused : s.refused ≡ false
  pub imported : s.imported ≡ 0
  pub running : IsOver s.phase → ⊥

-- a log changes nothing else of a search that begins
start_is : (log : Option Traced) (s : Search) → with_log log s ≡ record s { log = (with_log log s).log }
start_is None s = refl
start_is (Some t) s = refl

start_logs : (log : Option Traced) (s : Search) → s.log ≡ None → is_some (with_log log s).log ≡ is_some log
start_logs None s none = ap (λ (o : Option Log). is_some o) none
start_logs (Some t) s none = refl

kept_items : (log : Option Log) → is_some (items_of log) ≡ is_some log
kept_items None = refl
kept_items (Some l) = refl

pub has_begun : (m : CpModel) (o : Options) (s : AnySearch) → BeginsAs m o s → HasBegun m (search_in s)
has_begun m o (by_brancher kind b s) h =
    let is = h.begins.is ∙ start_is h.begins.log (fresh h.begins.instance o.gap (Some o.conflicts)) in
    record {
      model = ap (λ (x : Search). x.instance.model) is ∙ h.begins.first.model;
      refused = ap (λ (x : Search). x.refused) is;
      imported = ap (λ (x : Search). x.imported) is;
      running = λ over. subst (λ (x : Search). IsOver x.phase) is over;
    }
has_begun m o (by_cores brancher s) h =
    let b = h.begins.is in
    record {
      model = b.instance ∙ h.begins.first.model;
      refused = ap (λ (x : Search). x.refused) b.search;
      imported = ap (λ (x : Search). x.imported) b.search;
      running = λ over. subst (λ (x : Phase). IsOver x) (phase-search s b.ended ∙ ap (λ (x : Search). x.phase) b.search) over;
    }
has_begun m o (in_rounds n) h =
    let is = h.is.search in
    record {
      model = ap (λ (x : Search). x.instance.model) is ∙ h.first.model;
      refused = ap (λ (x : Search). x.refused) is;
      imported = ap (λ (x : Search). x.imported) is;
      running = λ over. subst (λ (x : Search). IsOver x.phase) is over;
    }

-- ---- a worker that is handed a solution

pub aimed_search : (m n : Near) → IsAimed m n → n.search ≡ m.search
aimed_search m n (inl e) = ap (λ (x : Near). x.search) e
aimed_search m n (inr x) = ap (λ (x : Near). x.search) x.2

aimed_turns : (rows : ℕ) (s : Near) (p : Part) (t n : Near) (q : Part) → TakesNearTurns rows s p t q → IsAimed t n → TakesNearTurns rows s p n q
aimed_turns rows s p t n q turns (inl e) = subst (λ (x : Near). TakesNearTurns rows s p x q) (sym e) turns
aimed_turns rows s p t n q turns (inr x) = subst (λ (x : Near). TakesNearTurns rows s p x q) (sym x.2) (aimed t q x.0 turns x.1)

-- what it aims at is no part of its search, which is sound before its turn and after it
aimed_turn : (rows : ℕ) (m n : Near) (p q : Part) (over : Bool) → (turn : TurnedNear rows m n p q over) → OneNearTurn rows turn.aimed n p q turn.turn
aimed_turn rows m n p q over turn = record { before = subst IsSoundSearch (sym (aimed_search m turn.aimed turn.aims)) turn.before; after = turn.after; takes = turn.takes }

-- ---- what a brancher goes by

stays_guided : (b c : Branching) → StaysAs b c → guidance_of c ≡ guidance_of b
stays_guided (in_order plan) (in_order after) stays = ap (λ (p : Planned). Steered p) stays
stays_guided (by_activity b) (by_activity c) stays = ap (λ (hs : List (Option ℤ)). Hinted hs) stays.hints
stays_guided (in_order plan) (by_activity c) stays = absurd stays
stays_guided (by_activity b) (in_order after) stays = absurd stays

hears_guided : (b c : Branching) (clause : List Atom) (restart : Bool) → HearsAs b clause restart c → guidance_of c ≡ guidance_of b
hears_guided (in_order plan) (in_order after) clause restart heard = ap (λ (p : Planned). Steered p) heard.plan_stays
hears_guided (by_activity b) (by_activity c) clause restart heard = ap (λ (hs : List (Option ℤ)). Hinted hs) heard.hints
hears_guided (in_order plan) (by_activity c) clause restart heard = absurd heard
hears_guided (by_activity b) (in_order after) clause restart heard = absurd heard

turn_guided : (s t : Search) (b c : Branching) (turn : Turn) → BrancherTurn turn (HeardOne (λ clause restart. HearsAs b clause restart c) s t) (DecidedBy (StaysAs b c) (c ≡ b)) (c ≡ b) → guidance_of c ≡ guidance_of b
turn_guided s t b c turns.Imported h = ap guidance_of h
turn_guided s t b c turns.Decided h = elim h [ inl stays ↦ stays_guided b c stays | inr same ↦ ap guidance_of same ]
turn_guided s t b c turns.Learnt h = hears_guided b c h.clause h.heard.restart h.heard.said
turn_guided s t b c turns.Found h = ap guidance_of h
turn_guided s t b c turns.Exhausted h = ap guidance_of h
turn_guided s t b c turns.SawClosed h = ap guidance_of h
turn_guided s t b c (turns.Spent clause below) h = ap guidance_of h
turn_guided s t b c turns.RoundsDone h = ap guidance_of h
turn_guided s t b c (turns.Reformed base) h = ap guidance_of h

turns_guided : (rows : ℕ) (s : Search × Branching) (p : Part) (t : Search × Branching) (q : Part) → TakesTurnsBy rows s t p q → guidance_of t.1 ≡ guidance_of s.1
turns_guided rows s p t q none_yet = refl
turns_guided rows s p t q (one_more m u n r turn before goes_on last) = turn_guided m.0 u.0 m.1 u.1 turn last.brancher ∙ turns_guided rows s p m n before

-- ---- what was done by any turns that did not end the worker

has_run : (rows : ℕ) (s : Search × Branching) (p : Part) (t : Search × Branching) (q : Part) → TakesTurnsBy rows s t p q → HasRun s.0 t.0 p q
has_run rows s p t q none_yet = run_begins s.0 p
has_run rows s p t q (one_more m u n r turn before goes_on last) = run_goes_on (ChoosesAs m.1) s.0 m.0 u.0 rows p n r turn goes_on (has_run rows s p m n before) last.search

near_run : (rows : ℕ) (s : Near) (p : Part) (t : Near) (q : Part) → TakesNearTurns rows s p t q → HasNearRun s t p q
near_run rows s p t q near_none_yet = near_begins s p
near_run rows s p t q (near_one_more m u n r turn before going last) = near_goes_on s m u rows p n r turn going (near_run rows s p m n before) last.takes
near_run rows s p t q (aimed u r solution before is) = (let k = near_run rows s p u r before in record { run = k.run; conflicts = k.conflicts })

core_run : (rows : ℕ) (s : CoreSearch × Branching) (p : Part) (t : CoreSearch × Branching) (q : Part) → TakesCoreTurnsBy rows s t p q → HasCoreRun s.0 t.0 p q
core_run rows s p t q no_turn = core-begins s.0 p
core_run rows s p t q (one_turn_more m u n r turn before going one) = core-goes-on (ChoosesAs m.1) s.0 m.0 u.0 rows p n r turn (core_run rows s p m n before) one.search going

-- a core-guided worker's problem may have grown
pub record HasKept (s t : Search) (p q : Part) : Type 0 where
  pub model : t.instance.model ≡ s.instance.model
  pub refused : t.refused ≡ s.refused
  pub moves : MovesWith s t p q

pub has_kept : (rows : ℕ) (s t : AnySearch) (p q : Part) → TakesTurnsAs rows s t p q → HasKept (search_in s) (search_in t) p q
has_kept rows (by_brancher kind b s) (by_brancher same c t) p q turns =
    let run = has_run rows (s, b) p (t, c) q turns.1 in
    record { model = ap (λ (x : Problem). x.model) run.setting.instance; refused = run.setting.refused; moves = run.moves }
has_kept rows (by_cores b s) (by_cores c t) p q turns =
    let run = core_run rows (s, b) p (t, c) q turns in
    record { model = run.setting.model; refused = run.setting.refused; moves = run.moves }
has_kept rows (in_rounds m) (in_rounds n) p q turns =
    let run = near_run rows m p n q turns in
    record { model = ap (λ (x : Problem). x.model) run.run.setting.instance; refused = run.run.setting.refused; moves = run.run.moves }
has_kept rows s t p q turns = absurd turns

-- no turn yet
pub none_taken : (rows : ℕ) (s : AnySearch) (p : Part) → TakesTurnsAs rows s s p p
none_taken rows (by_brancher kind b s) p = (refl, none_yet)
none_taken rows (by_cores b s) p = no_turn
none_taken rows (in_rounds n) p = near_none_yet

-- one turn more that did not end the worker
pub turned_on : (rows : ℕ) (first s t : AnySearch) (start p q : Part) → TakesTurnsAs rows first s start p → HasTurned rows s t p q false → TakesTurnsAs rows first t start q
turned_on rows (by_brancher k g f) (by_brancher l h s) (by_brancher o i t) start p q turns turn =
    let last = turn.1 in
    (turn.0 ∙ turns.0, one_more (s, h) (t, i) p q last.turn turns.1 (none_of (end_of last.turn) last.last) last.takes)
turned_on rows (by_cores g f) (by_cores h s) (by_cores i t) start p q turns turn =
    one_turn_more (s, h) (t, i) p q turn.turn turns (none_of (end_of turn.turn) turn.last) turn.takes
turned_on rows (in_rounds f) (in_rounds m) (in_rounds n) start p q turns turn =
    near_one_more turn.aimed n p q turn.turn (aimed_turns rows f start m turn.aimed p turns turn.aims) (none_of (end_of turn.turn) turn.last) (aimed_turn rows m n p q false turn)
turned_on rows (by_brancher k g f) (by_brancher l h s) (by_cores i t) start p q turns turn = absurd turn
turned_on rows (by_brancher k g f) (by_brancher l h s) (in_rounds t) start p q turns turn = absurd turn
turned_on rows (by_brancher k g f) (by_cores h s) t start p q turns turn = absurd turns
turned_on rows (by_brancher k g f) (in_rounds s) t start p q turns turn = absurd turns
turned_on rows (by_cores g f) (by_cores h s) (by_brancher l i t) start p q turns turn = absurd turn
turned_on rows (by_cores g f) (by_cores h s) (in_rounds t) start p q turns turn = absurd turn
turned_on rows (by_cores g f) (by_brancher l h s) t start p q turns turn = absurd turns
turned_on rows (by_cores g f) (in_rounds s) t start p q turns turn = absurd turns
turned_on rows (in_rounds f) (in_rounds m) (by_brancher o i t) start p q turns turn = absurd turn
turned_on rows (in_rounds f) (in_rounds m) (by_cores i t) start p q turns turn = absurd turn
turned_on rows (in_rounds f) (by_brancher l h s) t start p q turns turn = absurd turns
turned_on rows (in_rounds f) (by_cores h s) t start p q turns turn = absurd turns

pub still_runs : (rows : ℕ) (s t : AnySearch) (p q : Part) → HasTurned rows s t p q false → IsOver (search_in t).phase → ⊥
still_runs rows (by_brancher k g s) (by_brancher l h t) p q turn = (let last = turn.1 in subst (λ (o : Option End). EndsAs o t) (none_of (end_of last.turn) last.last) last.takes.search.ends)
still_runs rows (by_cores g s) (by_cores h t) p q turn = (let last = turn in subst (λ (o : Option End). EndsAs o (search_in (by_cores h t))) (none_of (end_of last.turn) last.last) last.takes.search.ends)
still_runs rows (in_rounds m) (in_rounds n) p q turn = subst (λ (o : Option End). EndsAs o n.search) (none_of (end_of turn.turn) turn.last) turn.takes.ends
still_runs rows s t p q turn = absurd turn

pub ends_over : (rows : ℕ) (s t : AnySearch) (p q : Part) → HasTurned rows s t p q true → IsOver (search_in t).phase
ends_over rows (by_brancher k g s) (by_brancher l h t) p q turn =
    let last = turn.1 in
    let e = some_of (end_of last.turn) last.last in
    subst (λ (x : Phase). IsOver x) (sym (subst (λ (o : Option End). EndsAs o t) e.1 last.takes.search.ends)) tt
ends_over rows (by_cores g s) (by_cores h t) p q turn =
    let e = some_of (end_of turn.turn) turn.last in
    subst (λ (x : Phase). IsOver x) (sym (subst (λ (o : Option End). EndsAs o (search_in (by_cores h t))) e.1 turn.takes.search.ends)) tt
ends_over rows (in_rounds m) (in_rounds n) p q turn =
    let e = some_of (end_of turn.turn) turn.last in
    subst (λ (x : Phase). IsOver x) (sym (subst (λ (o : Option End). EndsAs o n.search) e.1 turn.takes.ends)) tt
ends_over rows (by_brancher k g s) (by_cores h t) p q turn = absurd turn
ends_over rows (by_brancher k g s) (in_rounds t) p q turn = absurd turn
ends_over rows (by_cores g s) (by_brancher l h t) p q turn = absurd turn
ends_over rows (by_cores g s) (in_rounds t) p q turn = absurd turn
ends_over rows (in_rounds m) (by_brancher l h t) p q turn = absurd turn
ends_over rows (in_rounds m) (by_cores h t) p q turn = absurd turn

-- ---- why turns come to an end

-- what a worker has left to do
abbrev pub left_in : AnySearch → ℕ → BoardPart → ℕ
left_in (by_brancher kind g s) rows b = left_of (open_values s.instance.domains [] + 1) s rows b
left_in (by_cores g s) rows b = core_left s rows b
left_in (in_rounds n) rows b = near_left (open_values n.search.instance.domains [] + 1) n rows b

guided_lighter : (rows : ℕ) (s t : Search) (b c : Branching) (p q : Part) → TurnedBy rows (s, b) (t, c) p q false → left_of (open_values t.instance.domains [] + 1) t rows q.board < left_of (open_values s.instance.domains [] + 1) s rows p.board
guided_lighter rows s t b c p q turn =
    let setting = turn.takes.search.setting in
    let less = lowered s t rows p.board q.board turn.before turn.after setting (turn.takes.search.lowers (none_of (end_of turn.turn) turn.last)) in
    subst (λ (x : Problem). left_of (open_values x.domains [] + 1) t rows q.board < left_of (open_values s.instance.domains [] + 1) s rows p.board) (sym setting.instance) less

core_lighter : (rows : ℕ) (s t : CoreSearch) (b c : Branching) (p q : Part) → TurnedByCores rows (s, b) (t, c) p q false → core_left t rows q.board < core_left s rows p.board
core_lighter rows s t b c p q turn =
    let takes = turn.takes in
    core_lowered s t rows p.board q.board takes.before takes.after takes.search.setting (takes.search.lowers (none_of (end_of turn.turn) turn.last))

near_lighter_by : (rows : ℕ) (m n : Near) (p q : Part) (turn : Turn) → IsSoundSearch m.search → IsSoundSearch n.search → m.search.budget ≡ None → end_of turn ≡ None → TakesNearTurn m n rows p q turn
    → near_left (open_values n.search.instance.domains [] + 1) n rows q.board < near_left (open_values m.search.instance.domains [] + 1) m rows p.board
near_lighter_by rows m n p q turn before after budget going takes =
    let less = near_lowered m n rows p.board q.board before after takes.setting takes.conflicts budget (takes.lowers going) in
    subst (λ (x : Problem). near_left (open_values x.domains [] + 1) n rows q.board < near_left (open_values m.search.instance.domains [] + 1) m rows p.board) (sym takes.setting.instance) less

near_lighter : (rows : ℕ) (m n : Near) (p q : Part) → TurnedNear rows m n p q false → near_left (open_values n.search.instance.domains [] + 1) n rows q.board < near_left (open_values m.search.instance.domains [] + 1) m rows p.board
near_lighter rows m n p q turn = go turn.aimed turn.aims turn.takes
  where
    going : end_of turn.turn ≡ None
    going = none_of (end_of turn.turn) turn.last

    -- what it aims at is no part of what is left
    go : (a : Near) → IsAimed m a → TakesNearTurn a n rows p q turn.turn → near_left (open_values n.search.instance.domains [] + 1) n rows q.board < near_left (open_values m.search.instance.domains [] + 1) m rows p.board
    go a (inl e) takes = near_lighter_by rows m n p q turn.turn turn.before turn.after turn.no_budget going (subst (λ (x : Near). TakesNearTurn x n rows p q turn.turn) e takes)
    go a (inr x) takes = near_lighter_by rows (record m { aim = Some x.0 }) n p q turn.turn turn.before turn.after turn.no_budget going (subst (λ (y : Near). TakesNearTurn y n rows p q turn.turn) x.2 takes)

pub lighter_in : (rows : ℕ) (s t : AnySearch) (p q : Part) → HasTurned rows s t p q false → left_in t rows q.board < left_in s rows p.board
lighter_in rows (by_brancher k b s) (by_brancher l c t) p q turn = guided_lighter rows s t b c p q turn.1
lighter_in rows (by_cores b s) (by_cores c t) p q turn = core_lighter rows s t b c p q turn
lighter_in rows (in_rounds m) (in_rounds n) p q turn = near_lighter rows m n p q turn
lighter_in rows s t p q turn = absurd turn

-- ---- a worker that knew nothing at first has ended

complete_of : (kind : WorkerKind) → HasBrancher kind → IsComplete kind
complete_of kinds.Fixed h = tt
complete_of kinds.Activity h = tt
complete_of kinds.CoreGuided h = tt
complete_of kinds.Near h = absurd h

sums_of : (kind : WorkerKind) (m : CpModel) (defs : List DefinedSum) → defs ≡ model_sums m → HasSums kind m defs
sums_of kinds.Fixed m defs h = h
sums_of kinds.Activity m defs h = h
sums_of kinds.CoreGuided m defs h = tt
sums_of kinds.Near m defs h = h

same_end : (a b : End) → Some a ≡ Some b → a ≡ b
same_end a b e = cc

-- a turn spends the budget only where it saw that the bounds had not met
spent_open : (chooses : Trail → Option Atom → Type 0) (s t : Search) (rows : ℕ) (p q : Part) (turn : Turn) (end : End) → end_of turn ≡ Some end → TurnCaused chooses s t rows p q turn → SpentOnlyIf (LastSawOpen s.gap q.bounds) end
spent_open chooses s t rows p q turns.Imported end e h = absurd (cc e)
spent_open chooses s t rows p q turns.Decided end e h = absurd (cc e)
spent_open chooses s t rows p q turns.Learnt end e h = absurd (cc e)
spent_open chooses s t rows p q turns.Found end e h = absurd (cc e)
spent_open chooses s t rows p q turns.Exhausted end e h = subst (SpentOnlyIf (LastSawOpen s.gap q.bounds)) (same_end ends.Exhausted end e) tt
spent_open chooses s t rows p q turns.SawClosed end e h = subst (SpentOnlyIf (LastSawOpen s.gap q.bounds)) (same_end ends.SawClosed end e) tt
spent_open chooses s t rows p q (turns.Spent clause below) end e h =
    let saw = h.begins.bounds in
    let is = saw.looks.is in
    subst (SpentOnlyIf (LastSawOpen s.gap q.bounds)) (same_end (ends.Spent clause below) end e) (record {
      lower = saw.lower;
      saw_lower = ap (λ (x : BoundsPart). x.saw_lower) is;
      open_yet = subst (λ (b : Bound). is_closed saw.lower b s.gap ≡ false) (sym (ap (λ (x : BoundsPart). x.saw_upper) is)) saw.open_yet;
    })
spent_open chooses s t rows p q turns.RoundsDone end e h = absurd h
spent_open chooses s t rows p q (turns.Reformed base) end e h = absurd h

-- one with a brancher that goes by what the model says
guided_done : (m : CpModel) (o : Options) (number : ℕ) (kind : WorkerKind) (b c d : Branching) (s u t : Search) (n q : Part) → BeginsGuided m o kind b s → TakesTurnsBy most_rows (s, b) (u, c) newcomer n → TurnedBy most_rows (u, c) (t, d) n q true
    → IsHonestlyDone m o number q.bounds (by_brancher kind d t)
guided_done m o number kind b c d s u t n q begins turns last =
    let e = some_of (end_of last.turn) last.last in
    let first = begins.begins in
    let ends = run_ends (ChoosesAs c) s u t most_rows newcomer n q last.turn e.0 last.before (has_run most_rows (s, b) newcomer (u, c) n turns) last.takes.search e.1 in
    let start = fresh first.instance o.gap (Some o.conflicts) in
    let bare = start_is first.log start in
    let runs = subst (λ (x : Search). RunsTo x t newcomer q e.0) first.is ends in
    let instance : t.instance ≡ first.instance = runs.setting.instance ∙ ap (λ (x : Search). x.instance) bare in
    let before = has_run most_rows (s, b) newcomer (u, c) n turns in
    let gap : u.gap ≡ o.gap = before.setting.gap ∙ ap (λ (x : Search). x.gap) first.is ∙ ap (λ (x : Search). x.gap) bare in
    let logs : is_some (items_of t.log) ≡ keeps_log kind o.log = kept_items t.log ∙ runs.setting.logs ∙ start_logs first.log start refl ∙ first.asked in
    let all : RunsBy most_rows (s, b) (t, d) newcomer q e.0 = record { before = (u, c); part = n; turns = turns; turn = last.turn; last = last.takes; ended = e.1 } in
    let same : guidance_of d ≡ guidance_of b = turn_guided u t c d last.turn last.takes.brancher ∙ turns_guided most_rows (s, b) newcomer (u, c) n turns in
    record {
      end = e.0;
      over = ends.phase;
      honest = subst (λ (x : CpModel). IsHonestEnding x o.gap o.conflicts q.bounds (ending kind (Some (guidance_of d)) e.0 t)) first.first.model
          (honest_ending first.instance o.gap o.conflicts first.log t newcomer q kind (Some (guidance_of d)) e.0 (complete_of kind begins.guided) runs last.after refl refl);
      sums = sums_of kind m t.instance.defs (ap (λ (x : Problem). x.defs) instance ∙ first.first.sums);
      goes = record {
        instance = first.instance;
        is_instance = first.first.sound;
        model = first.first.model;
        sums = sym (ap (λ (x : Problem). x.defs) instance);
        guide = subst (λ (x : Guidance). IsGuidedBy kind first.instance (Some x)) (sym same) (subst (λ (x : Search). IsGuidedBy kind x.instance (Some (guidance_of b))) (first.is ∙ bare) begins.guide);
        decisions = record {
          log = first.log;
          blank = first.blank;
          first = b;
          idle = begins.idle;
          guided = sym same;
          last = d;
          done = t;
          after = q;
          runs = subst (λ (x : Search). RunsBy most_rows (x, b) (t, d) newcomer q e.0) first.is all;
          seen = refl;
        };
        cores = λ is. absurd (subst HasBrancher is begins.guided);
        rounds = λ is. absurd (subst HasBrancher is begins.guided);
        logs = logs;
      };
      looked = λ fixed. subst (λ (n : ℕ). SpentOnlyIf (LastSawOpen n q.bounds) e.0) gap (spent_open (ChoosesAs c) u t most_rows n q last.turn e.0 e.1 last.takes.search.cause);
    }

-- one that went by cores
core_done : (m : CpModel) (o : Options) (number : ℕ) (b c d : Branching) (s u t : CoreSearch) (n q : Part) → BeginsByCores m o.gap o.conflicts b s → TakesCoreTurnsBy most_rows (s, b) (u, c) newcomer n → TurnedByCores most_rows (u, c) (t, d) n q true
    → IsHonestlyDone m o number q.bounds (by_cores d t)
core_done m o number b c d s u t n q begins turns last =
    let e = some_of (end_of last.turn) last.last in
    let first = begins.begins in
    let runs : RunsByCores most_rows (s, b) (t, d) newcomer q e.0 = record { before = (u, c); part = n; turns = turns; turn = last.turn; last = last.takes; ended = e.1 } in
    let run = core-turns-run ChoosesAs HearsAs StaysAs most_rows (s, b) (t, d) newcomer q e.0 runs last.takes.before in
    record {
      end = e.0;
      over = run.phase;
      honest = subst (λ (x : CpModel). IsHonestEnding x o.gap o.conflicts q.bounds (core_ending e.0 t)) first.first.model
          (core-honest ChoosesAs HearsAs StaysAs first.instance o.gap o.conflicts most_rows (s, b) (t, d) newcomer q e.0 first.is runs last.takes.before last.takes.after refl refl);
      sums = tt;
      goes = record {
        instance = t.search.instance;
        is_instance = last.takes.after.search.instance;
        model = run.setting.model ∙ first.is.instance ∙ first.first.model;
        sums = refl;
        guide = tt;
        decisions = tt;
        cores = λ is. record { first = s; idle = b; begins = begins; done = t; last = d; after = q; runs = runs; seen = refl };
        rounds = λ is. absurd (cc is);
        logs = kept_items (whole t).log ∙ ap (λ (l : Option Log). is_some l) last.takes.after.no_log;
      };
      looked = λ fixed. absurd (cc fixed);
    }

-- one that went in rounds
near_done : (m : CpModel) (o : Options) (number : ℕ) (s u t : Near) (n q : Part) → BeginsRounds m o.gap o.conflicts s → DrawsBy o.seed number (in_rounds s) → TakesNearTurns most_rows s newcomer u n → TurnedNear most_rows u t n q true
    → IsHonestlyDone m o number q.bounds (in_rounds t)
near_done m o number s u t n q begins draws turns last =
    let e = some_of (end_of last.turn) last.last in
    let runs : NearRunsInTurns most_rows s t newcomer q e.0 = record { before = last.aimed; part = n; turns = aimed_turns most_rows s newcomer u last.aimed n turns last.aims; turn = last.turn; last = aimed_turn most_rows u t n q true last; ended = e.1 } in
    let run = near_turns_run most_rows s t newcomer q e.0 runs in
    let drawn : BeginsNear begins.instance o.gap o.conflicts (draws_of o.seed (near_stream number)) s =
    subst (λ (g : Lcg). BeginsNear begins.instance o.gap o.conflicts g s) (sym begins.is.draws_are ∙ draws) begins.is in
    let instance : t.search.instance ≡ begins.instance = run.setting.instance ∙ ap (λ (x : Search). x.instance) begins.is.search in
    record {
      end = e.0;
      over = run.phase;
      honest = subst (λ (x : CpModel). IsHonestEnding x o.gap o.conflicts q.bounds (ending kinds.Near None e.0 t.search)) begins.first.model
          (near_honest begins.instance o.gap o.conflicts most_rows begins.draws s t newcomer q e.0 begins.is runs refl refl);
      sums = ap (λ (x : Problem). x.defs) instance ∙ begins.first.sums;
      goes = record {
        instance = begins.instance;
        is_instance = begins.first.sound;
        model = begins.first.model;
        sums = sym (ap (λ (x : Problem). x.defs) instance);
        guide = tt;
        decisions = tt;
        cores = λ is. absurd (cc is);
        rounds = λ is. record { first = s; begins = drawn; done = t; after = q; runs = runs; seen = refl };
        logs = kept_items t.search.log ∙ run.setting.logs ∙ ap (λ (x : Search). is_some x.log) begins.is.search;
      };
      looked = λ fixed. absurd (cc fixed);
    }

done_by : (m : CpModel) (o : Options) (number : ℕ) (s u t : AnySearch) (n q : Part) → BeginsAs m o s → DrawsBy o.seed number s → TakesTurnsAs most_rows s u newcomer n → HasTurned most_rows u t n q true
    → IsHonestlyDone m o number q.bounds t
done_by m o number (by_brancher k g s) (by_brancher l h u) (by_brancher r i t) n q begins draws turns last =
    subst (λ (x : WorkerKind). IsHonestlyDone m o number q.bounds (by_brancher x i t)) (sym (last.0 ∙ turns.0))
    (guided_done m o number k g h i s u t n q begins turns.1 last.1)
done_by m o number (by_cores g s) (by_cores h u) (by_cores i t) n q begins draws turns last =
    core_done m o number g h i s u t n q begins turns last
done_by m o number (in_rounds s) (in_rounds u) (in_rounds t) n q begins draws turns last = near_done m o number s u t n q begins draws turns last
done_by m o number (by_brancher k g s) (by_brancher l h u) (by_cores i t) n q begins draws turns last = absurd last
done_by m o number (by_brancher k g s) (by_brancher l h u) (in_rounds t) n q begins draws turns last = absurd last
done_by m o number (by_brancher k g s) (by_cores h u) t n q begins draws turns last = absurd turns
done_by m o number (by_brancher k g s) (in_rounds u) t n q begins draws turns last = absurd turns
done_by m o number (by_cores g s) (by_cores h u) (by_brancher r i t) n q begins draws turns last = absurd last
done_by m o number (by_cores g s) (by_cores h u) (in_rounds t) n q begins draws turns last = absurd last
done_by m o number (by_cores g s) (by_brancher l h u) t n q begins draws turns last = absurd turns
done_by m o number (by_cores g s) (in_rounds u) t n q begins draws turns last = absurd turns
done_by m o number (in_rounds s) (in_rounds u) (by_brancher r i t) n q begins draws turns last = absurd last
done_by m o number (in_rounds s) (in_rounds u) (by_cores i t) n q begins draws turns last = absurd last
done_by m o number (in_rounds s) (by_brancher l h u) t n q begins draws turns last = absurd turns
done_by m o number (in_rounds s) (by_cores h u) t n q begins draws turns last = absurd turns

pub done_from : (m : CpModel) (o : Options) (number : ℕ) (s t : AnySearch) (q : Part) → BeginsAs m o s → DrawsBy o.seed number s → HasEnded most_rows s t newcomer q → IsHonestlyDone m o number q.bounds t
done_from m o number s t q begins draws h = done_by m o number s h.before t h.part q begins draws h.turns h.last
