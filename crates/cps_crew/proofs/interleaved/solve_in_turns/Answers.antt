-- All workers have ended, and the words are those of the state.
use Rattle.std.proofs.Common.{rules, ◌≡◌, ◌↔◌, ℕ, Bool, IsTrue, length, map, sym, ap, subst, ◌∙◌, List, All}
use Rattle.std.proofs.lemmas.Result.{IfOk-weaker}
use Rattle.cps_model.specs.declared.model.CpModel.{CpModel}
use Rattle.cps_model.specs.declared.bound.Bound.{Bound}
use Rattle.cps_pool.specs.Pools.{Found}
use Rattle.cps_port.specs.Entries.{most_rows}
use Rattle.cps_port.specs.Shared.{Shared, actor_count, first_shared}
use Rattle.cps_search.specs.Ends.{Ending, IsOver}
use Rattle.cps_crew.specs.declared.interleaved.Turning.{Turning}
use Rattle.cps_crew.specs.declared.outcome.Outcome.{Outcome}
use Rattle.cps_crew.specs.Workers.{search_in, SearchesNear}
use Rattle.cps_crew.specs.Outcomes.{CameTo}
use Rattle.cps_crew.specs.Turning.{AreFresh, AreTurning, IsDrawnBy, TakesDrawnTurns, ended_of, words_of_seed}
use Rattle.cps_crew.proofs.Crews.{written}
use Rattle.cps_crew.proofs.AloneBounds.{SeesAll, first_sees}
use Rattle.cps_crew.proofs.AloneTurns.{sees_turns}
use Rattle.cps_crew.proofs.DrawnTurns.{all_fresh, first_rows, each_over, came_in_turns}
use Rattle.cps_crew.proofs.interleaved.solve_in_turns.Goals as goal

pub take_turns-turns-requires-clause-crew : goal.take_turns-turns-requires-clause-crew
take_turns-turns-requires-clause-crew g c =
    let o = c.args.options.now in
    let m = c.args.model.now in
    let core = c.in_ok-core.core in
    let first = c.in_ok-core.ensures.first in
    let model : core.model ≡ m = ap (λ (x : Shared). x.model) first in
    let crew = subst (λ (l : List (Turning _)). AreFresh g.W.Member.known m o l) (sym c.as_mut_slice.ensures.value) c.in_ok-crew.ensures.each in
    subst (λ (x : CpModel). AreTurning g.W.Member.known x o core c.as_mut_slice.result.now) (sym model)
    (all_fresh g.W.Member.known m o o.workers most_rows core c.as_mut_slice.result.now first crew)

pub take_turns-turns-requires-clause-rows : goal.take_turns-turns-requires-clause-rows
take_turns-turns-requires-clause-rows g c = ap (λ (x : Shared). length x.board.rows) c.in_ok-core.ensures.first ∙ first_rows c.args.model.now c.args.options.now.workers most_rows

pub take_turns-turns-requires-clause-pool : goal.take_turns-turns-requires-clause-pool
take_turns-turns-requires-clause-pool g c = ap (λ (x : Found). x.model) c.new-pool.ensures ∙ sym (ap (λ (x : Shared). x.model) c.in_ok-core.ensures.first)

pub take_turns-turns-requires-clause-reads : goal.take_turns-turns-requires-clause-reads
take_turns-turns-requires-clause-reads g c =
    let o = c.args.options.now in
    let xs : List (Turning _) = c.in_ok-crew.crew.items in
    let full : c.in_ok-crew.crew.len ≡ length xs = search rules in
    let workers : length c.as_mut_slice.result.now ≡ o.workers = ap (λ (l : List (Turning _)). length l) c.as_mut_slice.ensures.value ∙ sym full ∙ c.in_ok-crew.ensures.count in
    let read = ap (λ (x : Found). x.is_read) c.new-pool.ensures in
    subst (λ (n : ℕ). IsTrue c.new-pool.result.is_read ↔ SearchesNear n) (sym workers) (subst (λ (b : Bool). IsTrue b ↔ SearchesNear o.workers) (sym read) c.reads_pool.ensures)

pub finish_all-requires : goal.finish_all-requires
finish_all-requires g c =
    let o = c.args.options.now in
    let xs : List (Turning _) = c.in_ok-crew.crew.items in
    let ys : List (Turning _) = c.take_turns-turns.new.crew in
    let len : length ys ≡ length xs = c.take_turns-turns.ensures.len ∙ ap (λ (l : List (Turning _)). length l) c.as_mut_slice.ensures.value in
    let full : c.in_ok-crew.crew.len ≡ length xs = search rules in
    let w = written c.in_ok-crew.crew.len xs ys full len in
    let t = c.in_ok-turns.ensures in
    subst (λ (l : List (Turning _)). All (λ (x : Turning _). IsOver (search_in (g.W.Member.known x.worker)).phase) l) (sym w) (each_over g.W.Member.known c.in_ok-core.core.model o c.take_turns-turns.new.port.core.now ys t.crew t.over)

pub outcome_of-requires-clause-came : goal.outcome_of-requires-clause-came
outcome_of-requires-clause-came g c =
    let o = c.args.options.now in
    let m = c.args.model.now in
    let first = c.in_ok-core.ensures.first in
    let model : c.in_ok-core.core.model ≡ m = ap (λ (x : Shared). x.model) first in
    let xs : List (Turning _) = c.in_ok-crew.crew.items in
    let ys : List (Turning _) = c.take_turns-turns.new.crew in
    let same : c.as_mut_slice.result.now ≡ xs = c.as_mut_slice.ensures.value in
    let len : length ys ≡ length xs = c.take_turns-turns.ensures.len ∙ ap (λ (l : List (Turning _)). length l) same in
    let full : c.in_ok-crew.crew.len ≡ length xs = search rules in
    let w = written c.in_ok-crew.crew.len xs ys full len in
    let t = c.in_ok-turns.ensures in
    let core = c.take_turns-turns.new.port.core.now in
    let workers : length ys ≡ o.workers = len ∙ sym full ∙ c.in_ok-crew.ensures.count in
    let actors : actor_count core ≡ length ys = t.count ∙ c.take_turns-turns.ensures.actors in
    let turning = subst (λ (x : CpModel). AreTurning g.W.Member.known x o core ys) model t.crew in
    let ends : c.in_ok-ends.ends.items ≡ map (ended_of g.W.Member.known) ys = c.in_ok-ends.ensures ∙ ap (map (ended_of g.W.Member.known)) w in
    let before : length c.as_mut_slice.result.now ≡ o.workers = ap (λ (l : List (Turning _)). length l) same ∙ sym full ∙ c.in_ok-crew.ensures.count in
    let alone : IsTrue o.log → SeesAll core.bounds = λ asked.
    let one = (c.requires.range.log asked).workers in
    sees_turns g.W.Member.known most_rows c.in_ok-core.core c.as_mut_slice.result.now (words_of_seed o.seed) core ys t.drawn.0 t.drawn.1 (before ∙ one)
    (subst (λ (x : Shared). SeesAll x.bounds) (sym first) (first_sees m o.workers most_rows one)) in
    let came = came_in_turns g.W.Member.known m o core ys c.upper-upper.ensures.sound (t.same ∙ model) workers actors turning t.over alone in
    let upper = c.upper-upper.ensures.bound in
    let lower : c.lower-lower.result ≡ core.bounds.lower = c.lower-lower.ensures in
    subst (λ (es : List Ending). CameTo m o c.upper-upper.result c.lower-lower.result es) (sym ends)
    (subst (λ (u : Bound). CameTo m o u c.lower-lower.result (map (ended_of g.W.Member.known) ys)) (sym upper)
    (subst (λ (l : Bound). CameTo m o core.bounds.upper l (map (ended_of g.W.Member.known) ys)) (sym lower) came))

pub returns-clause-drawn : goal.returns-clause-drawn
returns-clause-drawn g c =
    let o = c.args.options.now in
    let m = c.args.model.now in
    let first = c.in_ok-core.ensures.first in
    let xs : List (Turning _) = c.in_ok-crew.crew.items in
    let ys : List (Turning _) = c.take_turns-turns.new.crew in
    let same : c.as_mut_slice.result.now ≡ xs = c.as_mut_slice.ensures.value in
    let len : length ys ≡ length xs = c.take_turns-turns.ensures.len ∙ ap (λ (l : List (Turning _)). length l) same in
    let full : c.in_ok-crew.crew.len ≡ length xs = search rules in
    let w = written c.in_ok-crew.crew.len xs ys full len in
    let t = c.in_ok-turns.ensures in
    let core = c.take_turns-turns.new.port.core.now in
    let seed = words_of_seed o.seed in
    let by_core = subst (λ (x : Shared). TakesDrawnTurns g.W.Member.known most_rows x c.as_mut_slice.result.now seed core ys t.drawn.0) first t.drawn.1 in
    let run : IsDrawnBy g.W.Member.known m o most_rows c.in_ok-ends.ends.items = record {
      crew = xs;
      count = sym full ∙ c.in_ok-crew.ensures.count;
      begins = c.in_ok-crew.ensures.each;
      core = core;
      last = ys;
      words = t.drawn.0;
      turns = subst (λ (l : List (Turning _)). TakesDrawnTurns g.W.Member.known most_rows (first_shared m o.workers most_rows) l seed core ys t.drawn.0) same by_core;
      all_over = t.over;
      seen = c.in_ok-ends.ensures ∙ ap (map (ended_of g.W.Member.known)) w;
    } in
    IfOk-weaker c.outcome_of.result _ (λ (x : Outcome). IsDrawnBy g.W.Member.known m o most_rows x.ends) (λ x is. subst (IsDrawnBy g.W.Member.known m o most_rows) (sym is) run) c.outcome_of.ensures.ends
