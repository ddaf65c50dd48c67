-- One worker's turn leaves the others as they were, and less to do.
use Rattle.std.proofs.Common.{rules, ◌≡◌, ◌<◌, ℕ, IsTrue, None, false, get_or, refl, sym, ap, subst, ◌∙◌, List}
use Rattle.rand_pcg.specs.Lcg.{Lcg}
use mathlib.Core.Logic.{dite}
use native.Mathlib.Decide.{ℕ_discrete}
use Rattle.cps_port.proofs.ActorEvents.{others_stay}
use Rattle.cps_port.specs.declared.part.Part.{Part}
use Rattle.cps_port.specs.Entries.{most_rows}
use Rattle.cps_port.specs.Shared.{part_at, board_part}
use Rattle.cps_crew.specs.declared.interleaved.Turning.{Turning}
use Rattle.cps_crew.specs.Workers.{HasTurned}
use Rattle.cps_crew.specs.Turning.{TakesDrawnTurns, none_yet, words_of_seed}
use Rattle.cps_crew.proofs.DrawnTurns.{all_turn_on, all_lighter, at_work, drawn_length, drawn_more, work_imported, work_memory, work_model}
use Rattle.cps_crew.proofs.interleaved.take_turns.Goals as goal

pub turns-init : goal.turns-init
turns-init g c =
    let core = c.args.port.now.core.now in
    let crew : List (Turning _) = c.args.crew.now in
    let seed = words_of_seed c.args.options.now.seed in
    record {
      count = refl;
      model = refl;
      rows = c.requires.rows;
      idle = c.requires.idle;
      pool = c.requires.pool;
      is_read = refl;
      crew = c.requires.crew;
      drawn = subst (λ (w : Lcg). TakesDrawnTurns g.W.Member.known most_rows core crew seed core crew w) (sym c.new-words.ensures) none_yet;
    }

pub take_turn-requires-clause-memory : goal.take_turn-requires-clause-memory
take_turn-requires-clause-memory g c =
    let core = c.turns.port.core.now in
    let crew : List (Turning _) = c.turns.crew in
    let k = c.place_of-place.result in
    let d : Turning _ = c.index-crew-place.result in
    let i = c.turns.invariant in
    let o = c.args.options.now in
    let m = c.args.port.now.core.now.model in
    let work = at_work g.W.Member.known m o core crew k d i.crew c.place_of-place.ensures.within (c.place_of-place.ensures.at_work d) in
    work_memory m o _ _ _ work

pub take_turn-requires-clause-running : goal.take_turn-requires-clause-running
take_turn-requires-clause-running g c =
    let core = c.turns.port.core.now in
    let crew : List (Turning _) = c.turns.crew in
    let k = c.place_of-place.result in
    let d : Turning _ = c.index-crew-place.result in
    let i = c.turns.invariant in
    let o = c.args.options.now in
    let m = c.args.port.now.core.now.model in
    let work = at_work g.W.Member.known m o core crew k d i.crew c.place_of-place.ensures.within (c.place_of-place.ensures.at_work d) in
    work.running

pub take_turn-requires-clause-model : goal.take_turn-requires-clause-model
take_turn-requires-clause-model g c =
    let core = c.turns.port.core.now in
    let crew : List (Turning _) = c.turns.crew in
    let k = c.place_of-place.result in
    let d : Turning _ = c.index-crew-place.result in
    let i = c.turns.invariant in
    let o = c.args.options.now in
    let m = c.args.port.now.core.now.model in
    let work = at_work g.W.Member.known m o core crew k d i.crew c.place_of-place.ensures.within (c.place_of-place.ensures.at_work d) in
    i.model ∙ sym (work_model m o _ _ _ work)

pub take_turn-requires-clause-pool : goal.take_turn-requires-clause-pool
take_turn-requires-clause-pool g c =
    let core = c.turns.port.core.now in
    let crew : List (Turning _) = c.turns.crew in
    let k = c.place_of-place.result in
    let d : Turning _ = c.index-crew-place.result in
    let i = c.turns.invariant in
    let o = c.args.options.now in
    let m = c.args.port.now.core.now.model in
    let work = at_work g.W.Member.known m o core crew k d i.crew c.place_of-place.ensures.within (c.place_of-place.ensures.at_work d) in
    i.pool ∙ sym (work_model m o _ _ _ work)

pub take_turn-requires-clause-reads : goal.take_turn-requires-clause-reads
take_turn-requires-clause-reads g c =
    let crew : List (Turning _) = c.turns.crew in
    let k = c.place_of-place.result in
    let d : Turning _ = c.index-crew-place.result in
    let i = c.turns.invariant in
    let within = c.place_of-place.ensures.within in
    let kind = (i.crew.each k d within).kind in
    let len = drawn_length g.W.Member.known _ _ _ _ _ _ _ i.drawn in
    λ near. subst IsTrue (sym i.is_read) (c.requires.reads.1 (k, subst (λ (n : ℕ). k < n) len within, sym kind ∙ near))

pub take_turn-requires-clause-imported : goal.take_turn-requires-clause-imported
take_turn-requires-clause-imported g c =
    let core = c.turns.port.core.now in
    let crew : List (Turning _) = c.turns.crew in
    let k = c.place_of-place.result in
    let d : Turning _ = c.index-crew-place.result in
    let i = c.turns.invariant in
    let o = c.args.options.now in
    let m = c.args.port.now.core.now.model in
    let work = at_work g.W.Member.known m o core crew k d i.crew c.place_of-place.ensures.within (c.place_of-place.ensures.at_work d) in
    work_imported m o _ _ _ work

pub turns-smaller : goal.turns-smaller
turns-smaller g c =
    let core = c.turns.port.core.now in
    let next = c.take_turn.new.port.core.now in
    let crew : List (Turning _) = c.turns.crew in
    let k = c.place_of-place.result in
    let d : Turning _ = c.index-crew-place.result in
    let w : Turning _ = get_or crew k d in
    let v : Turning _ = record { worker = c.take_turn.new.worker; over = c.in_ok-turning.field-0 } in
    let at : get_or crew k d ≡ d = search rules in
    let is : get_or crew k w ≡ w = ap (λ (x : Turning _). get_or crew k x) at in
    let still : w.over ≡ false = c.place_of-place.ensures.at_work d in
    let turn = subst (λ (n : ℕ). HasTurned n (g.W.Member.known w.worker) (g.W.Member.known v.worker) (part_at core k) (part_at next k) v.over) c.turns.invariant.rows c.in_ok-turning.ensures.turn in
    let others = (others_stay _ _ _ _ c.take_turn.ensures.alone).parts in
    all_lighter g.W.Member.known most_rows core next crew k w v c.place_of-place.ensures.within is still turn others

pub turns-preserved : goal.turns-preserved
turns-preserved g c =
    let core = c.turns.port.core.now in
    let next = c.take_turn.new.port.core.now in
    let crew : List (Turning _) = c.turns.crew in
    let k = c.place_of-place.result in
    let d : Turning _ = c.index-crew-place.result in
    let w : Turning _ = get_or crew k d in
    let v : Turning _ = record { worker = c.take_turn.new.worker; over = c.in_ok-turning.field-0 } in
    let at : get_or crew k d ≡ d = search rules in
    let is : get_or crew k w ≡ w = ap (λ (x : Turning _). get_or crew k x) at in
    let still : w.over ≡ false = c.place_of-place.ensures.at_work d in
    let turn = subst (λ (n : ℕ). HasTurned n (g.W.Member.known w.worker) (g.W.Member.known v.worker) (part_at core k) (part_at next k) v.over) c.turns.invariant.rows c.in_ok-turning.ensures.turn in
    let others = (others_stay _ _ _ _ c.take_turn.ensures.alone).parts in
    let i = c.turns.invariant in
    let o = c.args.options.now in
    let t = c.take_turn.ensures in
    record {
      count = (others_stay _ _ _ _ t.alone).count ∙ i.count;
      model = t.same.0 ∙ i.model;
      rows = t.same.1 ∙ i.rows;
      idle = λ j. dite (ℕ_discrete j k) (λ e. subst (λ (n : ℕ). (board_part next.board n).drawn ≡ None) (sym e) t.idle) (λ n. ap (λ (p : Part). p.board.drawn) (others j n) ∙ i.idle j);
      pool = t.pool ∙ i.pool;
      is_read = t.is_read ∙ i.is_read;
      crew = all_turn_on g.W.Member.known c.args.port.now.core.now.model o core next crew k w v i.crew c.place_of-place.ensures.within is still t.kind turn others;
      drawn = drawn_more g.W.Member.known _ c.args.port.now.core.now c.args.crew.now _ core next crew v c.turns.words c.next_word-word.new.self c.next_word-word.result c.count_at_work-count.result k d i.drawn
          c.next_word-word.ensures c.count_at_work-count.ensures.count c.if-count-eq0.false c.place_of-place.ensures.place c.place_of-place.ensures.within turn t.alone;
    }
