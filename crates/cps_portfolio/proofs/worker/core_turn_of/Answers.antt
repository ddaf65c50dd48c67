-- The turn goes by what is seen of the brancher; what is found is a solution of the pool's model.
use Rattle.std.proofs.Common.{◌≡◌, ◌∙◌, refl, sym, subst}
use Rattle.std.specs.Prelude.{is_some}
use Rattle.std.proofs.lemmas.Result.{IfOk-weaker}
use Rattle.cps_search.specs.declared.turn.Turn.{Turn}
use Rattle.cps_search.specs.Ends.{end_of}
use Rattle.cps_core_guided.specs.CoreTurns.{CoreCaused}
use Rattle.cps_core_guided.proofs.CoreRuns.{one-core-turn}
use Rattle.cps_crew.specs.Workers.{TurnedByCores}
use Rattle.cps_portfolio.proofs.Found.{found_is, puts_found, stays_best_by_cores}
use Rattle.cps_portfolio.proofs.GuidedTurns.{core_turn_by}
use Rattle.cps_portfolio.proofs.worker.core_turn_of.Goals as goal

pub note_turn-requires : goal.note_turn-requires
note_turn-requires g c =
    let k = c.in_ok-turn.ensures in
    let t = c.turn.new.self.0 in
    found_is (g.F.Pool.model c.args.pool.now) t.search c.best.result k.sound.1.search (k.turn.setting.model ∙ sym c.requires.pool) c.best.ensures.some

pub returns-clause-turn : goal.returns-clause-turn
returns-clause-turn g c =
    let k = c.in_ok-turn.ensures in
    let s = c.args.worker.now in
    let t = c.turn.new.self in
    let p = g.Q.Port.part c.args.port.now in
    let q = g.Q.Port.part c.turn.new.port in
    let rows = g.Q.Port.rows c.args.port.now in
    let turn = c.in_ok-turn.turn in
    let one = one-core-turn g.B.Brancher.chooses g.B.Brancher.hears g.B.Brancher.stays rows rows s t p q turn refl k.sound k.turn k.brancher in
    let takes = core_turn_by g.B.Brancher.branching g.B.Brancher.chooses g.B.Brancher.hears g.B.Brancher.stays g.met.B.Brancher.chooses_as g.met.B.Brancher.hears_as g.met.B.Brancher.stays_as
    rows s t p q turn one in
    IfOk-weaker c.note_turn.result (λ over. over ≡ is_some (end_of turn)) (TurnedByCores rows (s.0, g.B.Brancher.branching s.1) (t.0, g.B.Brancher.branching t.1) p q) (λ over last. record {
      turn = turn;
      takes = takes;
      last = last;
    }) c.note_turn.ensures.last

pub returns-clause-found : goal.returns-clause-found
returns-clause-found g c =
    let k = c.in_ok-turn.ensures in
    let s = c.args.worker.now.0 in
    let t = c.turn.new.self.0 in
    let p = g.Q.Port.part c.args.port.now in
    let q = g.Q.Port.part c.turn.new.port in
    let rows = g.Q.Port.rows c.args.port.now in
    let turn = c.in_ok-turn.turn in
    let chooses = g.B.Brancher.chooses c.args.worker.now.1 in
    puts_found _ _ _ rows s.search t.search p q turn c.best.result c.note_turn.result
    (λ e. (subst (λ (x : Turn). CoreCaused chooses s t rows p q x) e k.turn.cause).caused) (λ n. stays_best_by_cores chooses s t rows p q turn n k.turn.cause)
    c.best.ensures.none c.best.ensures.some c.note_turn.ensures.found c.note_turn.ensures.others
