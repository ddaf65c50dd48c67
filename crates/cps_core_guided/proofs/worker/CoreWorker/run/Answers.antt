-- A run is its turns one after another, the last of which ends it.
use Rattle.std.proofs.Common.{◌∙◌, ◌<◌, ℕ, Option, refl, sym, subst}
use Rattle.cps_search.specs.declared.end.End.{End}
use Rattle.cps_search.specs.Ends.{EndsAs}
use Rattle.cps_core_guided.specs.CoreTurns.{no_turn, one_turn_more}
use Rattle.cps_core_guided.specs.Reforming.{whole}
use Rattle.cps_core_guided.proofs.CoreTermination.{core_left, core_lowered}
use Rattle.cps_core_guided.proofs.CoreRuns.{core-begins, core-ends, core-goes-on, one-core-turn}
use Rattle.cps_search.proofs.Keeps.{keeps_none, keeps_then}
use Rattle.cps_core_guided.proofs.worker.CoreWorker.run.Goals as goal

pub returns-in-Some-clause-runs : goal.returns-in-Some-clause-runs
returns-in-Some-clause-runs g c =
    let k = c.in_ok-turn.ensures in
    core-ends _ c.args.self.now.0 c.turns.self.0 c.turn.new.self.0 _ _ _ _ c.in_ok-turn.turn c.in-Some.end k.sound.0 c.turns.invariant.run k.turn (sym c.end_of.ensures ∙ c.in-Some.is)

pub returns-in-Some-clause-turns : goal.returns-in-Some-clause-turns
returns-in-Some-clause-turns g c =
    let k = c.in_ok-turn.ensures in
    let i = c.turns.invariant in
    record {
      before = c.turns.self;
      part = g.Q.Port.part c.turns.port;
      turns = i.turns;
      turn = c.in_ok-turn.turn;
      last = one-core-turn g.B.Brancher.chooses g.B.Brancher.hears g.B.Brancher.stays _ _ c.turns.self c.turn.new.self _ _ c.in_ok-turn.turn i.keeps.rows k.sound k.turn k.brancher;
      ended = sym c.end_of.ensures ∙ c.in-Some.is;
    }

pub turns-smaller : goal.turns-smaller
turns-smaller g c =
    let t = c.turns.self.0 in
    let u = c.turn.new.self.0 in
    let k = c.in_ok-turn.ensures in
    let p = (g.Q.Port.part c.turns.port).board in
    let q = (g.Q.Port.part c.turn.new.port).board in
    subst (λ (n : ℕ). core_left u n q < core_left t n p) c.turns.invariant.keeps.rows
    (core_lowered t u (g.Q.Port.rows c.turns.port) p q k.sound.0 k.sound.1 k.turn.setting (k.turn.lowers (sym c.end_of.ensures ∙ c.in_default.is)))

pub turns-init : goal.turns-init
turns-init g c = record {
  running = c.requires.running;
  run = core-begins c.args.self.now.0 (g.Q.Port.part c.args.port.now);
  turns = no_turn;
  keeps = keeps_none _ _ _ g.met.Q.Port.unmoved _;
  guidance = refl;
}

pub turns-preserved : goal.turns-preserved
turns-preserved g c =
    let k = c.in_ok-turn.ensures in
    let i = c.turns.invariant in
    record {
      running = subst (λ (o : Option End). EndsAs o (whole c.turn.new.self.0)) (sym c.end_of.ensures ∙ c.in_default.is) k.turn.ends;
      run = core-goes-on _ c.args.self.now.0 c.turns.self.0 c.turn.new.self.0 _ _ _ _ c.in_ok-turn.turn i.run k.turn (sym c.end_of.ensures ∙ c.in_default.is);
      turns = one_turn_more c.turns.self c.turn.new.self (g.Q.Port.part c.turns.port) (g.Q.Port.part c.turn.new.port) c.in_ok-turn.turn i.turns (sym c.end_of.ensures ∙ c.in_default.is)
          (one-core-turn g.B.Brancher.chooses g.B.Brancher.hears g.B.Brancher.stays _ _ c.turns.self c.turn.new.self _ _ c.in_ok-turn.turn i.keeps.rows k.sound k.turn k.brancher);
      keeps = keeps_then _ _ _ g.met.Q.Port.moved_on _ _ _ i.keeps k.keeps;
      guidance = k.guidance ∙ i.guidance;
    }

pub returns-in-Some-clause-keeps : goal.returns-in-Some-clause-keeps
returns-in-Some-clause-keeps g c = keeps_then _ _ _ g.met.Q.Port.moved_on _ _ _ c.turns.invariant.keeps c.in_ok-turn.ensures.keeps

pub returns-in_err-turn-clause-keeps : goal.returns-in_err-turn-clause-keeps
returns-in_err-turn-clause-keeps g c = keeps_then _ _ _ g.met.Q.Port.moved_on _ _ _ c.turns.invariant.keeps c.turn.ensures.keeps
