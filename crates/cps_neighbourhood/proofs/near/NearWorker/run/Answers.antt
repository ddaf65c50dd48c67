-- A run is its turns one after another, the last of which ends it.
use Rattle.std.proofs.Common.{◌∙◌, ◌+◌, ◌<◌, ℕ, [], Option, sym, subst}
use Rattle.cps_instance.specs.Problem.{Problem}
use Rattle.cps_trail.specs.Trail.{open_values}
use Rattle.cps_search.specs.declared.end.End.{End}
use Rattle.cps_search.specs.Ends.{EndsAs}
use Rattle.cps_neighbourhood.specs.Nears.{none_yet, one_more}
use Rattle.cps_neighbourhood.proofs.LearntCounts.{near_begins, near_ends, near_goes_on, one_near_turn}
use Rattle.cps_neighbourhood.proofs.RoundTermination.{near_left, near_lowered}
use Rattle.cps_search.proofs.Keeps.{keeps_none, keeps_then}
use Rattle.cps_neighbourhood.proofs.near.NearWorker.run.Goals as goal

pub returns-in-Some-clause-runs : goal.returns-in-Some-clause-runs
returns-in-Some-clause-runs g c =
    let k = c.in_ok-turn.ensures in
    near_ends c.args.self.now c.turns.self c.turn.new.self _ _ _ _ c.in_ok-turn.turn c.in-Some.end k.sound.0 c.turns.invariant.run k.turn (sym c.end_of.ensures ∙ c.in-Some.is)

pub returns-in-Some-clause-turns : goal.returns-in-Some-clause-turns
returns-in-Some-clause-turns g c =
    let k = c.in_ok-turn.ensures in
    let i = c.turns.invariant in
    record {
      before = c.turns.self;
      part = g.Q.Port.part c.turns.port;
      turns = i.turns;
      turn = c.in_ok-turn.turn;
      last = one_near_turn _ _ c.turns.self c.turn.new.self (g.Q.Port.part c.turns.port) (g.Q.Port.part c.turn.new.port) c.in_ok-turn.turn i.keeps.rows k.sound k.turn;
      ended = sym c.end_of.ensures ∙ c.in-Some.is;
    }

pub turns-smaller : goal.turns-smaller
turns-smaller g c =
    let t = c.turns.self in
    let u = c.turn.new.self in
    let k = c.in_ok-turn.ensures in
    let i = c.turns.invariant in
    let p = (g.Q.Port.part c.turns.port).board in
    let q = (g.Q.Port.part c.turn.new.port).board in
    let less = near_lowered t u (g.Q.Port.rows c.turns.port) p q k.sound.0 k.sound.1 k.turn.setting k.turn.conflicts k.budget (k.turn.lowers (sym c.end_of.ensures ∙ c.in_default.is)) in
    subst (λ (n : ℕ). near_left (open_values c.args.self.now.search.instance.domains [] + 1) u n q < near_left (open_values c.args.self.now.search.instance.domains [] + 1) t n p) i.keeps.rows
    (subst (λ (x : Problem). near_left (open_values x.domains [] + 1) u (g.Q.Port.rows c.turns.port) q < near_left (open_values x.domains [] + 1) t (g.Q.Port.rows c.turns.port) p) i.run.run.setting.instance less)

pub turns-init : goal.turns-init
turns-init g c = record {
  running = c.requires.running;
  run = near_begins c.args.self.now (g.Q.Port.part c.args.port.now);
  turns = none_yet;
  keeps = keeps_none _ _ _ g.met.Q.Port.unmoved _;
}

pub turns-preserved : goal.turns-preserved
turns-preserved g c =
    let k = c.in_ok-turn.ensures in
    let i = c.turns.invariant in
    record {
      running = subst (λ (o : Option End). EndsAs o c.turn.new.self.search) (sym c.end_of.ensures ∙ c.in_default.is) k.turn.ends;
      run = near_goes_on c.args.self.now c.turns.self c.turn.new.self _ _ _ _ c.in_ok-turn.turn (sym c.end_of.ensures ∙ c.in_default.is) i.run k.turn;
      turns = one_more c.turns.self c.turn.new.self (g.Q.Port.part c.turns.port) (g.Q.Port.part c.turn.new.port) c.in_ok-turn.turn i.turns (sym c.end_of.ensures ∙ c.in_default.is)
          (one_near_turn _ _ c.turns.self c.turn.new.self (g.Q.Port.part c.turns.port) (g.Q.Port.part c.turn.new.port) c.in_ok-turn.turn i.keeps.rows k.sound k.turn);
      keeps = keeps_then _ _ _ g.met.Q.Port.moved_on _ _ _ i.keeps k.keeps;
    }

pub returns-in-Some-clause-keeps : goal.returns-in-Some-clause-keeps
returns-in-Some-clause-keeps g c = keeps_then _ _ _ g.met.Q.Port.moved_on _ _ _ c.turns.invariant.keeps c.in_ok-turn.ensures.keeps

pub returns-in_err-turn-clause-keeps : goal.returns-in_err-turn-clause-keeps
returns-in_err-turn-clause-keeps g c =
    keeps_then _ _ _ g.met.Q.Port.moved_on _ _ _ c.turns.invariant.keeps c.turn.ensures.keeps
