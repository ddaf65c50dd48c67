-- A turn decides in the round, hears what was learnt, or looks what is left; where all rounds are done it ends.
use Rattle.std.proofs.Common.{◌<◌, ◌≡◌, ◌∙◌, Option, Some, min, refl, sym, ap, subst, arith}
use Rattle.cps_search.specs.declared.turn.Turn.{Turn}
use Rattle.cps_search.specs.declared.turn.Turn.TheVariants.{Learnt}
use Rattle.cps_search.specs.Ends.{round_count}
use Rattle.cps_search.specs.Searches.{IsSoundSearch, Search}
use Rattle.cps_search.specs.Turns.{Steps}
use Rattle.cps_neighbourhood.specs.Nears.{Near}
use Rattle.cps_neighbourhood.specs.Exploring.{near_of}
use Rattle.cps_neighbourhood.specs.Standing.{held_to}
use Rattle.cps_neighbourhood.proofs.LearntTurns.{explores_learnt, few_learnt, turn_learnt}
use Rattle.cps_neighbourhood.proofs.TurnCauses.{explores_done, explores_due, explores_other, turn_decided, turn_done, turn_other}
use Rattle.cps_neighbourhood.proofs.explorer.Explorer.turn.Goals as goal

pub decide-requires-clause-exploring : goal.decide-requires-clause-exploring
decide-requires-clause-exploring g c =
    let x = c.args.self.now in
    let m = c.steps.new.self in
    let steps = subst (λ (o : Option Turn). Steps x.frame m (g.Q.Port.rows c.args.port.now) (g.Q.Port.part c.args.port.now) (g.Q.Port.part c.steps.new.port) o) c.in-None.is c.in_ok-steps.ensures.steps in
    explores_due x (record x { frame = m }) _ _ _ c.requires.exploring c.requires.running c.in_ok-steps.ensures.sound.1 steps refl refl refl refl refl refl refl

pub returns-in_ok-decide-in-None-clause-turn : goal.returns-in_ok-decide-in-None-clause-turn
returns-in_ok-decide-in-None-clause-turn g c =
    let x = c.args.self.now in
    let m = c.steps.new.self in
    let steps = subst (λ (o : Option Turn). Steps x.frame m (g.Q.Port.rows c.args.port.now) (g.Q.Port.part c.args.port.now) (g.Q.Port.part c.steps.new.port) o) c.in-None.is c.in_ok-steps.ensures.steps in
    let left : x.rounds < round_count x.conflicts = omega (arith, c.if-self-round_count.false, c.round_count.ensures, c.requires.exploring.rounds) in
    turn_decided _ _ m _ _ _ left c.in_ok-steps.ensures.sound.0 steps c.in_ok-decide-in-None.ensures.decides

pub returns-in-Learnt-clause-turn : goal.returns-in-Learnt-clause-turn
returns-in-Learnt-clause-turn g c =
    let x = c.args.self.now in
    let m = c.steps.new.self in
    let k = c.hear.ensures in
    let steps : Steps x.frame m (g.Q.Port.rows c.args.port.now) (g.Q.Port.part c.args.port.now) (g.Q.Port.part c.steps.new.port) (Some Learnt) =
    subst (λ (o : Option Turn). Steps x.frame m (g.Q.Port.rows c.args.port.now) (g.Q.Port.part c.args.port.now) (g.Q.Port.part c.steps.new.port) o) (c.in-Some.is ∙ ap (λ (t : Turn). Some t) c.in-Learnt.is) c.in_ok-steps.ensures.steps in
    let left : x.rounds < round_count x.conflicts = omega (arith, c.if-self-round_count.false, c.round_count.ensures, c.requires.exploring.rounds) in
    turn_learnt x c.hear.new.self m _ _ _ c.requires.exploring c.requires.running left steps k.ends k.goes_on k.rest c.in_ok-steps.ensures.sound.0 k.heard

pub returns-in-Learnt-clause-exploring : goal.returns-in-Learnt-clause-exploring
returns-in-Learnt-clause-exploring g c =
    let x = c.args.self.now in
    let m = c.steps.new.self in
    let k = c.hear.ensures in
    let steps : Steps x.frame m (g.Q.Port.rows c.args.port.now) (g.Q.Port.part c.args.port.now) (g.Q.Port.part c.steps.new.port) (Some Learnt) =
    subst (λ (o : Option Turn). Steps x.frame m (g.Q.Port.rows c.args.port.now) (g.Q.Port.part c.args.port.now) (g.Q.Port.part c.steps.new.port) o) (c.in-Some.is ∙ ap (λ (t : Turn). Some t) c.in-Learnt.is) c.in_ok-steps.ensures.steps in
    let left : x.rounds < round_count x.conflicts = omega (arith, c.if-self-round_count.false, c.round_count.ensures, c.requires.exploring.rounds) in
    explores_learnt x c.hear.new.self m _ _ _ c.requires.exploring c.requires.running left steps k.ends k.goes_on k.rest
    (k.sound (steps.setting.refused ∙ c.requires.exploring.running) c.in_ok-steps.ensures.sound.1) k.size k.kept k.saw

pub returns-in_default : goal.returns-in_default
returns-in_default g c =
    let x = c.args.self.now in
    let m = c.steps.new.self in
    let y = c.note_backjump.new.self in
    let k = c.note_backjump.ensures in
    let turn = c.in-Some.turn in
    let steps : Steps x.frame m (g.Q.Port.rows c.args.port.now) (g.Q.Port.part c.args.port.now) (g.Q.Port.part c.steps.new.port) (Some turn) =
    subst (λ (o : Option Turn). Steps x.frame m (g.Q.Port.rows c.args.port.now) (g.Q.Port.part c.args.port.now) (g.Q.Port.part c.steps.new.port) o) c.in-Some.is c.in_ok-steps.ensures.steps in
    let frame : y.frame ≡ m = ap (λ (n : Near). n.search) k.rest in
    let all : Steps x.frame y.frame (g.Q.Port.rows c.args.port.now) (g.Q.Port.part c.args.port.now) (g.Q.Port.part c.steps.new.port) (Some turn) =
    subst (λ (s : Search). Steps x.frame s (g.Q.Port.rows c.args.port.now) (g.Q.Port.part c.args.port.now) (g.Q.Port.part c.steps.new.port) (Some turn)) (sym frame) steps in
    let left : x.rounds < round_count x.conflicts = omega (arith, c.if-self-round_count.false, c.round_count.ensures, c.requires.exploring.rounds) in
    record {
      keeps = c.steps.ensures.keeps;
      turn = turn_other (near_of x) (near_of y) _ _ _ turn left c.in_ok-steps.ensures.sound.0 c.requires.exploring.budget all c.in_default.not-Learnt
          (record { rounds = ap (λ (n : Near). n.rounds) k.rest; round = ap (λ (n : Near). n.round) k.rest; draws = ap (λ (n : Near). n.draws) k.rest; brancher = ap (λ (n : Near). n.brancher) k.rest })
          (ap (λ (n : Near). n.conflicts) k.rest) (ap (λ (n : Near). n.aim) k.rest);
      exploring = explores_other x y _ _ _ turn c.requires.exploring c.requires.running (subst (λ (s : Search). IsSoundSearch s) (sym frame) c.in_ok-steps.ensures.sound.1) all c.in_default.not-Learnt c.requires.imported (g.met.Q.Port.few c.args.port.now)
          (ap (λ (n : Near). n.brancher) k.rest) k.kept (ap (λ (n : Near). n.conflicts) k.rest) k.same.0 (ap (λ (n : Near). n.rounds) k.rest) k.same.1 k.decisions k.learnt (k.held.0 ∙ ap (λ (s : Search). min x.round.assumed s.store.level) (sym frame)) (k.held.1 ∙ ap (λ (s : Search). held_to x.round s.store.level) (sym frame)) k.place;
    }

pub decide-requires-clause-settled : goal.decide-requires-clause-settled
decide-requires-clause-settled g c =
    let steps = subst (λ (o : Option Turn). Steps c.args.self.now.frame c.steps.new.self (g.Q.Port.rows c.args.port.now) (g.Q.Port.part c.args.port.now) (g.Q.Port.part c.steps.new.port) o) c.in-None.is c.in_ok-steps.ensures.steps in
    steps.cause.settled

pub decide-requires-clause-left_open : goal.decide-requires-clause-left_open
decide-requires-clause-left_open g c =
    let steps = subst (λ (o : Option Turn). Steps c.args.self.now.frame c.steps.new.self (g.Q.Port.rows c.args.port.now) (g.Q.Port.part c.args.port.now) (g.Q.Port.part c.steps.new.port) o) c.in-None.is c.in_ok-steps.ensures.steps in
    steps.cause.left_open

pub decide-requires-clause-due : goal.decide-requires-clause-due
decide-requires-clause-due g c =
    let steps = subst (λ (o : Option Turn). Steps c.args.self.now.frame c.steps.new.self (g.Q.Port.rows c.args.port.now) (g.Q.Port.part c.args.port.now) (g.Q.Port.part c.steps.new.port) o) c.in-None.is c.in_ok-steps.ensures.steps in
    steps.cause.phase

pub hear-requires-clause-learnt : goal.hear-requires-clause-learnt
hear-requires-clause-learnt g c =
    let x = c.args.self.now in
    let m = c.steps.new.self in
    let steps : Steps x.frame m (g.Q.Port.rows c.args.port.now) (g.Q.Port.part c.args.port.now) (g.Q.Port.part c.steps.new.port) (Some Learnt) =
    subst (λ (o : Option Turn). Steps x.frame m (g.Q.Port.rows c.args.port.now) (g.Q.Port.part c.args.port.now) (g.Q.Port.part c.steps.new.port) o) (c.in-Some.is ∙ ap (λ (t : Turn). Some t) c.in-Learnt.is) c.in_ok-steps.ensures.steps in
    few_learnt x m _ _ _ c.requires.exploring c.requires.running steps.cause.0

pub returns-then-self-round_count-clause-turn : goal.returns-then-self-round_count-clause-turn
returns-then-self-round_count-clause-turn g c =
    let x = c.args.self.now in
    turn_done (near_of x) c.end_rounds.new.self _ _ _ c.end_rounds.result c.requires.exploring.no_log (c.if-self-round_count.true ∙ c.round_count.ensures) c.end_rounds.ensures.ends

pub returns-then-self-round_count-clause-exploring : goal.returns-then-self-round_count-clause-exploring
returns-then-self-round_count-clause-exploring g c =
    explores_done c.args.self.now c.end_rounds.new.self _ _ c.end_rounds.result c.requires.exploring c.end_rounds.ensures.sound.1 c.end_rounds.ensures.ends

pub returns-in_ok-decide-in-None-clause-keeps : goal.returns-in_ok-decide-in-None-clause-keeps
returns-in_ok-decide-in-None-clause-keeps g c =
    c.in_ok-steps.ensures.keeps
