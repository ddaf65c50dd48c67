-- A worker whose memory was not refused is seen as it is, before its turn and after it.
use Rattle.std.proofs.Common.{◌≡◌, ◌∙◌, false, sym, subst}
use Rattle.cps_search.specs.Searches.{IsSoundSearch}
use Rattle.cps_neighbourhood.specs.Exploring.{near_as, near_of}
use Rattle.cps_neighbourhood.specs.Nears.{Near, TakesNearTurn}
use Rattle.cps_neighbourhood.proofs.WorkerViews.{as_refused, as_running}
use Rattle.cps_search.proofs.Keeps.{keeps_none}
use Rattle.cps_neighbourhood.proofs.near.NearWorker.turn.Goals as goal

pub returns-clause-turn : goal.returns-clause-turn
returns-clause-turn g c =
    let x = c.self.inside.explorer in
    let y = c.turn.new.self in
    let k = c.in_ok-turn.ensures in
    let before : c.args.self.now ≡ near_of x = sym c.self.view_is ∙ as_refused c.self.inside.refused x c.if-self.false (c.self.invariant c.if-self.false) in
    let after : near_as false (near_of y) ≡ near_of y = as_running y k.exploring in
    subst (λ (n : Near). TakesNearTurn n (near_as false (near_of y)) (g.Q.Port.rows c.args.port.now) (g.Q.Port.part c.args.port.now) (g.Q.Port.part c.turn.new.port) c.in_ok-turn.turn) (sym before)
    (subst (λ (n : Near). TakesNearTurn (near_of x) n (g.Q.Port.rows c.args.port.now) (g.Q.Port.part c.args.port.now) (g.Q.Port.part c.turn.new.port) c.in_ok-turn.turn) (sym after) k.turn)

pub returns-clause-sound : goal.returns-clause-sound
returns-clause-sound g c =
    let x = c.self.inside.explorer in
    let y = c.turn.new.self in
    let k = c.in_ok-turn.ensures in
    let h = c.self.invariant c.if-self.false in
    let before : c.args.self.now ≡ near_of x = sym c.self.view_is ∙ as_refused c.self.inside.refused x c.if-self.false h in
    let after : near_as false (near_of y) ≡ near_of y = as_running y k.exploring in
    (subst (λ (n : Near). IsSoundSearch n.search) (sym before) h.sound, subst (λ (n : Near). IsSoundSearch n.search) (sym after) k.exploring.sound)

pub returns-then-self-clause-keeps : goal.returns-then-self-clause-keeps
returns-then-self-clause-keeps g c = keeps_none _ _ _ g.met.Q.Port.unmoved _

pub turn-requires-clause-exploring : goal.turn-requires-clause-exploring
turn-requires-clause-exploring g c = c.self.invariant c.if-self.false
