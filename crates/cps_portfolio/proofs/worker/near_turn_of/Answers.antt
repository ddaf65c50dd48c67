-- What was found goes into the pool.
use Rattle.std.proofs.Common.{◌∙◌, ap, subst}
use Rattle.cps_search.specs.declared.turn.Turn.{Turn}
use Rattle.cps_search.specs.Searches.{Search}
use Rattle.cps_search.specs.Turns.{FoundOne}
use Rattle.cps_neighbourhood.specs.Nears.{NearCaused}
use Rattle.cps_crew.proofs.MemberRuns.{aimed_search}
use Rattle.cps_portfolio.proofs.Found.{puts_found, stays_best_near}
use Rattle.cps_portfolio.proofs.worker.near_turn_of.Goals as goal

pub returns-clause-found : goal.returns-clause-found
returns-clause-found g c =
    let k = c.in_ok-turn.ensures in
    let m = c.args.near.now.worker in
    let s = c.aim.new.near.worker in
    let t = c.turn.new.self in
    let p = g.Q.Port.part c.args.port.now in
    let q = g.Q.Port.part c.turn.new.port in
    let rows = g.Q.Port.rows c.args.port.now in
    let turn = c.in_ok-turn.turn in
    let same = aimed_search m s c.aim.ensures.aimed in
    puts_found _ _ _ rows m.search t.search p q turn c.best.result c.note_turn.result
    (λ e. subst (λ (x : Search). FoundOne x t.search rows p q) same (subst (λ (x : Turn). NearCaused s t rows p q x) e k.turn.cause).1)
    (λ n. stays_best_near s t rows p q turn n k.turn.cause ∙ ap (λ (x : Search). x.best) same)
    c.best.ensures.none c.best.ensures.some c.note_turn.ensures.found c.note_turn.ensures.others
