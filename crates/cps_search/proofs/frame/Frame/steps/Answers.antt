use Rattle.std.proofs.Common.{◌≡◌, ◌∙◌, false, refl, subst, sym}
use Rattle.cps_search.specs.Searches.{Search, IsSoundSearch}
use Rattle.cps_search.specs.Turns.{Steps}
use Rattle.cps_search.proofs.Keeps.{keeps_none}
use Rattle.cps_search.proofs.FrameViews.{as_running}
use Rattle.cps_search.proofs.frame.Frame.steps.Goals as goal

pub returns-then-self-clause-keeps : goal.returns-then-self-clause-keeps
returns-then-self-clause-keeps g c = keeps_none _ _ _ g.met.Q.Port.unmoved _

pub returns-clause-steps : goal.returns-clause-steps
returns-clause-steps g c =
    let x = c.self.inside in
    let h = c.self.invariant c.if-self.false in
    let was : c.args.self.now ≡ x.searcher = sym c.self.view_is ∙ as_running x.searcher x.refused c.if-self.false h.0 in
    let t = c.step.new.self in
    let k = c.in_ok-turn.ensures in
    let now : record t { refused = false } ≡ t = as_running t false refl (k.steps.setting.refused ∙ h.0) in
    let rows = g.Q.Port.rows c.args.port.now in
    let p = g.Q.Port.part c.args.port.now in
    let q = g.Q.Port.part c.step.new.port in
    subst (λ (s : Search). Steps s (record t { refused = false }) rows p q c.in_ok-turn.turn) (sym was)
    (subst (λ (u : Search). Steps x.searcher u rows p q c.in_ok-turn.turn) (sym now) k.steps)

pub returns-clause-sound : goal.returns-clause-sound
returns-clause-sound g c =
    let x = c.self.inside in
    let h = c.self.invariant c.if-self.false in
    let was : c.args.self.now ≡ x.searcher = sym c.self.view_is ∙ as_running x.searcher x.refused c.if-self.false h.0 in
    let t = c.step.new.self in
    let k = c.in_ok-turn.ensures in
    let now : record t { refused = false } ≡ t = as_running t false refl (k.steps.setting.refused ∙ h.0) in
    (subst (λ (s : Search). IsSoundSearch s) (sym was) h.1, subst (λ (s : Search). IsSoundSearch s) (sym now) k.sound)
