use Rattle.std.proofs.Common.{◌≡◌, ◌∙◌, ap, subst, sym}
use Rattle.cps_search.specs.Rounds.{EndsRounds}
use Rattle.cps_search.specs.Searches.{Search, IsSoundSearch}
use Rattle.cps_search.proofs.FrameViews.{as_running}
use Rattle.cps_search.proofs.frame.Frame.end_rounds.Goals as goal

pub invariant_of-self : goal.invariant_of-self
invariant_of-self g c = λ running. let e = c.end_rounds.ensures in (e.ends.setting.refused ∙ (c.self.invariant running).0, e.sound)

pub returns-clause-ends : goal.returns-clause-ends
returns-clause-ends g c =
    let x = c.self.inside in
    let running = ap (λ (s : Search). s.refused) c.self.view_is ∙ c.requires.running in
    let h = c.self.invariant running in
    let t = c.end_rounds.new.self in
    let e = c.end_rounds.ensures in
    let was : c.args.self.now ≡ x.searcher = sym c.self.view_is ∙ as_running x.searcher x.refused running h.0 in
    let now : record t { refused = x.refused } ≡ t = as_running t x.refused running (e.ends.setting.refused ∙ h.0) in
    let p = g.Q.Port.part c.args.port.now in
    let q = g.Q.Port.part c.end_rounds.new.port in
    subst (λ (s : Search). EndsRounds s (record t { refused = x.refused }) p q c.end_rounds.result) (sym was) (subst (λ (u : Search). EndsRounds x.searcher u p q c.end_rounds.result) (sym now) e.ends)

pub returns-clause-sound : goal.returns-clause-sound
returns-clause-sound g c =
    let x = c.self.inside in
    let running = ap (λ (s : Search). s.refused) c.self.view_is ∙ c.requires.running in
    let h = c.self.invariant running in
    let t = c.end_rounds.new.self in
    let e = c.end_rounds.ensures in
    let was : c.args.self.now ≡ x.searcher = sym c.self.view_is ∙ as_running x.searcher x.refused running h.0 in
    let now : record t { refused = x.refused } ≡ t = as_running t x.refused running (e.ends.setting.refused ∙ h.0) in
    (subst (λ (s : Search). IsSoundSearch s) (sym was) h.1, subst (λ (s : Search). IsSoundSearch s) (sym now) e.sound)
