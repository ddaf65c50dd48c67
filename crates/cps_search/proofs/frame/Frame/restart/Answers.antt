use Rattle.std.proofs.Common.{◌≡◌, ◌∙◌, ap, subst, sym}
use Rattle.cps_search.specs.Growing.{IsFalseBelow}
use Rattle.cps_search.specs.Moves.{moved}
use Rattle.cps_search.specs.Searches.{Search, IsSoundSearch}
use Rattle.cps_search.proofs.FrameViews.{as_running}
use Rattle.cps_search.proofs.frame.Frame.restart.Goals as goal

pub invariant_of-self : goal.invariant_of-self
invariant_of-self g c = λ running.
    let h = c.self.invariant running in
    let e = c.restart.ensures in
    (ap (λ (s : Search). s.refused) e.is ∙ h.0, e.sound h.1)

pub returns-clause-is : goal.returns-clause-is
returns-clause-is g c =
    let x = c.self.inside in
    let t = c.restart.new.self in
    subst (λ (s : Search). record t { refused = x.refused } ≡ moved s t.store t.rested) c.self.view_is (ap (λ (s : Search). record s { refused = x.refused }) c.restart.ensures.is)

pub returns-clause-sound : goal.returns-clause-sound
returns-clause-sound g c = λ seen.
    let x = c.self.inside in
    let running = ap (λ (s : Search). s.refused) c.self.view_is ∙ seen in
    let h = c.self.invariant running in
    let t = c.restart.new.self in
    let e = c.restart.ensures in
    let now : record t { refused = x.refused } ≡ t = as_running t x.refused running (ap (λ (s : Search). s.refused) e.is ∙ h.0) in
    subst (λ (s : Search). IsSoundSearch s) (sym now) (e.sound h.1)

pub returns-clause-bottom : goal.returns-clause-bottom
returns-clause-bottom g c = λ seen.
    let x = c.self.inside in
    let running = ap (λ (s : Search). s.refused) c.self.view_is ∙ seen in
    let h = c.self.invariant running in
    let t = c.restart.new.self in
    let e = c.restart.ensures in
    let now : record t { refused = x.refused } ≡ t = as_running t x.refused running (ap (λ (s : Search). s.refused) e.is ∙ h.0) in
    subst (λ (s : Search). IsFalseBelow s) (sym now) (e.bottom h.1)
