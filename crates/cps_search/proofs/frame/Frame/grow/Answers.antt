use mir.Facts.{to_z-of_z}
use Rattle.std.proofs.Common.{ℤ, ◌≡◌, ◌∙◌, false, ap, refl, subst, sym}
use Rattle.cps_search.specs.Growing.{GrewBy}
use Rattle.cps_search.specs.Searches.{Search, IsSoundSearch}
use Rattle.cps_search.proofs.FrameViews.{as_running}
use Rattle.cps_search.proofs.frame.Frame.grow.Goals as goal

pub returns-clause-grew : goal.returns-clause-grew
returns-clause-grew g c =
    let x = c.self.inside in
    let h = c.self.invariant c.if-self.false in
    let was : c.args.self.now ≡ x.searcher = sym c.self.view_is ∙ as_running x.searcher x.refused c.if-self.false h.0 in
    let t = c.grow.new.self in
    let k = c.in_ok-subject.ensures in
    let now : record t { refused = false } ≡ t = as_running t false refl (ap (λ (s : Search). s.refused) k.grew.is ∙ h.0) in
    subst (λ (s : Search). GrewBy s (record t { refused = false }) (record { terms = c.args.terms.now; offset = c.args.offset }) c.in_ok-subject.subject) (sym was)
    (subst (λ (u : Search). GrewBy x.searcher u (record { terms = c.args.terms.now; offset = c.args.offset }) c.in_ok-subject.subject) (sym now)
    (subst (λ (z : ℤ). GrewBy x.searcher t (record { terms = c.args.terms.now; offset = z }) c.in_ok-subject.subject) (to_z-of_z c.ranges.offset) k.grew))

pub returns-clause-sound : goal.returns-clause-sound
returns-clause-sound g c =
    let t = c.grow.new.self in
    let k = c.in_ok-subject.ensures in
    let now : record t { refused = false } ≡ t = as_running t false refl (ap (λ (s : Search). s.refused) k.grew.is ∙ (c.self.invariant c.if-self.false).0) in
    subst (λ (s : Search). IsSoundSearch s) (sym now) k.sound
