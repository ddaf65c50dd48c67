use Rattle.std.proofs.Common.{◌≡◌, ◌∙◌, false, refl, subst, sym}
use Rattle.cps_search.specs.Growing.{AreBehindIn}
use Rattle.cps_search.specs.Searches.{Search}
use Rattle.cps_search.proofs.FrameViews.{as_running}
use Rattle.cps_search.proofs.frame.Frame.decisions_behind.Goals as goal

pub returns-clause-same : goal.returns-clause-same
returns-clause-same g c =
    let x = c.self.inside in
    let h = c.self.invariant c.if-self.false in
    let was : c.args.self.now ≡ x.searcher = sym c.self.view_is ∙ as_running x.searcher x.refused c.if-self.false h.0 in
    as_running x.searcher false refl h.0 ∙ sym was

pub returns-clause-behind : goal.returns-clause-behind
returns-clause-behind g c =
    let x = c.self.inside in
    let h = c.self.invariant c.if-self.false in
    let was : c.args.self.now ≡ x.searcher = sym c.self.view_is ∙ as_running x.searcher x.refused c.if-self.false h.0 in
    subst (λ (s : Search). AreBehindIn s c.args.atom c.in_ok-decisions.decisions.items) (sym was) c.in_ok-decisions.ensures
