-- One subject more.
use Rattle.std.proofs.Common.{◌++◌, ◌∷◌, [], List, ◌∙◌, ap}
use Rattle.cps_domain.specs.Window.{Window}
use Rattle.cps_rup.proofs.Settling.{settled_subject}
use Rattle.cps_rup.proofs.lrat.LratChecker.add_subject.Goals as goal

pub invariant_of-self-2 : goal.invariant_of-self-2
invariant_of-self-2 c =
    let i = c.self.inside in
    settled_subject i.given.items c.push_reserved.new.self.items i.domains c.push.new.self i.clauses c.args.domain c.in_ok-clone.field-0
    (c.push_reserved.ensures.items ∙ ap (λ (l : List Window). l ++ (c.args.domain ∷ [])) c.reserve.ensures.items)
    c.in_ok-push.ensures.ok c.in_ok-clone.ensures.cases c.self.invariant
