-- What the brancher heard stays where the round ends or goes on.
use Rattle.std.proofs.Common.{◌∙◌, length, ap, sym, subst}
use Rattle.cps_branch.specs.Activities.{ByActivity}
use Rattle.cps_branch.specs.SetAside.{AreFixedAside}
use Rattle.cps_neighbourhood.specs.Nears.{HeardClause}
use Rattle.cps_neighbourhood.proofs.explorer.Explorer.hear.Goals as goal

pub returns-clause-saw : goal.returns-clause-saw
returns-clause-saw g c = λ s k h. subst (λ (b : ByActivity). AreFixedAside (length b.activities) b.aside s k) (sym c.end_or_go_on.ensures.brancher.0) (c.hear_last.ensures.saw s k h)

pub returns-clause-heard : goal.returns-clause-heard
returns-clause-heard g c = λ earlier clause below is.
    let heard = c.hear_last.ensures.heard earlier clause below (ap (λ (s : _). s.journal) c.clauses.ensures ∙ is) in
    subst (λ (b : ByActivity). HeardClause clause c.args.self.now.brancher b) (sym c.end_or_go_on.ensures.brancher.0) (record { raised = heard.0; wish = c.hear_last.result; counted = heard.1; hints = heard.2 })
