-- An assumption was decided in the round, or nothing was.
use Rattle.std.proofs.Common.{Ok, ◌∙◌, refl, ap, subst, sym}
use Rattle.cps_trail.specs.Trail.{Trail}
use Rattle.cps_search.specs.Searches.{Search}
use Rattle.cps_search.proofs.Exits.{no_not_yes, yes_not_no}
use Rattle.cps_neighbourhood.specs.Exploring.{IsExploring}
use Rattle.cps_neighbourhood.proofs.ExplorerInvariants.{assumed_in, assumption_decided}
use Rattle.cps_neighbourhood.proofs.explorer.Explorer.assume.Goals as goal

pub returns-then-not-branch-clause-exploring : goal.returns-then-not-branch-clause-exploring
returns-then-not-branch-clause-exploring g c =
    let x = c.args.self.now in
    subst (λ (f : Search). IsExploring (record x { frame = f })) (sym (c.in_ok-decide_assumption.ensures.none (ap Ok c.if-not-branch.true)).0) c.requires.exploring

pub returns-then-not-branch-clause-none : goal.returns-then-not-branch-clause-none
returns-then-not-branch-clause-none g c =
    let x = c.args.self.now in
    let none = c.in_ok-decide_assumption.ensures.none (ap Ok c.if-not-branch.true) in
    λ _. (ap (λ (f : Search). record x { frame = f }) none.0, none.1)

pub returns-then-not-branch-clause-decides : goal.returns-then-not-branch-clause-decides
returns-then-not-branch-clause-decides g c = λ is. no_not_yes _ is

pub returns-clause-none : goal.returns-clause-none
returns-clause-none g c = λ is. yes_not_no _ is

pub returns-clause-exploring : goal.returns-clause-exploring
returns-clause-exploring g c =
    let d = c.in_ok-decide_assumption.ensures in
    assumption_decided c.args.self.now _ c.requires.exploring c.requires.due c.requires.in_round (d.decided (ap Ok c.if-not-branch.false)) (d.sound c.requires.exploring.sound) refl refl refl refl refl refl refl refl
    (c.level-self.ensures.is ∙ ap (λ (t : Trail). t.level) c.store.ensures) refl refl

pub returns-clause-decides : goal.returns-clause-decides
returns-clause-decides g c = λ _. assumed_in c.args.self.now _ c.requires.in_round (c.in_ok-decide_assumption.ensures.decided (ap Ok c.if-not-branch.false)) refl
