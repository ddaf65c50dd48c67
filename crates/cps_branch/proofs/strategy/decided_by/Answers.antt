-- The subject that is taken is not fixed, so what is selected is undecided.
use Rattle.std.proofs.Common.{◌<◌, ℕ, List, length, sym, subst}
use Rattle.cps_branch.specs.Fixed.{IsFixed}
use Rattle.cps_branch.specs.Strategies.{IsTaken}
use Rattle.cps_branch.proofs.SelectedAtoms.{HasEnds, selected_undecided}
use Rattle.cps_branch.proofs.StrategyChoices.{taken_within}
use Rattle.cps_branch.proofs.strategy.decided_by.Goals as goal
use Rattle.cps_branch.proofs.strategy.decided_by.Goals.{After-taken-taken}

chosen : (c : After-taken-taken) → IsTaken c.args.strategy.now.choose c.args.store.now c.args.strategy.now.subjects c.taken-taken.result.subject c.taken-taken.result.rank
chosen c = subst (λ (is : List ℕ). IsTaken c.args.strategy.now.choose c.args.store.now is c.taken-taken.result.subject c.taken-taken.result.rank) c.as_slice.ensures c.taken-taken.ensures

inside : (c : After-taken-taken) → c.taken-taken.result.subject < length c.args.store.now.first
inside c =
    taken_within c.args.strategy.now.choose c.args.store.now (length c.args.store.now.first) c.args.strategy.now.subjects c.taken-taken.result.subject c.taken-taken.result.rank c.requires.within (chosen c)

pub least-requires : goal.least-requires
least-requires c = inside (goal.at.least-requires c).After-taken-taken

pub greatest-requires : goal.greatest-requires
greatest-requires c = inside (goal.at.greatest-requires c).After-taken-taken

pub selected-requires-clause-subject : goal.selected-requires-clause-subject
selected-requires-clause-subject c = inside (goal.at.selected-requires-clause-subject c).After-taken-taken

pub returns-clause-undecided : goal.returns-clause-undecided
returns-clause-undecided c =
    let m = (goal.at.returns-clause-undecided c).After-taken-taken in
    let s = c.args.store.now in
    let ends : HasEnds s c.taken-taken.result.subject = record { low = c.least.result; high = c.greatest.result; is_low = c.least.ensures.least; is_high = c.greatest.ensures.greatest } in
    selected_undecided s c.args.strategy.now.select c.selected.result (subst (λ (i : ℕ). HasEnds s i) (sym c.selected.ensures.subject) ends)
    (subst (λ (i : ℕ). i < length s.first) (sym c.selected.ensures.subject) (inside m))
    (subst (λ (i : ℕ). IsFixed s i → ⊥) (sym c.selected.ensures.subject) (chosen m).open_now) c.selected.ensures.selected
