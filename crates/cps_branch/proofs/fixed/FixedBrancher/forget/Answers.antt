use Rattle.std.proofs.Common.{List, ℕ, ◌-◌, ◌≤◌, get_or, sym, ap, subst}
use Rattle.cps_branch.specs.Scope.{InOrder}
use Rattle.cps_branch.proofs.FixedSubjects.{forgets_to}
use Rattle.cps_branch.proofs.fixed.FixedBrancher.forget.Goals as goal

pub returns-clause-forgets : goal.returns-clause-forgets
returns-clause-forgets c =
    let r = c.still_known-self-inside.result in
    forgets_to c.args.kept c.self.inside.known r c.args.self.now.fixed_after c.self.inside.fixed_after.items
    (sym (ap (λ (b : InOrder). b.fixed_after) c.self.view_is)) c.self.invariant.0 c.still_known-self-inside.ensures.fewer c.still_known-self-inside.ensures.some_kept
    (λ l. subst (λ (xs : List ℕ). get_or xs (r - 1) 0 ≤ c.args.kept) c.deref.ensures.value (c.still_known-self-inside.ensures.last l))
