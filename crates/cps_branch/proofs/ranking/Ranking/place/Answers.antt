-- The nodes are written over by those of a tournament with the contender in its place.
use Rattle.std.proofs.Common.{ℕ, ◌≡◌, ◌∙◌, List, length, sym, ap, subst, arith}
use Rattle.cps_branch.specs.declared.tournament.Contender.{Contender}
use Rattle.cps_branch.specs.Tournament.{AreWon}
use Rattle.cps_branch.specs.SetAside.{size_of}
use Rattle.cps_branch.proofs.Lists.{refilled}
use Rattle.cps_branch.proofs.ranking.Ranking.place.Goals as goal
use Rattle.cps_branch.proofs.ranking.Ranking.place.Goals.{After-enter}

same : (c : After-enter) → length c.enter.new.nodes ≡ length c.args.self.now.nodes.items
same c = c.enter.ensures.same_length ∙ ap (λ (xs : List Contender). length xs) c.deref_mut.ensures.value

count : (c : After-enter) → c.len-count.result ≡ size_of c.args.self.now
count c = omega arith

pub returns-clause-size : goal.returns-clause-size
returns-clause-size c =
    let v = c.args.self.now.nodes in
    let m = (goal.at.returns-clause-size c).After-enter in
    ap (λ (xs : List Contender). length xs) (refilled v.len v.items c.enter.new.nodes v.ok.0 (same m)) ∙ same m

pub returns-clause-won : goal.returns-clause-won
returns-clause-won c =
    let v = c.args.self.now.nodes in
    let m = (goal.at.returns-clause-won c).After-enter in
    subst (λ (xs : List Contender). AreWon (size_of c.args.self.now) xs) (sym (refilled v.len v.items c.enter.new.nodes v.ok.0 (same m)))
    (subst (λ (k : ℕ). AreWon k c.enter.new.nodes) (count m) c.enter.ensures.won)
