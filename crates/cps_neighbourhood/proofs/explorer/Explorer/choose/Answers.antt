use Rattle.std.proofs.Common.{◌≡◌, length, refl, ap, subst, arith}
use Rattle.cps_trail.specs.Trail.{Trail, IsSoundTrail}
use Rattle.cps_branch.specs.Scope.{Scope}
use Rattle.cps_neighbourhood.proofs.ExplorerInvariants.{chosen_decided, chosen_hinted, chosen_in}
use Rattle.cps_neighbourhood.proofs.explorer.Explorer.choose.Goals as goal

pub returns-clause-decides : goal.returns-clause-decides
returns-clause-decides g c =
    let d = c.in_ok-decide_next.ensures in
    chosen_in c.args.self.now (record c.args.self.now { frame = c.decide_next.new.frame; brancher = c.decide_next.new.brancher; kept = length c.entries-seen.result.now }) c.requires.in_round c.requires.none (chosen_hinted c.args.self.now _ d.decided) d.stays refl refl refl refl refl refl

pub returns-clause-exploring : goal.returns-clause-exploring
returns-clause-exploring g c =
    let d = c.in_ok-decide_next.ensures in
    let seen : length c.entries-seen.result.now ≡ length c.args.self.now.frame.store.entries = omega (arith, c.entries-seen.ensures.views.same_length, ap (λ (x : Trail). length x.entries) c.store.ensures) in
    chosen_decided c.args.self.now _ c.requires.exploring c.requires.due c.requires.in_round c.requires.none (chosen_hinted c.args.self.now _ d.decided) d.sound (ap (λ (s : Scope). s.subjects) d.scope) seen d.saw
    (subst (λ (x : Trail). IsSoundTrail x) c.store.ensures c.entries-seen.ensures.sound).levels refl refl refl refl refl
