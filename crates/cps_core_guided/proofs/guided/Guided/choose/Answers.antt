-- What the brancher chooses is decided where no assumption is undecided.
use Rattle.std.proofs.Common.{◌≡◌, ap, arith, inr, length, subst, sym}
use Rattle.cps_trail.specs.Trail.{Trail}
use Rattle.cps_branch.specs.Scope.{AreSameUpTo}
use Rattle.cps_search.specs.Searches.{Search}
use Rattle.cps_search.proofs.WorkerInvariants.{decided_onward}
use Rattle.cps_core_guided.proofs.Assumptions.{chosen_where_none_open}
use Rattle.cps_core_guided.specs.CoreTurns.{a_choice}
use Rattle.cps_core_guided.specs.Guiding.{core_search_of}
use Rattle.cps_core_guided.proofs.CoreInvariants.{works-decided}
use Rattle.cps_core_guided.proofs.AssumedDecisions.{decides-from}
use Rattle.cps_core_guided.proofs.guided.Guided.choose.Goals as goal

pub returns-clause-decides : goal.returns-clause-decides
returns-clause-decides g c =
    let s = core_search_of c.args.self.now in
    let d = c.in_ok-decide_next.ensures.decided in
    let chooses = g.B.Brancher.chooses c.args.self.now.brancher in
    decides-from chooses s c.decide_next.new.frame d.atom d.undecided (a_choice c.requires.none_open c.requires.assumed (chosen_where_none_open chooses s.search d.atom c.requires.none_open d.next)) d.is

pub returns-clause-works : goal.returns-clause-works
returns-clause-works g c =
    let s = core_search_of c.args.self.now in
    let t = c.decide_next.new.frame in
    let b = c.decide_next.new.brancher in
    let d = c.in_ok-decide_next.ensures.decided in
    let seen : length c.entries-seen.result.now ≡ length s.search.store.entries = omega (arith, c.entries-seen.ensures.views.same_length, ap (λ (x : Trail). length x.entries) c.store.ensures) in
    let n = length c.entries-seen.result.now in
    let was = c.args.self.now.brancher in
    let subjects = (g.B.Brancher.scope b).subjects in
    works-decided s t d.atom (g.B.Brancher.scope was) (g.B.Brancher.scope b) (g.B.Brancher.agrees was s.search.store) (g.B.Brancher.agrees b t.store) c.args.self.now.kept n c.requires.works c.in_ok-decide_next.ensures.sound d.is c.requires.running
    (λ few. inr (c.requires.assumed few)) c.in_ok-decide_next.ensures.scope (omega (arith, seen))
    (g.met.B.Brancher.kept_on b s.search.store t.store n (length s.search.store.entries) (omega (arith, seen))
    (subst (λ (x : Trail). AreSameUpTo subjects n s.search.store x) (sym (ap (λ (x : Search). x.store) d.is)) (decided_onward subjects n s.search.store d.atom (omega (arith, seen))))
    c.in_ok-decide_next.ensures.saw)
