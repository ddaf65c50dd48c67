use Rattle.std.specs.Prelude.{All}
use Rattle.std.proofs.Common.{◌≡◌, ◌<◌, ◌≤◌, length, refl, subst, sym}
use Rattle.cps_trail.specs.Trail.{IsFalseNow}
use Rattle.cps_search.specs.Logging.{IsGivenByNamed, LogsLearntIfKept}
use Rattle.cps_search.specs.Searches.{Search, IsSoundSearch}
use Rattle.cps_search.specs.Searching.{search_of}
use Rattle.cps_search.proofs.Logs.{searched}
use Rattle.cps_search.proofs.searcher.Searcher.write_learnt.Goals as goal

pub log_learnt-requires-clause-subjects : goal.log_learnt-requires-clause-subjects
log_learnt-requires-clause-subjects g c = subst (λ (x : Search). All (λ t. t.subject < length x.store.first) c.args.conflict.now.clause) (sym c.self.view_is) c.requires.subjects

pub log_learnt-requires-clause-conflict : goal.log_learnt-requires-clause-conflict
log_learnt-requires-clause-conflict g c = subst (λ (x : Search). All (IsFalseNow x.store) c.args.conflict.now.clause) (sym c.self.view_is) c.requires.false_now

pub log_learnt-requires-clause-given : goal.log_learnt-requires-clause-given
log_learnt-requires-clause-given g c = (subst (λ (x : Search). IsSoundSearch x) (sym c.self.view_is) c.requires.sound).given

pub log_learnt-requires-clause-back : goal.log_learnt-requires-clause-back
log_learnt-requires-clause-back g c = subst (λ (x : Search). c.args.learnt.now.back_level ≤ x.store.level) (sym c.self.view_is) c.requires.back

pub returns-clause-is : goal.returns-clause-is
returns-clause-is g c =
    let s = search_of c.self.inside in
    let log = c.log_learnt.new.log in
    (subst (λ (x : Search). record s { log = log } ≡ record x { log = log }) c.self.view_is refl)

pub returns-clause-logs : goal.returns-clause-logs
returns-clause-logs g c =
    let s = search_of c.self.inside in
    let log = c.log_learnt.new.log in
    let sound : IsSoundSearch s = subst (λ (x : Search). IsSoundSearch x) (sym c.self.view_is) c.requires.sound in
    let given : IsGivenByNamed s.tasks s.store.first c.args.conflict.now.task c.args.conflict.now.clause =
    subst (λ (x : Search). IsGivenByNamed x.tasks x.store.first c.args.conflict.now.task c.args.conflict.now.clause) (sym c.self.view_is) c.requires.given in
    (let logs = c.in_ok-log_learnt.ensures in subst (λ (x : Search). LogsLearntIfKept x.instance x.z c.args.learnt.now.clause x.log log) c.self.view_is (logs s.z (searched s sound) given))
