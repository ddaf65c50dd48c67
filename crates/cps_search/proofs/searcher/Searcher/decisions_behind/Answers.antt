use Rattle.std.specs.Prelude.{◌<◌, IfOk, length}
use Rattle.std.proofs.Common.{subst, sym}
use Rattle.cps_trail.specs.Trail.{IsFalseNow}
use Rattle.cps_search.specs.Giving.{ByAll}
use Rattle.cps_search.specs.Growing.{AreBehindIn}
use Rattle.cps_search.specs.Searches.{Search, IsSoundSearch}
use Rattle.cps_search.specs.Searching.{search_of}
use Rattle.cps_search.proofs.GivenEntries.{AreGiven-fit}
use Rattle.cps_search.proofs.Behind.{behind_in}
use Rattle.cps_search.proofs.Results.{if_ok_weaker}
use Rattle.cps_search.proofs.searcher.Searcher.decisions_behind.Goals as goal

pub decisions_behind-requires-clause-subject : goal.decisions_behind-requires-clause-subject
decisions_behind-requires-clause-subject g c = subst (λ (x : Search). c.args.atom.subject < length x.store.first) (sym c.self.view_is) c.requires.subject

pub decisions_behind-requires-clause-false_now : goal.decisions_behind-requires-clause-false_now
decisions_behind-requires-clause-false_now g c = subst (λ (x : Search). IsFalseNow x.store c.args.atom) (sym c.self.view_is) c.requires.false_now

pub decisions_behind-requires-clause-fits : goal.decisions_behind-requires-clause-fits
decisions_behind-requires-clause-fits g c =
    let s = search_of c.self.inside in
    let sound : IsSoundSearch s = subst (λ (x : Search). IsSoundSearch x) (sym c.self.view_is) c.requires.sound in
    AreGiven-fit (ByAll s.tasks s.base.clauses) s.store sound.given

pub returns : goal.returns
returns g c =
    let s = search_of c.self.inside in
    let sound : IsSoundSearch s = subst (λ (x : Search). IsSoundSearch x) (sym c.self.view_is) c.requires.sound in
    subst (λ (x : Search). IfOk c.decisions_behind.result (λ decisions. AreBehindIn x c.args.atom decisions.items)) c.self.view_is
    (if_ok_weaker c.decisions_behind.result _ _ (λ decisions behind. behind_in s c.args.atom decisions.items sound behind) c.decisions_behind.ensures)
