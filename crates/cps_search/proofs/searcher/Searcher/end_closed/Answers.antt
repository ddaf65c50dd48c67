use Rattle.std.specs.Prelude.{is_some}
use Rattle.std.proofs.Common.{◌≡◌, ◌∙◌, ap, refl, subst, sym}
use Rattle.cps_search.specs.declared.end.End.TheVariants as ends
use Rattle.cps_search.specs.declared.end.Phase.TheVariants.{Over}
use Rattle.cps_search.specs.Searches.{Search, IsSoundSearch}
use Rattle.cps_search.specs.Searching.{search_of}
use Rattle.cps_search.proofs.Logs.{closed_kept, ungrown}
use Rattle.cps_search.proofs.SoundDecisions.{sound_end_closed}
use Rattle.cps_search.proofs.searcher.Searcher.end_closed.Goals as goal

pub returns-clause-is : goal.returns-clause-is
returns-clause-is g c =
    let s = search_of c.self.inside in
    let log = c.close_at_start.new.log in
    subst (λ (x : Search). record s { log = log; phase = Over ends.SawClosed } ≡ record x { log = log; phase = Over ends.SawClosed }) c.self.view_is refl

pub returns-clause-logs : goal.returns-clause-logs
returns-clause-logs g c =
    let s = search_of c.self.inside in
    let log = c.close_at_start.new.log in
    let sound : IsSoundSearch s = subst (λ (x : Search). IsSoundSearch x) (sym c.self.view_is) c.requires.sound in
    closed_kept s.instance s.z s.core s.log log (c.in_ok-close_at_start.ensures s.core (ungrown s sound)) ∙ ap (λ (x : Search). is_some x.log) c.self.view_is

pub returns-clause-sound : goal.returns-clause-sound
returns-clause-sound g c =
    let s = search_of c.self.inside in
    let log = c.close_at_start.new.log in
    let sound : IsSoundSearch s = subst (λ (x : Search). IsSoundSearch x) (sym c.self.view_is) c.requires.sound in
    sound_end_closed s log sound (c.in_ok-close_at_start.ensures s.core (ungrown s sound))
