use Rattle.std.proofs.Common.{◌∙◌, None, ap, subst, sym}
use Rattle.std.specs.Prelude.{not}
use Rattle.cps_search.specs.declared.end.End.TheVariants as ends
use Rattle.cps_search.specs.declared.end.Phase.TheVariants.{Over}
use Rattle.cps_search.specs.Searches.{Search, IsSoundSearch}
use Rattle.cps_search.specs.Searching.{search_of}
use Rattle.cps_search.proofs.SoundDecisions.{sound_end_unlogged}
use Rattle.cps_search.proofs.RoundsOver.{rounds_met, rounds_over}
use Rattle.cps_search.proofs.searcher.Searcher.end_rounds.Goals as goal

pub returns-then-is_none-clause-ends : goal.returns-then-is_none-clause-ends
returns-then-is_none-clause-ends g c =
    let e = c.see_bounds-seen.ensures in
    rounds_met c.args.self.now c.see_bounds-seen.new.self _ (g.Q.Port.part c.args.port.now) (g.Q.Port.part c.see_bounds-seen.new.port) c.see_bounds-seen.result (c.is_none.ensures ∙ ap not c.if-is_none.true) e.looks e.board e.met (ap (λ (x : Search). record x { log = None; phase = Over ends.SawClosed }) c.self.view_is)

pub returns-clause-ends : goal.returns-clause-ends
returns-clause-ends g c =
    let e = c.see_bounds-seen.ensures in
    rounds_over c.args.self.now c.see_bounds-seen.new.self _ (g.Q.Port.part c.args.port.now) (g.Q.Port.part c.see_bounds-seen.new.port) c.see_bounds-seen.result (c.is_none.ensures ∙ ap not c.if-is_none.false) e.looks e.board e.open_yet (ap (λ (x : Search). record x { log = None; phase = Over ends.RoundsDone }) c.self.view_is)

pub returns-then-is_none-clause-sound : goal.returns-then-is_none-clause-sound
returns-then-is_none-clause-sound g c =
    let s = search_of c.self.inside in
    let sound : IsSoundSearch s = subst (λ (x : Search). IsSoundSearch x) (sym c.self.view_is) c.see_bounds-seen.ensures.sound in
    sound_end_unlogged s ends.SawClosed sound tt

pub returns-clause-sound : goal.returns-clause-sound
returns-clause-sound g c =
    let s = search_of c.self.inside in
    let sound : IsSoundSearch s = subst (λ (x : Search). IsSoundSearch x) (sym c.self.view_is) c.see_bounds-seen.ensures.sound in
    sound_end_unlogged s ends.RoundsDone sound tt
