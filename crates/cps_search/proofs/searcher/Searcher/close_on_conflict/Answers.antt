use Rattle.std.specs.Prelude.{is_some}
use Rattle.std.proofs.Common.{◌≡◌, ◌∙◌, ℤ, List, [], ap, subst, sym}
use Rattle.cps_search.specs.declared.end.Phase.TheVariants.{Stepping}
use Rattle.cps_search.specs.Logging.{IsGivenByNamed}
use Rattle.cps_search.specs.Moves.{ended_by}
use Rattle.cps_search.specs.Searches.{Search, IsSoundSearch}
use Rattle.cps_search.specs.Searching.{search_of}
use Rattle.cps_search.proofs.Logs.{closed_kept, closed_log, searched}
use Rattle.cps_search.proofs.SoundDecisions.{sound_ended_by}
use Rattle.cps_search.proofs.searcher.Searcher.close_on_conflict.Goals as goal

pub close_on_conflict-requires : goal.close_on_conflict-requires
close_on_conflict-requires g c = record { given = (subst (λ (x : Search). IsSoundSearch x) (sym c.self.view_is) c.requires.sound).given }

pub returns-clause-is : goal.returns-clause-is
returns-clause-is g c =
    let s = search_of c.self.inside in
    let log = c.close_on_conflict.new.log in
    (subst (λ (x : Search). record s { core = c.new.result; log = log; phase = Stepping } ≡ ended_by x [] log) c.self.view_is
    (ap (λ (core : List ℤ). ended_by s core log) c.new.ensures))

pub returns-clause-closed : goal.returns-clause-closed
returns-clause-closed g c =
    let s = search_of c.self.inside in
    let sound : IsSoundSearch s = subst (λ (x : Search). IsSoundSearch x) (sym c.self.view_is) c.requires.sound in
    let given : IsGivenByNamed s.tasks s.store.first c.args.conflict.now.task c.args.conflict.now.clause =
    subst (λ (x : Search). IsGivenByNamed x.tasks x.store.first c.args.conflict.now.task c.args.conflict.now.clause) (sym c.self.view_is) c.requires.given in
    (let closes = c.in_ok-close_on_conflict.ensures in closed_log s.instance s.z [] s.log c.close_on_conflict.new.log (closes s.z [] (searched s sound) given))

pub returns-clause-logs : goal.returns-clause-logs
returns-clause-logs g c =
    let s = search_of c.self.inside in
    let log = c.close_on_conflict.new.log in
    let sound : IsSoundSearch s = subst (λ (x : Search). IsSoundSearch x) (sym c.self.view_is) c.requires.sound in
    let given : IsGivenByNamed s.tasks s.store.first c.args.conflict.now.task c.args.conflict.now.clause =
    subst (λ (x : Search). IsGivenByNamed x.tasks x.store.first c.args.conflict.now.task c.args.conflict.now.clause) (sym c.self.view_is) c.requires.given in
    (let closes = c.in_ok-close_on_conflict.ensures in closed_kept s.instance s.z [] s.log log (closes s.z [] (searched s sound) given) ∙ ap (λ (x : Search). is_some x.log) c.self.view_is)

pub returns-clause-sound : goal.returns-clause-sound
returns-clause-sound g c =
    let s = search_of c.self.inside in
    let log = c.close_on_conflict.new.log in
    let sound : IsSoundSearch s = subst (λ (x : Search). IsSoundSearch x) (sym c.self.view_is) c.requires.sound in
    let given : IsGivenByNamed s.tasks s.store.first c.args.conflict.now.task c.args.conflict.now.clause =
    subst (λ (x : Search). IsGivenByNamed x.tasks x.store.first c.args.conflict.now.task c.args.conflict.now.clause) (sym c.self.view_is) c.requires.given in
    (let closes = c.in_ok-close_on_conflict.ensures in subst (λ (core : List ℤ). IsSoundSearch (ended_by s core log)) (sym c.new.ensures) (sound_ended_by s [] log sound (closes s.z [] (searched s sound) given)))
