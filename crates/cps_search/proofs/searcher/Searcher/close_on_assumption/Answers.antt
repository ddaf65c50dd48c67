use Rattle.std.specs.Prelude.{is_some}
use Rattle.std.proofs.Common.{rules, FitsSigned, w32, ◌≡◌, ◌∙◌, ◌<◌, ℤ, List, length, get_or, pos, ap, refl, subst, sym}
use Rattle.std.proofs.lemmas.Int.{to_z-of_z}
use Rattle.cps_literal.specs.declared.atom.Atom.{Atom}
use Rattle.cps_instance.specs.Posting.{atom_of}
use Rattle.cps_trail.specs.Trail.{IsFalseNow}
use Rattle.cps_search.specs.Assumptions.{assumption_at}
use Rattle.cps_search.specs.Moves.{ended_by}
use Rattle.cps_search.specs.Searches.{Search, IsSoundSearch}
use Rattle.cps_search.specs.Searching.{search_of}
use Rattle.cps_search.proofs.Cores.{assumed_subjects}
use Rattle.cps_search.proofs.Logs.{about_model, closed_kept, closed_log, searched}
use Rattle.cps_search.proofs.SoundDecisions.{sound_ended_by}
use Rattle.cps_search.proofs.searcher.Searcher.close_on_assumption.Goals as goal

pub close_on_assumption-requires-clause-assumptions : goal.close_on_assumption-requires-clause-assumptions
close_on_assumption-requires-clause-assumptions g c = about_model (search_of c.self.inside) (subst (λ (x : Search). IsSoundSearch x) (sym c.self.view_is) c.requires.sound)

pub close_on_assumption-requires-clause-subject : goal.close_on_assumption-requires-clause-subject
close_on_assumption-requires-clause-subject g c =
    let s = c.args.self.now in
    let same : c.assumptions-assumptions.result.now ≡ s.instance.model.assumptions = c.assumptions-assumptions.ensures ∙ ap (λ (x : Search). x.instance.model.assumptions) c.self.view_is in
    let r = get_or c.assumptions-assumptions.result.now c.args.failed (pos 0) in
    let fits : FitsSigned w32 r = search rules in
    let atom : c.atom_of.result ≡ assumption_at s.instance.model.assumptions c.args.failed = c.atom_of.ensures ∙ ap atom_of (to_z-of_z w32 r fits) ∙ ap (λ (rs : List ℤ). assumption_at rs c.args.failed) same in
    subst (λ (x : Search). c.atom_of.result.subject < length x.store.first) (sym c.self.view_is)
    (subst (λ (t : Atom). t.subject < length s.store.first) (sym atom) (assumed_subjects s c.requires.sound c.args.failed (pos 0) c.requires.failed.within))

pub close_on_assumption-requires-clause-failed : goal.close_on_assumption-requires-clause-failed
close_on_assumption-requires-clause-failed g c =
    let s = c.args.self.now in
    let same : c.assumptions-assumptions.result.now ≡ s.instance.model.assumptions = c.assumptions-assumptions.ensures ∙ ap (λ (x : Search). x.instance.model.assumptions) c.self.view_is in
    let r = get_or c.assumptions-assumptions.result.now c.args.failed (pos 0) in
    let fits : FitsSigned w32 r = search rules in
    let atom : c.atom_of.result ≡ assumption_at s.instance.model.assumptions c.args.failed = c.atom_of.ensures ∙ ap atom_of (to_z-of_z w32 r fits) ∙ ap (λ (rs : List ℤ). assumption_at rs c.args.failed) same in
    subst (λ (x : Search). IsFalseNow x.store c.atom_of.result) (sym c.self.view_is)
    (subst (λ (t : Atom). IsFalseNow s.store t) (sym atom) c.requires.failed.false_now)

pub close_on_assumption-requires-clause-given : goal.close_on_assumption-requires-clause-given
close_on_assumption-requires-clause-given g c = (subst (λ (x : Search). IsSoundSearch x) (sym c.self.view_is) c.requires.sound).given

pub returns-clause-is : goal.returns-clause-is
returns-clause-is g c =
    let s = search_of c.self.inside in
    let log = c.close_on_assumption.new.log in
    (subst (λ (x : Search). ended_by s c.args.core log ≡ ended_by x c.args.core log) c.self.view_is refl)

pub returns-clause-closed : goal.returns-clause-closed
returns-clause-closed g c =
    let s = search_of c.self.inside in
    let sound : IsSoundSearch s = subst (λ (x : Search). IsSoundSearch x) (sym c.self.view_is) c.requires.sound in
    (let closes = c.in_ok-close_on_assumption.ensures in closed_log s.instance s.z c.args.core s.log c.close_on_assumption.new.log
    (closes s.z c.args.core (searched s sound) (λ e. c.may_assume-assumed.ensures e ∙ c.as_slice.ensures)))

pub returns-clause-logs : goal.returns-clause-logs
returns-clause-logs g c =
    let s = search_of c.self.inside in
    let log = c.close_on_assumption.new.log in
    let sound : IsSoundSearch s = subst (λ (x : Search). IsSoundSearch x) (sym c.self.view_is) c.requires.sound in
    (let closes = c.in_ok-close_on_assumption.ensures in closed_kept s.instance s.z c.args.core s.log log
    (closes s.z c.args.core (searched s sound) (λ e. c.may_assume-assumed.ensures e ∙ c.as_slice.ensures)) ∙ ap (λ (x : Search). is_some x.log) c.self.view_is)

pub returns-clause-sound : goal.returns-clause-sound
returns-clause-sound g c =
    let s = search_of c.self.inside in
    let log = c.close_on_assumption.new.log in
    let sound : IsSoundSearch s = subst (λ (x : Search). IsSoundSearch x) (sym c.self.view_is) c.requires.sound in
    (let closes = c.in_ok-close_on_assumption.ensures in sound_ended_by s c.args.core log sound
    (closes s.z c.args.core (searched s sound) (λ e. c.may_assume-assumed.ensures e ∙ c.as_slice.ensures)))
