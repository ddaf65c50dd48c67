-- The sum is defined as the next subject in the instance, the store and the tasks alike.
use Rattle.std.specs.Prelude.{None, is_some}
use Rattle.std.specs.List.{All}
use mir.Facts.{to_z-of_z}
use Rattle.std.proofs.Common.{◌≡◌, ◌∙◌, ◌+◌, ◌<◌, ◌^◌, ℤ, [], ◌∷◌, ◌++◌, length, length-append, unsigned_abs, sym, subst, ap, arith}
use Rattle.cps_domain.specs.Window.{intervals}
use Rattle.cps_instance.specs.Problem.{Defines, sum_task}
use Rattle.cps_instance.specs.Sums.{DefinedSum}
use Rattle.cps_instance.specs.Terms.{Domains, terms_reach}
use Rattle.cps_trail.specs.Trail.{IsSoundTrail}
use Rattle.cps_propagate.specs.Agenda.{Agenda}
use Rattle.cps_search.specs.declared.end.Phase.TheVariants.{Stepping}
use Rattle.cps_search.specs.Growing.{GrewBy}
use Rattle.cps_search.specs.Resting.{no_recall}
use Rattle.cps_search.specs.Searches.{Search, IsSoundSearch}
use Rattle.cps_search.specs.Searching.{search_of}
use Rattle.cps_search.proofs.GrownInstances.{few_and_one, grown_is, sound_grew}
use Rattle.cps_search.proofs.searcher.Searcher.grow.Goals as goal

pub define-requires-clause-subjects : goal.define-requires-clause-subjects
define-requires-clause-subjects g c = subst (λ (x : Search). All (λ t. t.subject < length x.instance.domains) c.args.terms.now) (sym c.self.view_is) c.requires.subjects

pub define-requires-clause-room : goal.define-requires-clause-room
define-requires-clause-room g c = subst (λ (x : Search). length x.instance.domains < 2 ^ 31) (sym c.self.view_is) c.requires.room

pub add-requires-clause-level : goal.add-requires-clause-level
add-requires-clause-level g c = ap (λ (x : Search). x.store.level) c.self.view_is ∙ c.requires.bottom

pub add-requires-clause-room : goal.add-requires-clause-room
add-requires-clause-room g c =
    subst (λ (x : Search). length x.store.first < 2 ^ 31) (sym c.self.view_is) (subst (λ (ds : Domains). length ds < 2 ^ 31) (sym c.requires.sound.domains) c.requires.room)

pub add_sum-requires : goal.add_sum-requires
add_sum-requires g c =
    let s = search_of c.self.inside in
    let sound : IsSoundSearch s = subst (λ (x : Search). IsSoundSearch x) (sym c.self.view_is) c.requires.sound in
    few_and_one s c.define.new.self _ c.in_ok-subject.subject c.in_ok-subject.ensures.ok c.define.ensures.sound sound

pub returns-clause-grew : goal.returns-clause-grew
returns-clause-grew g c =
    let s = search_of c.self.inside in
    let sound : IsSoundSearch s = subst (λ (x : Search). IsSoundSearch x) (sym c.self.view_is) c.requires.sound in
    let subject = c.in_ok-subject.subject in
    let same = to_z-of_z c.ranges.offset in
    let sum : DefinedSum = record { terms = c.args.terms.now; offset = c.args.offset } in
    let defines : Defines s.instance c.define.new.self sum subject = subst (λ (x : ℤ). Defines s.instance c.define.new.self (record { terms = c.args.terms.now; offset = x }) subject) same c.in_ok-subject.ensures.ok in
    let tasks : c.add_sum.new.self.tasks ≡ s.tasks ++ sum_task subject sum ∷ [] =
    ap (λ (e : Agenda). e.tasks) c.in_ok-add_sum.ensures.adds ∙ ap (λ (x : ℤ). s.tasks ++ sum_task subject (record { terms = c.args.terms.now; offset = x }) ∷ []) same in
    let t : Search = record s { instance = c.define.new.self; store = c.add.new.self; tasks = c.add_sum.new.self.tasks; rested = record s.rested { tasks = None; recall = no_recall }; phase = Stepping } in
    let grew : GrewBy s t sum subject = record {
      defines = defines;
      is = grown_is s c.define.new.self sum subject (intervals c.in_ok-domain.domain) c.add.new.self c.add_sum.new.self.tasks defines sound c.in_ok-domain.ensures c.in_ok-add.ensures.adds tasks;
    } in
    subst (λ (x : Search). GrewBy x t sum subject) c.self.view_is grew

pub returns-clause-sound : goal.returns-clause-sound
returns-clause-sound g c =
    sound_grew c.args.self.now _ (record { terms = c.args.terms.now; offset = c.args.offset }) c.in_ok-subject.subject (ap (λ (x : Search). is_some x.log) (sym c.self.view_is) ∙ sym c.is_some.ensures ∙ c.if-is_some.false) (returns-clause-grew g c) c.define.ensures.sound c.requires.sound
    (subst (λ (x : Search). IsSoundTrail x.store) c.self.view_is c.entries.ensures.sound) c.requires.bottom

pub define-requires-clause-small : goal.define-requires-clause-small
define-requires-clause-small g c =
    subst (λ (z : ℤ). terms_reach (search_of c.self.inside).instance.domains c.args.terms.now + unsigned_abs z < 2 ^ 62) (sym (to_z-of_z c.ranges.offset))
    (subst (λ (x : Search). terms_reach x.instance.domains c.args.terms.now + unsigned_abs c.args.offset < 2 ^ 62) (sym c.self.view_is) c.requires.small)

pub domain_of-requires : goal.domain_of-requires
domain_of-requires g c =
    let d = c.in_ok-subject.ensures.ok in
    omega (arith, d.subject_is, ap (λ (ds : Domains). length ds) d.domains, length-append (search_of c.self.inside).instance.domains (d.added ∷ []))
