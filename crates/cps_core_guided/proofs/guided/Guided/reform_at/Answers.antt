-- A reform is tried at level 0 by the decisions behind the assumption that failed, and what it came to is told.
use Rattle.std.proofs.Common.{◌≡◌, ◌∙◌, ◌<◌, false, ap, arith, inl, inr, length, List, min, refl, subst, sym}
use Rattle.cps_model.specs.declared.bound.Bound.{Bound}
use Rattle.cps_model.specs.declared.bound.Bound.TheVariants.{At}
use Rattle.cps_instance.specs.Problem.{Problem}
use Rattle.cps_literal.specs.declared.atom.Atom.{Atom}
use Rattle.cps_trail.specs.Trail.{IsSoundTrail, Trail}
use Rattle.cps_trail.proofs.Falls.{bool_cases}
use Rattle.cps_search.specs.declared.turn.Turn.{Turn}
use Rattle.cps_search.specs.Growing.{AreBehindIn}
use Rattle.cps_search.specs.Lessons.{GoesBack}
use Rattle.cps_search.specs.Moves.{moved}
use Rattle.cps_search.specs.Searches.{IsSoundSearch, Search}
use Rattle.cps_search.proofs.Keeps.{keeps_none}
use Rattle.cps_search.proofs.TurnCauses.{back_only}
use Rattle.cps_search.proofs.WorkerInvariants.{same_back}
use Rattle.cps_reform.specs.declared.held.Held.{Held}
use Rattle.cps_reform.specs.Forms.{no_term, term_at}
use Rattle.cps_reform.specs.Marks.{assumed}
use Rattle.cps_core_guided.specs.CoreTurns.{ExhaustsFrom, GoesOn, IsCoreWorking, RaisesTo, ReformsFrom}
use Rattle.cps_core_guided.specs.Guiding.{HasFailed, Tried, core_search_of}
use Rattle.cps_core_guided.specs.Reforming.{CoreSearch, IsSoundCore, whole_core}
use Rattle.cps_core_guided.proofs.CoreInvariants.{terms-inside, works-concluded, works-core}
use Rattle.cps_core_guided.proofs.FailedTerms.{exhausts-from, has-failed, none-after, reforms-from, sound-bottom, tried-bound}
use Rattle.cps_core_guided.proofs.Results.{not-refused}
use Rattle.cps_core_guided.proofs.guided.Guided.reform_at.Goals as goal

pub reform_by-requires-clause-works : goal.reform_by-requires-clause-works
reform_by-requires-clause-works g c =
    let s = core_search_of c.args.self.now in
    let w = c.requires.works in
    let r = c.restart.new.self in
    let i = c.args.place in
    let decisions = c.as_slice.result.now in
    let kept_same : c.decisions_behind.new.self ≡ s.search = c.in_ok-decisions.ensures.same in
    let is : r ≡ moved s.search r.store r.rested = c.restart.ensures.is ∙ ap (λ (x : Search). moved x r.store r.rested) kept_same in
    let back : GoesBack s.search.store r.store 0 = subst (λ (x : Search). GoesBack x.store r.store 0) kept_same c.restart.ensures.back in
    let running : c.decisions_behind.new.self.refused ≡ false = ap (λ (x : Search). x.refused) kept_same ∙ not-refused s.search.refused c.in_ok-decisions.ensures.stays in
    let store : IsSoundTrail r.store = subst (λ (x : Trail). IsSoundTrail x) c.store-2.ensures c.entries-2.ensures.sound in
    let level : r.store.level ≡ 0 = ap (λ (x : Trail). x.level) c.restart.ensures.back.is in
    let b = c.args.self.now.brancher in
    let kept = c.args.self.now.kept in
    let k = c.still_kept-self.result in
    let left : k ≡ min kept (length r.store.entries) = c.still_kept-self.ensures ∙ ap (λ (x : Trail). min kept (length x.entries)) c.store-3.ensures in
    let within = w.within in
    let sound = sound-bottom s r.store r.rested w.sound (subst (λ (x : Search). IsSoundSearch x) is (c.restart.ensures.sound running)) store level c.requires.running in
    let agrees = g.B.Brancher.agrees b in
    let scope = g.B.Brancher.scope b in
    subst (λ (x : Search). IsCoreWorking (record s { search = x }) scope (agrees r.store) k) (sym is)
    (works-core s (record s { search = moved s.search r.store r.rested }) scope scope (agrees s.search.store) (agrees r.store) kept k w sound (record { model = refl; gap = refl; budget = refl; refused = refl; greatest = refl })
    (omega arith) refl w.few (omega (arith, left))
    (g.met.B.Brancher.kept_on b s.search.store r.store k kept (omega (arith, left)) (same_back scope.subjects k s.search.store r.store (omega (arith, left, within)) (omega (arith, left)) (back_only s.search.store r.store 0 back)) w.agreed))

pub reform_by-requires-clause-bottom : goal.reform_by-requires-clause-bottom
reform_by-requires-clause-bottom g c =
    let s = core_search_of c.args.self.now in
    let w = c.requires.works in
    let r = c.restart.new.self in
    let i = c.args.place in
    let decisions = c.as_slice.result.now in
    let kept_same : c.decisions_behind.new.self ≡ s.search = c.in_ok-decisions.ensures.same in
    let is : r ≡ moved s.search r.store r.rested = c.restart.ensures.is ∙ ap (λ (x : Search). moved x r.store r.rested) kept_same in
    let back : GoesBack s.search.store r.store 0 = subst (λ (x : Search). GoesBack x.store r.store 0) kept_same c.restart.ensures.back in
    let running : c.decisions_behind.new.self.refused ≡ false = ap (λ (x : Search). x.refused) kept_same ∙ not-refused s.search.refused c.in_ok-decisions.ensures.stays in
    c.restart.ensures.bottom running

pub reform_by-requires-clause-failed : goal.reform_by-requires-clause-failed
reform_by-requires-clause-failed g c =
    let s = core_search_of c.args.self.now in
    let w = c.requires.works in
    let r = c.restart.new.self in
    let i = c.args.place in
    let decisions = c.as_slice.result.now in
    let kept_same : c.decisions_behind.new.self ≡ s.search = c.in_ok-decisions.ensures.same in
    let is : r ≡ moved s.search r.store r.rested = c.restart.ensures.is ∙ ap (λ (x : Search). moved x r.store r.rested) kept_same in
    let back : GoesBack s.search.store r.store 0 = subst (λ (x : Search). GoesBack x.store r.store 0) kept_same c.restart.ensures.back in
    let store : IsSoundTrail r.store = subst (λ (x : Trail). IsSoundTrail x) c.store-2.ensures c.entries-2.ensures.sound in
    let level : r.store.level ≡ 0 = ap (λ (x : Trail). x.level) c.restart.ensures.back.is in
    let atom : c.assumption-atom.result ≡ assumed (term_at s.form.terms i) = c.assumption-atom.ensures ∙ ap (λ (ts : List Held). assumed (term_at ts i)) c.terms.ensures in
    let behind : AreBehindIn s.search (assumed (term_at s.form.terms i)) decisions =
    subst (λ (us : List Atom). AreBehindIn s.search (assumed (term_at s.form.terms i)) us) (sym c.as_slice.ensures.value) (subst (λ (a : Atom). AreBehindIn s.search a c.in_ok-decisions.decisions.items) atom c.in_ok-decisions.ensures.behind) in
    let first : IsSoundTrail s.search.store = subst (λ (x : Trail). IsSoundTrail x) c.store.ensures c.entries.ensures.sound in
    subst (λ (x : Search). HasFailed (record s { search = x }) i decisions) (sym is) (has-failed s r.store r.rested i decisions w.sound first c.requires.few c.requires.failed level behind)

pub conclude-requires-clause-base : goal.conclude-requires-clause-base
conclude-requires-clause-base g c =
    let s = core_search_of c.args.self.now in
    let w = c.requires.works in
    let r = c.restart.new.self in
    let i = c.args.place in
    let decisions = c.as_slice.result.now in
    let kept_same : c.decisions_behind.new.self ≡ s.search = c.in_ok-decisions.ensures.same in
    let is : r ≡ moved s.search r.store r.rested = c.restart.ensures.is ∙ ap (λ (x : Search). moved x r.store r.rested) kept_same in
    let back : GoesBack s.search.store r.store 0 = subst (λ (x : Search). GoesBack x.store r.store 0) kept_same c.restart.ensures.back in
    let v = core_search_of c.reform_by.new.self in
    let done = c.in_ok-is_reformed.is_reformed in
    let h : Tried (record s { search = moved s.search r.store r.rested }) v i decisions done = subst (λ (x : Search). Tried (record s { search = x }) v i decisions done) is c.in_ok-is_reformed.ensures.tried in
    tried-bound s v r.store r.rested i decisions done h c.in_ok-is_reformed.ensures.works.sound

pub reform_by-requires-clause-running : goal.reform_by-requires-clause-running
reform_by-requires-clause-running g c = c.requires.running

pub reform_by-requires-clause-atom : goal.reform_by-requires-clause-atom
reform_by-requires-clause-atom g c = c.assumption-atom.ensures ∙ ap (λ (ts : List Held). assumed (term_at ts c.args.place)) c.terms.ensures

pub returns-in_err-decisions-clause-keeps : goal.returns-in_err-decisions-clause-keeps
returns-in_err-decisions-clause-keeps g c = keeps_none _ _ _ g.met.Q.Port.unmoved _

pub returns-in_err-is_reformed-clause-keeps : goal.returns-in_err-is_reformed-clause-keeps
returns-in_err-is_reformed-clause-keeps g c = keeps_none _ _ _ g.met.Q.Port.unmoved _

pub returns-in_err-core-clause-keeps : goal.returns-in_err-core-clause-keeps
returns-in_err-core-clause-keeps g c = keeps_none _ _ _ g.met.Q.Port.unmoved _

pub conclude-requires-clause-sound : goal.conclude-requires-clause-sound
conclude-requires-clause-sound g c = c.in_ok-is_reformed.ensures.works.sound

pub conclude-requires-clause-model : goal.conclude-requires-clause-model
conclude-requires-clause-model g c =
    c.requires.model ∙ ap (λ (x : Search). x.instance.model) (sym c.in_ok-decisions.ensures.same) ∙ ap (λ (x : Search). x.instance.model) (sym c.restart.ensures.is) ∙ sym c.in_ok-is_reformed.ensures.tried.setting.model

pub conclude-requires-clause-none : goal.conclude-requires-clause-none
conclude-requires-clause-none g c =
    let h = c.in_ok-is_reformed.ensures.tried in
    λ off. none-after (core_search_of c.reform_by.new.self) c.restart.new.self.instance.model c.restart.new.self.z h.setting.model h.z (h.none_below off)

pub conclude-requires-clause-core : goal.conclude-requires-clause-core
conclude-requires-clause-core g c = c.in_ok-core.ensures ∙ ap (λ (p : Problem). whole_core p.model c.z.result) c.instance.ensures ∙ ap (λ (z : Bound). whole_core c.reform_by.new.self.frame.instance.model z) c.z.ensures

pub returns-clause-keeps : goal.returns-clause-keeps
returns-clause-keeps g c = c.conclude.ensures.keeps

pub returns-clause-brancher : goal.returns-clause-brancher
returns-clause-brancher g c = ap (λ (x : _). x.brancher) c.conclude.ensures.rest ∙ c.in_ok-is_reformed.ensures.brancher

pub returns-clause-works : goal.returns-clause-works
returns-clause-works g c =
    let v = core_search_of c.reform_by.new.self in
    let t = c.conclude.new.self in
    let b = c.reform_by.new.self.brancher in
    let rest = c.conclude.ensures.rest in
    subst (λ (x : _). IsCoreWorking (core_search_of x) (g.B.Brancher.scope x.brancher) (g.B.Brancher.agrees x.brancher x.frame.store) x.kept) (sym rest)
    (works-concluded v t.raised t.ended t.core (g.B.Brancher.scope b) (g.B.Brancher.agrees b v.search.store) c.reform_by.new.self.kept c.in_ok-is_reformed.ensures.works
    (subst (λ (x : _). IsSoundCore (core_search_of x)) rest c.conclude.ensures.sound))

pub returns-clause-goes_on : goal.returns-clause-goes_on
returns-clause-goes_on g c =
    let s = core_search_of c.args.self.now in
    let w = c.requires.works in
    let r = c.restart.new.self in
    let i = c.args.place in
    let decisions = c.as_slice.result.now in
    let kept_same : c.decisions_behind.new.self ≡ s.search = c.in_ok-decisions.ensures.same in
    let is : r ≡ moved s.search r.store r.rested = c.restart.ensures.is ∙ ap (λ (x : Search). moved x r.store r.rested) kept_same in
    let back : GoesBack s.search.store r.store 0 = subst (λ (x : Search). GoesBack x.store r.store 0) kept_same c.restart.ensures.back in
    let atom : c.assumption-atom.result ≡ assumed (term_at s.form.terms i) = c.assumption-atom.ensures ∙ ap (λ (ts : List Held). assumed (term_at ts i)) c.terms.ensures in
    let behind : AreBehindIn s.search (assumed (term_at s.form.terms i)) decisions =
    subst (λ (us : List Atom). AreBehindIn s.search (assumed (term_at s.form.terms i)) us) (sym c.as_slice.ensures.value) (subst (λ (a : Atom). AreBehindIn s.search a c.in_ok-decisions.decisions.items) atom c.in_ok-decisions.ensures.behind) in
    let v = core_search_of c.reform_by.new.self in
    let done = c.in_ok-is_reformed.is_reformed in
    let h : Tried (record s { search = moved s.search r.store r.rested }) v i decisions done = subst (λ (x : Search). Tried (record s { search = x }) v i decisions done) is c.in_ok-is_reformed.ensures.tried in
    let t = core_search_of c.conclude.new.self in
    let p = g.Q.Port.part c.args.port.now in
    let q = g.Q.Port.part c.conclude.new.port in
    let chooses = g.B.Brancher.chooses c.args.self.now.brancher in
    let same : t ≡ record v { raised = t.raised; ended = t.ended; core = t.core } = ap (λ (x : _). core_search_of x) c.conclude.ensures.rest in
    elim (bool_cases done) as (λ u. GoesOn chooses s t p q c.conclude.result) [
      | inl on ↦
          let e = c.conclude.ensures.reformed on in
          let raises = subst (λ (x : CoreSearch). RaisesTo (At v.form.base) v x p q) same e.1 in
          subst (λ (turn : Turn). GoesOn chooses s t p q turn) (sym e.0) (subst (λ (x : CoreSearch). ReformsFrom s x p q v.form.base) (sym same)
          (reforms-from s v r.store r.rested i decisions done h t.raised t.ended t.core p q c.requires.few c.requires.failed behind back on raises (e.2 ∙ h.ended ∙ c.requires.running)))
      | inr off ↦
          let e = c.conclude.ensures.exhausted off in
          let raises = subst (λ (x : CoreSearch). RaisesTo v.search.z v x p q) same e.1 in
          subst (λ (turn : Turn). GoesOn chooses s t p q turn) (sym e.0) (subst (λ (x : CoreSearch). ExhaustsFrom s x p q) (sym same)
          (exhausts-from s v r.store r.rested i decisions done h t.raised t.ended t.core p q c.requires.few c.requires.failed behind back off raises e.2 (e.3 ∙ c.in_ok-core.ensures ∙ ap (λ (p : Problem). whole_core p.model c.z.result) c.instance.ensures ∙ ap (λ (z : Bound). whole_core c.reform_by.new.self.frame.instance.model z) c.z.ensures)))
    ]

pub decisions_behind-requires-clause-subject : goal.decisions_behind-requires-clause-subject
decisions_behind-requires-clause-subject g c =
    let s = core_search_of c.args.self.now in
    let i = c.args.place in
    let atom : c.assumption-atom.result ≡ assumed (term_at s.form.terms i) = c.assumption-atom.ensures ∙ ap (λ (ts : List Held). assumed (term_at ts i)) c.terms.ensures in
    subst (λ (a : Atom). a.subject < length s.search.store.first) (sym atom) (terms-inside s s.search.store s.form.terms c.requires.works.sound refl refl i no_term c.requires.failed.within)
