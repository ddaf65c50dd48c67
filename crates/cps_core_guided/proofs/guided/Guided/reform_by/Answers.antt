-- At level 0 a false assumption lifts its term to the subject's least value, and else the core is lifted.
use Rattle.std.proofs.Common.{rules, ◌≡◌, ◌<◌, ℕ, ℤ, ◌≤ℤ◌, ap, arith, length, of_z, refl, subst, sym, to_z, w64, FitsSigned}
use Rattle.std.proofs.lemmas.Int.{ints, to_z-of_z}
use Rattle.cps_domain.specs.Window.{contains}
use Rattle.cps_literal.specs.declared.atom.Atom.{Atom}
use Rattle.cps_literal.specs.Truth.{value_at}
use Rattle.cps_instance.specs.Terms.{Domains}
use Rattle.cps_trail.specs.Trail.{IsFalseNow, Trail}
use Rattle.cps_reform.specs.Floors.{OfEachBelow}
use Rattle.cps_reform.specs.Forms.{lifted, no_term, term_at}
use Rattle.cps_core_guided.specs.Guiding.{core_search_of}
use Rattle.cps_core_guided.specs.Reforming.{CoreSearch, IsLeastAdmitted, at_bottom}
use Rattle.cps_core_guided.proofs.Lifts.{lift-same, tried-lifted, works-form}
use Rattle.cps_core_guided.proofs.Openings.{not-no}
use Rattle.cps_core_guided.proofs.Reforms.{base-rises, least-above, least-now, risen-least}
use Rattle.cps_core_guided.proofs.guided.Guided.reform_by.Goals as goal

pub lift-requires-clause-rises : goal.lift-requires-clause-rises
lift-requires-clause-rises g c =
    let s = core_search_of c.args.self.now in
    let term = term_at s.form.terms c.args.place in
    let v = c.min-least.result in
    let fits : FitsSigned w64 v = search rules in
    let not_met = subst (λ (u : Atom). IsFalseNow s.search.store u) c.requires.atom (subst (λ (x : Trail). IsFalseNow x c.args.atom) c.store.ensures (c.in-No.ensures.no.0 refl)) in
    let here = least-now c.store-in-No.result.now s.search.store c.args.atom.subject v (λ x. contains c.domain.result.now x) c.store-in-No.ensures c.domain.ensures c.min-least.ensures.within c.min-least.ensures.least in
    let least : IsLeastAdmitted s.search.store term.subject v = subst (λ (i : ℕ). IsLeastAdmitted s.search.store i v) (ap (λ (u : Atom). u.subject) c.requires.atom) here in
    let over = least-above s.search.store term v not_met least in
    subst (λ (x : ℤ). term.bound ≤ℤ x) (sym (to_z-of_z w64 v fits)) (omega (arith, ints, over))

pub lift-requires-clause-risen : goal.lift-requires-clause-risen
lift-requires-clause-risen g c =
    let s = core_search_of c.args.self.now in
    let term = term_at s.form.terms c.args.place in
    let v = c.min-least.result in
    let fits : FitsSigned w64 v = search rules in
    let here = least-now c.store-in-No.result.now s.search.store c.args.atom.subject v (λ x. contains c.domain.result.now x) c.store-in-No.ensures c.domain.ensures c.min-least.ensures.within c.min-least.ensures.least in
    let least : IsLeastAdmitted s.search.store term.subject v = subst (λ (i : ℕ). IsLeastAdmitted s.search.store i v) (ap (λ (u : Atom). u.subject) c.requires.atom) here in
    let held = c.requires.works.sound.form.roomy.terms c.args.place no_term c.requires.failed.within in
    let inside : term.subject < length s.search.store.first = subst (λ (ds : Domains). term.subject < length ds) (sym c.requires.works.sound.search.domains) held.subject in
    subst (λ (x : ℤ). OfEachBelow s.search.instance s.search.z (λ xs. x ≤ℤ value_at xs term.subject)) (sym (to_z-of_z w64 v fits)) (risen-least s.search term.subject v c.requires.bottom inside least)

pub returns-in-No-clause-tried : goal.returns-in-No-clause-tried
returns-in-No-clause-tried g c =
    let s = core_search_of c.args.self.now in
    let t = core_search_of c.lift.new.self in
    let i = c.args.place in
    let term = term_at s.form.terms i in
    let v = c.min-least.result in
    let fits : FitsSigned w64 v = search rules in
    let read : to_z w64 (of_z w64 v) ≡ v = to_z-of_z w64 v fits in
    let b = to_z w64 (of_z w64 v) in
    let not_met = subst (λ (u : Atom). IsFalseNow s.search.store u) c.requires.atom (subst (λ (x : Trail). IsFalseNow x c.args.atom) c.store.ensures (c.in-No.ensures.no.0 refl)) in
    let here = least-now c.store-in-No.result.now s.search.store c.args.atom.subject v (λ x. contains c.domain.result.now x) c.store-in-No.ensures c.domain.ensures c.min-least.ensures.within c.min-least.ensures.least in
    let at : IsLeastAdmitted s.search.store term.subject v = subst (λ (j : ℕ). IsLeastAdmitted s.search.store j v) (ap (λ (u : Atom). u.subject) c.requires.atom) here in
    let least : IsLeastAdmitted s.search.store term.subject b = subst (λ (x : ℤ). IsLeastAdmitted s.search.store term.subject x) (sym read) at in
    let up = base-rises s.form i b c.requires.failed.weighs (least-above s.search.store term b not_met least) in
    tried-lifted s t s.form i b c.args.decisions.now c.lift.result c.requires.failed (at_bottom b not_met least) up c.lift.ensures.lifts c.lift.ensures.stays c.lift.ensures.not_past c.lift.ensures.past c.lift.ensures.none

pub returns-in-No-clause-works : goal.returns-in-No-clause-works
returns-in-No-clause-works g c =
    let s = core_search_of c.args.self.now in
    let n = c.lift.new.self in
    let t = core_search_of c.lift.new.self in
    let old = c.args.self.now in
    let w = c.requires.works in
    let k = c.lift.ensures.kept in
    let same : t ≡ record s { form = t.form } = lift-same s t (lifted s.form c.args.place (to_z w64 (of_z w64 c.min-least.result))) s.form c.lift.result c.lift.ensures.lifts c.lift.ensures.stays in
    let trail : t.search.store ≡ s.search.store = ap (λ (x : CoreSearch). x.search.store) same in
    works-form s t (g.B.Brancher.scope old.brancher) (g.B.Brancher.scope n.brancher) (g.B.Brancher.agrees old.brancher s.search.store) (g.B.Brancher.agrees n.brancher t.search.store) old.kept n.kept w c.lift.ensures.sound same
    (ap (λ (x : _). g.B.Brancher.scope x) k.0) k.1
    (subst (λ (x : _). g.B.Brancher.agrees x t.search.store n.kept) (sym k.0) (subst (λ (x : Trail). g.B.Brancher.agrees old.brancher x n.kept) (sym trail) (subst (λ (m : ℕ). g.B.Brancher.agrees old.brancher s.search.store m) (sym k.1) w.agreed)))

pub lift_core-requires : goal.lift_core-requires
lift_core-requires g c = record {
  works = c.requires.works;
  not_false = λ falls. not-no c.truth.result c.in-Yes.is (c.truth.ensures.no.1 (subst (λ (x : Trail). IsFalseNow x c.args.atom) (sym c.store.ensures) falls));
  running = c.requires.running;
  failed = c.requires.failed;
  atom = c.requires.atom;
}
