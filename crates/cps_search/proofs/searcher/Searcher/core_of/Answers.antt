use Rattle.std.specs.List.{All}
use Rattle.std.proofs.Common.{rules, FitsSigned, w32, ◌≡◌, ◌∙◌, ◌<◌, ℤ, List, length, get_or, pos, ap, arith, subst, sym}
use Rattle.std.proofs.lemmas.Int.{to_z-of_z}
use Rattle.cps_model.specs.declared.bound.Bound.{Bound}
use Rattle.cps_literal.specs.declared.atom.Atom.{Atom}
use Rattle.cps_instance.specs.Posting.{atom_of}
use Rattle.cps_instance.specs.Problem.{variable_count}
use Rattle.cps_trail.specs.Trail.{IsFalseNow, IsSoundTrail}
use Rattle.cps_search.specs.Assumptions.{AreOnceInOrder, IsAssumed, IsCoreBelow, IsInCore, IsSufficient, assumption_at}
use Rattle.cps_search.specs.Exhausting.{IsAssumptionCore, IsCoreOf}
use Rattle.cps_search.specs.Searches.{Search}
use Rattle.cps_search.specs.Growing.{AreBehindIn}
use Rattle.cps_search.proofs.Cores.{assumed_subjects, assumed_variables, failed_assumed, failed_none, failed_sufficient}
use Rattle.cps_search.proofs.searcher.Searcher.core_of.Goals as goal

pub decisions_behind-requires-clause-subject : goal.decisions_behind-requires-clause-subject
decisions_behind-requires-clause-subject g c =
    let s = c.args.self.now in
    let same : c.assumptions-assumptions.result.now ≡ s.instance.model.assumptions = c.assumptions-assumptions.ensures ∙ ap (λ (x : Search). x.instance.model.assumptions) c.self.view_is in
    let r = get_or c.assumptions-assumptions.result.now c.args.failed (pos 0) in
    let fits : FitsSigned w32 r = search rules in
    let atom : c.atom_of.result ≡ assumption_at s.instance.model.assumptions c.args.failed = c.atom_of.ensures ∙ ap atom_of (to_z-of_z w32 r fits) ∙ ap (λ (rs : List ℤ). assumption_at rs c.args.failed) same in
    subst (λ (t : Atom). t.subject < length s.store.first) (sym atom) (assumed_subjects s c.requires.sound c.args.failed (pos 0) c.requires.failed.within)

pub decisions_behind-requires-clause-false_now : goal.decisions_behind-requires-clause-false_now
decisions_behind-requires-clause-false_now g c =
    let s = c.args.self.now in
    let same : c.assumptions-assumptions.result.now ≡ s.instance.model.assumptions = c.assumptions-assumptions.ensures ∙ ap (λ (x : Search). x.instance.model.assumptions) c.self.view_is in
    let r = get_or c.assumptions-assumptions.result.now c.args.failed (pos 0) in
    let fits : FitsSigned w32 r = search rules in
    let atom : c.atom_of.result ≡ assumption_at s.instance.model.assumptions c.args.failed = c.atom_of.ensures ∙ ap atom_of (to_z-of_z w32 r fits) ∙ ap (λ (rs : List ℤ). assumption_at rs c.args.failed) same in
    subst (λ (t : Atom). IsFalseNow s.store t) (sym atom) c.requires.failed.false_now

pub core_by_decisions-requires-clause-variables : goal.core_by_decisions-requires-clause-variables
core_by_decisions-requires-clause-variables g c =
    let s = c.args.self.now in
    let same : c.assumptions-assumptions.result.now ≡ s.instance.model.assumptions = c.assumptions-assumptions.ensures ∙ ap (λ (x : Search). x.instance.model.assumptions) c.self.view_is in
    subst (λ (rs : List ℤ). All (λ r. (atom_of r).subject < c.variable_count-count.result) rs) (sym same)
    (λ k r l. (let named = assumed_variables s.instance.model c.requires.sound.instance.valid k r l in omega (arith, named, c.variable_count-count.ensures ∙ ap (λ (x : Search). variable_count x.instance) c.self.view_is)))

pub core_by_decisions-requires-clause-decisions : goal.core_by_decisions-requires-clause-decisions
core_by_decisions-requires-clause-decisions g c =
    let s = c.args.self.now in
    let same : c.assumptions-assumptions.result.now ≡ s.instance.model.assumptions = c.assumptions-assumptions.ensures ∙ ap (λ (x : Search). x.instance.model.assumptions) c.self.view_is in
    let r = get_or c.assumptions-assumptions.result.now c.args.failed (pos 0) in
    let fits : FitsSigned w32 r = search rules in
    let atom : c.atom_of.result ≡ assumption_at s.instance.model.assumptions c.args.failed = c.atom_of.ensures ∙ ap atom_of (to_z-of_z w32 r fits) ∙ ap (λ (rs : List ℤ). assumption_at rs c.args.failed) same in
    let decisions = c.in_ok-decisions.decisions.items in
    let behind : AreBehindIn s (assumption_at s.instance.model.assumptions c.args.failed) decisions = subst (λ (t : Atom). AreBehindIn s t decisions) atom c.in_ok-decisions.ensures in
    subst (λ (ts : List Atom). All (IsAssumed c.assumptions-assumptions.result.now) ts) (sym c.as_slice.ensures.value)
    (subst (λ (rs : List ℤ). All (IsAssumed rs) decisions) (sym same) (failed_assumed s c.args.failed decisions c.requires.sound (subst (λ (x : Search). IsSoundTrail x.store) c.self.view_is c.entries.ensures.sound) c.requires.failed behind))

pub returns-in-At-clause-none : goal.returns-in-At-clause-none
returns-in-At-clause-none g c =
    let s = c.args.self.now in
    let same : c.assumptions-assumptions.result.now ≡ s.instance.model.assumptions = c.assumptions-assumptions.ensures ∙ ap (λ (x : Search). x.instance.model.assumptions) c.self.view_is in
    let r = get_or c.assumptions-assumptions.result.now c.args.failed (pos 0) in
    let fits : FitsSigned w32 r = search rules in
    let atom : c.atom_of.result ≡ assumption_at s.instance.model.assumptions c.args.failed = c.atom_of.ensures ∙ ap atom_of (to_z-of_z w32 r fits) ∙ ap (λ (rs : List ℤ). assumption_at rs c.args.failed) same in
    let decisions = c.in_ok-decisions.decisions.items in
    let behind : AreBehindIn s (assumption_at s.instance.model.assumptions c.args.failed) decisions = subst (λ (t : Atom). AreBehindIn s t decisions) atom c.in_ok-decisions.ensures in
    failed_none s c.requires.sound c.args.failed c.requires.failed.within decisions (failed_assumed s c.args.failed decisions c.requires.sound (subst (λ (x : Search). IsSoundTrail x.store) c.self.view_is c.entries.ensures.sound) c.requires.failed behind) behind

pub returns-clause-core : goal.returns-clause-core
returns-clause-core g c =
    let s = c.args.self.now in
    let rs = s.instance.model.assumptions in
    let same : c.assumptions-assumptions.result.now ≡ rs = c.assumptions-assumptions.ensures ∙ ap (λ (x : Search). x.instance.model.assumptions) c.self.view_is in
    let r = get_or c.assumptions-assumptions.result.now c.args.failed (pos 0) in
    let fits : FitsSigned w32 r = search rules in
    let atom : c.atom_of.result ≡ assumption_at rs c.args.failed = c.atom_of.ensures ∙ ap atom_of (to_z-of_z w32 r fits) ∙ ap (λ (xs : List ℤ). assumption_at xs c.args.failed) same in
    let decisions = c.in_ok-decisions.decisions.items in
    let behind : AreBehindIn s (assumption_at rs c.args.failed) decisions = subst (λ (t : Atom). AreBehindIn s t decisions) atom c.in_ok-decisions.ensures in
    let core = c.in_ok-core-in-Infinite.core.items in
    let just : AreOnceInOrder (IsInCore rs c.args.failed decisions) rs core =
    subst (λ (ts : List Atom). AreOnceInOrder (IsInCore rs c.args.failed ts) rs core) c.as_slice.ensures.value
    (subst (λ (xs : List ℤ). AreOnceInOrder (IsInCore xs c.args.failed c.as_slice.result.now) xs core) same c.in_ok-core-in-Infinite.ensures) in
    subst (λ (z : Bound). IsCoreOf s c.args.failed z c.from_vec.result) (sym c.in-Infinite.is ∙ ap (λ (x : Search). x.z) c.self.view_is)
    (subst (λ (xs : List ℤ). IsAssumptionCore s c.args.failed xs) (sym c.from_vec.ensures) (record { decisions = decisions; behind = behind; just = just }))

pub returns-clause-below : goal.returns-clause-below
returns-clause-below g c =
    let s = c.args.self.now in
    let rs = s.instance.model.assumptions in
    let same : c.assumptions-assumptions.result.now ≡ rs = c.assumptions-assumptions.ensures ∙ ap (λ (x : Search). x.instance.model.assumptions) c.self.view_is in
    let r = get_or c.assumptions-assumptions.result.now c.args.failed (pos 0) in
    let fits : FitsSigned w32 r = search rules in
    let atom : c.atom_of.result ≡ assumption_at rs c.args.failed = c.atom_of.ensures ∙ ap atom_of (to_z-of_z w32 r fits) ∙ ap (λ (xs : List ℤ). assumption_at xs c.args.failed) same in
    let decisions = c.in_ok-decisions.decisions.items in
    let behind : AreBehindIn s (assumption_at rs c.args.failed) decisions = subst (λ (t : Atom). AreBehindIn s t decisions) atom c.in_ok-decisions.ensures in
    let core = c.in_ok-core-in-Infinite.core.items in
    let just : AreOnceInOrder (IsInCore rs c.args.failed decisions) rs core =
    subst (λ (ts : List Atom). AreOnceInOrder (IsInCore rs c.args.failed ts) rs core) c.as_slice.ensures.value
    (subst (λ (xs : List ℤ). AreOnceInOrder (IsInCore xs c.args.failed c.as_slice.result.now) xs core) same c.in_ok-core-in-Infinite.ensures) in
    subst (λ (z : Bound). IsCoreBelow s.instance.model z c.from_vec.result) (sym c.in-Infinite.is ∙ ap (λ (x : Search). x.z) c.self.view_is)
    (subst (λ (xs : List ℤ). IsSufficient s.instance.model xs) (sym c.from_vec.ensures)
    (failed_sufficient s c.requires.sound c.args.failed c.requires.failed.within decisions (failed_assumed s c.args.failed decisions c.requires.sound (subst (λ (x : Search). IsSoundTrail x.store) c.self.view_is c.entries.ensures.sound) c.requires.failed behind) behind core (sym (ap (λ (x : Search). x.z) c.self.view_is) ∙ c.in-Infinite.is) just))

pub returns-clause-none : goal.returns-clause-none
returns-clause-none g c =
    let s = c.args.self.now in
    let rs = s.instance.model.assumptions in
    let same : c.assumptions-assumptions.result.now ≡ rs = c.assumptions-assumptions.ensures ∙ ap (λ (x : Search). x.instance.model.assumptions) c.self.view_is in
    let r = get_or c.assumptions-assumptions.result.now c.args.failed (pos 0) in
    let fits : FitsSigned w32 r = search rules in
    let atom : c.atom_of.result ≡ assumption_at rs c.args.failed = c.atom_of.ensures ∙ ap atom_of (to_z-of_z w32 r fits) ∙ ap (λ (xs : List ℤ). assumption_at xs c.args.failed) same in
    let decisions = c.in_ok-decisions.decisions.items in
    let behind : AreBehindIn s (assumption_at rs c.args.failed) decisions = subst (λ (t : Atom). AreBehindIn s t decisions) atom c.in_ok-decisions.ensures in
    failed_none s c.requires.sound c.args.failed c.requires.failed.within decisions (failed_assumed s c.args.failed decisions c.requires.sound (subst (λ (x : Search). IsSoundTrail x.store) c.self.view_is c.entries.ensures.sound) c.requires.failed behind) behind
