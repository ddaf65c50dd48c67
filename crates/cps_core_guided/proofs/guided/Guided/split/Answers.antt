-- The sum that was defined is that of the core, and what the form is split by is read of the frame and of the worker.
use Rattle.std.specs.Prelude.{Ok}
use Rattle.std.proofs.Common.{◌≡◌, ◌∙◌, ◌<◌, ◌^◌, ◌+◌, ℕ, ℤ, Bool, List, ap, arith, of_z, pos, refl, subst, sym, to_z, unsigned_abs, w64}
use Rattle.cps_model.specs.declared.bound.Bound.{Bound}
use Rattle.cps_model.specs.declared.model.CpModel.{CpModel}
use Rattle.cps_instance.specs.declared.term.Term.{Term}
use Rattle.cps_instance.specs.Problem.{Problem}
use Rattle.cps_instance.specs.Sums.{DefinedSum}
use Rattle.cps_trail.specs.Trail.{IsSoundTrail, Trail}
use Rattle.cps_port.specs.Order.{IsSmallBound}
use Rattle.cps_search.specs.Growing.{GrewBy}
use Rattle.cps_search.specs.Searches.{NoneBelow, Search}
use Rattle.cps_search.proofs.Results.{ok_if}
use Rattle.cps_reform.specs.Cores.{core_sum, core_terms, least_weight, split, IsSomeAbove}
use Rattle.cps_reform.specs.Floors.{IsCoreSum, IsGreatestObjective, IsFormPast, IsReform, NoneIsBelow, OfEachBelow}
use Rattle.cps_reform.specs.Forms.{Form}
use Rattle.cps_reform.proofs.GrownForms.{core-reach, core-subjects, grown-core, grown-reform, grown-sum}
use Rattle.cps_core_guided.specs.CoreTurns.{IsCoreWorking}
use Rattle.cps_core_guided.specs.Guiding.{SplitsCore, core_search_of}
use Rattle.cps_core_guided.specs.Reforming.{CoreSearch}
use Rattle.cps_core_guided.proofs.CoreInvariants.{works-grown}
use Rattle.cps_core_guided.proofs.Reforms.{most-greatest, read-greatest, small-greatest, z-small}
use Rattle.cps_core_guided.proofs.Results.{if_ok_of}
use Rattle.cps_core_guided.proofs.guided.Guided.split.Goals as goal

-- the sum that was defined is that of the core
of_core : (s t : Search) (terms core : List Term) (subject : ℕ) → terms ≡ core → GrewBy s t (record { terms = terms; offset = pos 0 }) subject → GrewBy s t (record { terms = core; offset = pos 0 }) subject
of_core s t terms core subject same grew = subst (λ (us : List Term). GrewBy s t (record { terms = us; offset = pos 0 }) subject) same grew

same_z : (s t : Search) (sum : DefinedSum) (subject : ℕ) → GrewBy s t sum subject → t.z ≡ s.z
same_z s t sum subject grew = ap (λ (x : Search). x.z) grew.is

pub grow-requires-clause-subjects : goal.grow-requires-clause-subjects
grow-requires-clause-subjects g c =
    let s = core_search_of c.args.self.now in
    rw c.requires.core (core-subjects s.search.instance.domains s.form.terms c.requires.works.sound.form.roomy.terms)

pub grow-requires-clause-small : goal.grow-requires-clause-small
grow-requires-clause-small g c =
    let s = core_search_of c.args.self.now in
    rw c.requires.core (core-reach s.search.instance.domains s.form c.requires.works.sound.form.roomy c.requires.weights)

pub split_below-requires-clause-reform : goal.split_below-requires-clause-reform
split_below-requires-clause-reform g c =
    let s = core_search_of c.args.self.now in
    let t = c.grow.new.self in
    let n = c.in_ok-subject.subject in
    let grew = of_core s.search t c.args.core.now (core_terms s.form.terms) n c.requires.core c.in_ok-subject.ensures.grew in
    let z = same_z s.search t (core_sum s.form.terms) n grew in
    subst (λ (p : Problem). IsReform p c.z.result s.form) (sym c.instance.ensures) (subst (λ (b : Bound). IsReform t.instance b s.form) (sym (c.z.ensures ∙ z))
    (grown-reform s.search.instance t.instance s.form n grew.defines c.in_ok-subject.ensures.sound.instance s.search.z c.requires.works.sound.form))

pub split_below-requires-clause-sum : goal.split_below-requires-clause-sum
split_below-requires-clause-sum g c =
    let s = core_search_of c.args.self.now in
    let t = c.grow.new.self in
    let n = c.in_ok-subject.subject in
    let grew = of_core s.search t c.args.core.now (core_terms s.form.terms) n c.requires.core c.in_ok-subject.ensures.grew in
    subst (λ (p : Problem). IsCoreSum p s.form.terms n) (sym c.instance.ensures)
    (grown-sum s.search.instance t.instance s.form n grew.defines c.in_ok-subject.ensures.sound.instance c.requires.works.sound.form.roomy)

pub split_below-requires-clause-core : goal.split_below-requires-clause-core
split_below-requires-clause-core g c =
    let s = core_search_of c.args.self.now in
    let t = c.grow.new.self in
    let n = c.in_ok-subject.subject in
    let grew = of_core s.search t c.args.core.now (core_terms s.form.terms) n c.requires.core c.in_ok-subject.ensures.grew in
    let z = same_z s.search t (core_sum s.form.terms) n grew in
    subst (λ (p : Problem). OfEachBelow p c.z.result (λ xs. IsSomeAbove xs s.form.terms)) (sym c.instance.ensures) (subst (λ (b : Bound). OfEachBelow t.instance b (λ xs. IsSomeAbove xs s.form.terms)) (sym (c.z.ensures ∙ z))
    (grown-core s.search.instance t.instance s.form n grew.defines c.in_ok-subject.ensures.sound.instance c.requires.works.sound.form.roomy s.search.z c.requires.above))

pub split_below-requires-clause-z : goal.split_below-requires-clause-z
split_below-requires-clause-z g c = subst (λ (z : Bound). IsSmallBound z) (sym c.z.ensures) (z-small c.grow.new.self c.in_ok-subject.ensures.sound)

pub split_below-requires-clause-greatest : goal.split_below-requires-clause-greatest
split_below-requires-clause-greatest g c =
    let s = core_search_of c.args.self.now in
    let t = c.grow.new.self in
    let grew = c.in_ok-subject.ensures.grew in
    let model : c.instance.result.now.model ≡ s.search.instance.model = ap (λ (p : Problem). p.model) c.instance.ensures ∙ grew.defines.model in
    subst (λ (m : CpModel). IsGreatestObjective m (to_z w64 (of_z w64 s.greatest))) (sym model)
    (subst (λ (v : ℤ). IsGreatestObjective s.search.instance.model v) (sym (read-greatest s c.requires.works.sound)) (most-greatest s c.requires.works.sound))

pub split_below-requires-clause-small : goal.split_below-requires-clause-small
split_below-requires-clause-small g c =
    let s = core_search_of c.args.self.now in
    subst (λ (v : ℤ). unsigned_abs v < 2 ^ 62) (sym (read-greatest s c.requires.works.sound)) (small-greatest s c.requires.works.sound)

pub returns-clause-splits : goal.returns-clause-splits
returns-clause-splits g c =
    let s = core_search_of c.args.self.now in
    let t = c.grow.new.self in
    let f : Form = c.split_below.new.self in
    let n = c.in_ok-subject.subject in
    let grew = of_core s.search t c.args.core.now (core_terms s.form.terms) n c.requires.core c.in_ok-subject.ensures.grew in
    let u : CoreSearch = record s { search = t; form = f; sums = s.sums + 1 } in
    let z = same_z s.search t (core_sum s.form.terms) n grew in
    if_ok_of c.split_below.result (SplitsCore s u) (λ done e. record {
      subject = n;
      grew = grew;
      sums = refl;
      is = λ on. c.split_below.ensures.splits (e ∙ ap (λ (b : Bool). Ok b) on);
      stays = λ off. c.split_below.ensures.stays (e ∙ ap (λ (b : Bool). Ok b) off);
      not_past = λ on. subst (λ (p : Problem). IsFormPast t.z s.greatest p.domains f → ⊥) c.instance.ensures
          (subst (λ (v : ℤ). IsFormPast t.z v c.instance.result.now.domains f → ⊥) (read-greatest s c.requires.works.sound)
          (subst (λ (b : Bound). IsFormPast b (to_z w64 (of_z w64 s.greatest)) c.instance.result.now.domains f → ⊥) c.z.ensures (c.split_below.ensures.not_past (e ∙ ap (λ (b : Bool). Ok b) on))));
      past = λ off. subst (λ (p : Problem). IsFormPast t.z s.greatest p.domains (split s.form (least_weight s.form.terms) n)) c.instance.ensures
          (subst (λ (v : ℤ). IsFormPast t.z v c.instance.result.now.domains (split s.form (least_weight s.form.terms) n)) (read-greatest s c.requires.works.sound)
          (subst (λ (b : Bound). IsFormPast b (to_z w64 (of_z w64 s.greatest)) c.instance.result.now.domains (split s.form (least_weight s.form.terms) n)) c.z.ensures (c.split_below.ensures.past (e ∙ ap (λ (b : Bool). Ok b) off))));
      none_below = λ off. subst (λ (m : CpModel). NoneBelow m s.search.z) grew.defines.model (subst (λ (b : Bound). NoneBelow t.instance.model b) z
          (subst (λ (b : Bound). NoneIsBelow t.instance b) c.z.ensures (subst (λ (p : Problem). NoneIsBelow p c.z.result) c.instance.ensures (c.split_below.ensures.none (e ∙ ap (λ (b : Bool). Ok b) off)))));
      raised = refl;
      greatest = refl;
      ended = refl;
      core = refl;
    })

pub returns-clause-works : goal.returns-clause-works
returns-clause-works g c =
    let s = core_search_of c.args.self.now in
    let t = c.grow.new.self in
    let f : Form = c.split_below.new.self in
    let b = c.args.self.now.brancher in
    let kept = c.args.self.now.kept in
    let grew = of_core s.search t c.args.core.now (core_terms s.form.terms) c.in_ok-subject.subject c.requires.core c.in_ok-subject.ensures.grew in
    let reform : IsReform t.instance t.z f = subst (λ (p : Problem). IsReform p t.z f) c.instance.ensures (subst (λ (z : Bound). IsReform c.instance.result.now z f) c.z.ensures c.split_below.ensures.reform) in
    let level : t.store.level ≡ 0 = ap (λ (x : Search). x.store.level) grew.is ∙ c.requires.bottom in
    let scope = g.B.Brancher.scope b in
    let agrees = g.B.Brancher.agrees b in
    let works : IsCoreWorking (record s { search = t; form = f; sums = s.sums + 1 }) scope (agrees t.store) kept =
    works-grown s t f (core_sum s.form.terms) c.in_ok-subject.subject scope agrees kept c.requires.works c.requires.few c.in_ok-subject.ensures.sound grew reform c.split_below.ensures.base
    (subst (λ (x : Trail). IsSoundTrail x) c.store.ensures c.entries.ensures.sound) level c.requires.running (λ same was. g.met.B.Brancher.kept_on b s.search.store t.store kept kept (omega arith) same was) in
    ok_if c.split_below.result (IsCoreWorking (record s { search = t; form = f; sums = s.sums + 1 }) scope (agrees t.store) kept) works
