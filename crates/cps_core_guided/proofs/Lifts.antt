-- How a reform goes from step to step: the core is marked, and its only term is lifted, or it is split by its sum.
use Rattle.std.specs.Prelude.{unsigned_abs}
use Rattle.std.proofs.Common.{◌≡◌, inl, inr, ℕ, ◌<◌, ◌≤◌, ◌^◌, Bool, true, false, List, length, sym, ◌∙◌, ap, subst, arith, ℤ, pos, ◌+ℤ◌, ◌<ℤ◌, to_z, of_z, w64}
use Rattle.std.proofs.lemmas.Int.{ints}
use Rattle.cps_literal.specs.declared.atom.Atom.{Atom}
use Rattle.cps_trail.specs.Trail.{IsFalseNow, IsSoundTrail}
use Rattle.cps_trail.proofs.Falls.{bool_cases}
use Rattle.cps_branch.specs.Scope.{Scope}
use Rattle.cps_search.specs.Searches.{NoneBelow, Search}
use Rattle.cps_reform.specs.Forms.{Form, lifted, term_at}
use Rattle.cps_reform.specs.Cores.{WeighAtLeast, core_terms, least_weight, split}
use Rattle.cps_reform.specs.Floors.{IsFormPast}
use Rattle.cps_reform.specs.Marks.{IsCoreMarked, assumed}
use Rattle.cps_reform.proofs.Rooms.{least-some}
use Rattle.cps_core_guided.specs.CoreTurns.{IsCoreWorking}
use Rattle.cps_core_guided.specs.Guiding.{HasFailed, SplitsCore, Tried}
use Rattle.cps_core_guided.specs.Reforming.{CoreSearch, IsSoundCore, ReformsTo, several}
use Rattle.cps_core_guided.proofs.CoreInvariants.{works-core}
use Rattle.cps_core_guided.proofs.CoreSoundness.{sound-form}
use Rattle.cps_core_guided.proofs.Reforms.{marked-reform, read_back}

-- a search that has another form at most
pub lift-same : (s t : CoreSearch) (f g : Form) (done : Bool) → (done ≡ true → t ≡ record s { form = f }) → (done ≡ false → t ≡ record s { form = g }) → t ≡ record s { form = t.form }
lift-same s t f g done yes' no' = elim (bool_cases done) [
  | inl on ↦ same (yes' on)
  | inr off ↦ same (no' off)
]
  where
    same : {f : Form} → t ≡ record s { form = f } → t ≡ record s { form = t.form }
    same {f} is = is ∙ ap (λ (x : Form). record s { form = x }) (sym (ap (λ (c : CoreSearch). c.form) is))

pub works-form : (s t : CoreSearch) (scope scope' : Scope) (agrees agrees' : ℕ → Type 0) (kept kept' : ℕ) → IsCoreWorking s scope agrees kept → IsSoundCore t → t ≡ record s { form = t.form } → scope' ≡ scope → kept' ≡ kept → agrees' kept' → IsCoreWorking t scope' agrees' kept'
works-form s t scope scope' agrees agrees' kept kept' h sound is same count agreed =
    let few = h.few in
    let within = h.within in
    let imported : t.search.imported ≡ s.search.imported = ap (λ (c : CoreSearch). c.search.imported) is in
    let size : length t.search.store.entries ≡ length s.search.store.entries = ap (λ (c : CoreSearch). length c.search.store.entries) is in
    let longer : length t.search.instance.domains ≡ length s.search.instance.domains = ap (λ (c : CoreSearch). length c.search.instance.domains) is in
    works-core s t scope scope' agrees agrees' kept kept' h sound
    (record { model = ap (λ (c : CoreSearch). c.search.instance.model) is; gap = ap (λ (c : CoreSearch). c.search.gap) is; budget = ap (λ (c : CoreSearch). c.search.budget) is; refused = ap (λ (c : CoreSearch). c.search.refused) is; greatest = ap (λ (c : CoreSearch). c.greatest) is })
    (omega (arith, longer)) same (omega (arith, few, imported)) (omega (arith, within, size, count)) agreed

-- a sound search whose core was marked
pub marked-sound : (s : CoreSearch) (g : Form) (place : ℕ) (decisions : List Atom) → IsSoundCore s → s.search.store.level ≡ 0 → IsSoundTrail s.search.store → IsCoreMarked s.form g place decisions → IsSoundCore (record s { form = g })
marked-sound s g place decisions h bottom sound m =
    sound-form s g h (marked-reform s.search.instance s.search.z s.form g place decisions m h.form) (subst (λ (b : ℤ). unsigned_abs b < 2 ^ 62) (sym m.base) h.base) sound bottom

-- a term was lifted, or no solution is below z
pub tried-lifted : (s t : CoreSearch) (g : Form) (place : ℕ) (bound : ℤ) (decisions : List Atom) (done : Bool) → HasFailed s place decisions → ReformsTo s.search.store s.search.instance s.form place decisions s.search.instance (lifted g place bound) 0
    → s.form.base <ℤ (lifted g place bound).base → (done ≡ true → t ≡ record s { form = lifted g place bound }) → (done ≡ false → t ≡ record s { form = g })
    → (done ≡ true → IsFormPast s.search.z s.greatest s.search.instance.domains t.form → ⊥) → (done ≡ false → IsFormPast s.search.z s.greatest s.search.instance.domains (lifted g place bound)) → (done ≡ false → NoneBelow s.search.instance.model s.search.z)
    → Tried s t place decisions done
tried-lifted s t g place bound decisions done h reforms rises yes' no' not_past past none =
    let f = lifted g place bound in
    let same = lift-same s t f g done yes' no' in
    let search : t.search ≡ s.search = ap (λ (c : CoreSearch). c.search) same in
    let greatest : t.greatest ≡ s.greatest = ap (λ (c : CoreSearch). c.greatest) same in
    let is : done ≡ true → t.form ≡ f = λ on. ap (λ (c : CoreSearch). c.form) (yes' on) in
    record {
      form = f;
      more = 0;
      reforms = subst (λ (x : Search). ReformsTo s.search.store s.search.instance s.form place decisions x.instance f 0) (sym search) reforms;
      sums = (let e = ap (λ (c : CoreSearch). c.sums) same in omega (arith, e));
      is = is;
      rises = λ on. rises;
      not_past = λ on. subst (λ (x : Search). IsFormPast x.z t.greatest x.instance.domains f → ⊥) (sym search) (subst (λ (v : ℤ). IsFormPast s.search.z v s.search.instance.domains f → ⊥) (sym greatest)
          (subst (λ (x : Form). IsFormPast s.search.z s.greatest s.search.instance.domains x → ⊥) (is on) (not_past on)));
      past = λ off. subst (λ (x : Search). IsFormPast x.z t.greatest x.instance.domains f) (sym search) (subst (λ (v : ℤ). IsFormPast s.search.z v s.search.instance.domains f) (sym greatest) (past off));
      none_below = none;
      setting = record { model = ap (λ (x : Search). x.instance.model) search; gap = ap (λ (x : Search). x.gap) search; budget = ap (λ (x : Search). x.budget) search; refused = ap (λ (x : Search). x.refused) search; greatest = greatest };
      entries = ap (λ (x : Search). x.store.entries) search;
      level = ap (λ (x : Search). x.store.level) search ∙ h.bottom;
      z = ap (λ (x : Search). x.z) search;
      learnt = record { tally = ap (λ (x : Search). x.tally) search; base = ap (λ (x : Search). x.base) search };
      imported = ap (λ (x : Search). x.imported) search;
      best = ap (λ (x : Search). x.best) search;
      search_raised = ap (λ (x : Search). x.raised) search;
      search_core = ap (λ (x : Search). x.core) search;
      raised = ap (λ (c : CoreSearch). c.raised) same;
      ended = ap (λ (c : CoreSearch). c.ended) same;
      core = ap (λ (c : CoreSearch). c.core) same;
      phase = ap (λ (x : Search). x.phase) search ∙ h.phase;
    }

-- a core of several terms was split, or no solution is below z
pub tried-split : (s t : CoreSearch) (g : Form) (place : ℕ) (decisions : List Atom) (done : Bool) → HasFailed s place decisions → (IsFalseNow s.search.store (assumed (term_at s.form.terms place)) → ⊥) → IsCoreMarked s.form g place decisions
    → 2 ≤ length (core_terms g.terms) → WeighAtLeast 1 g.terms → SplitsCore (record s { form = g }) t done → Tried s t place decisions done
tried-split s t g place decisions done h not_false m two weighs sp =
    let is = sp.grew.is in
    let some = least-some g.terms weighs in
    let base = m.base in
    record {
      form = split g (least_weight g.terms) sp.subject;
      more = 1;
      reforms = several g t.search.instance sp.subject not_false m two sp.grew.defines;
      sums = sp.sums;
      is = sp.is;
      rises = λ on. omega (arith, ints, some, base);
      not_past = λ on. subst (λ (x : Form). IsFormPast t.search.z t.greatest t.search.instance.domains x → ⊥) (sp.is on) (sp.not_past on);
      past = sp.past;
      none_below = sp.none_below;
      setting = record { model = sp.grew.defines.model; gap = ap (λ (x : Search). x.gap) is; budget = ap (λ (x : Search). x.budget) is; refused = ap (λ (x : Search). x.refused) is; greatest = sp.greatest };
      entries = ap (λ (x : Search). x.store.entries) is;
      level = ap (λ (x : Search). x.store.level) is ∙ h.bottom;
      z = ap (λ (x : Search). x.z) is;
      learnt = record { tally = ap (λ (x : Search). x.tally) is; base = ap (λ (x : Search). x.base) is };
      imported = ap (λ (x : Search). x.imported) is;
      best = ap (λ (x : Search). x.best) is;
      search_raised = ap (λ (x : Search). x.raised) is;
      search_core = ap (λ (x : Search). x.core) is;
      raised = sp.raised;
      ended = sp.ended;
      core = sp.core;
      phase = ap (λ (x : Search). x.phase) is;
    }

-- one more than a bound, read back from its word
pub one_more : (v : ℤ) → unsigned_abs v < 2 ^ 62 → to_z w64 (of_z w64 (to_z w64 (of_z w64 v) +ℤ pos 1)) ≡ v +ℤ pos 1
one_more v small = ap (λ (x : ℤ). to_z w64 (of_z w64 (x +ℤ pos 1))) (read_back v small) ∙ next v small
  where
    next : (v : ℤ) → unsigned_abs v < 2 ^ 62 → to_z w64 (of_z w64 (v +ℤ pos 1)) ≡ v +ℤ pos 1
    next v small = omega (arith, ints)
