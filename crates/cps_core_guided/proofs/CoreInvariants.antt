-- What a core-guided worker keeps over its turns.
use Rattle.std.specs.Prelude.{All, unsigned_abs, IfSome, IsSome}
use Rattle.std.proofs.Common.{◌⊎◌, Bool, false, refl, length-append, ◌+◌, ◌≡◌, ℕ, ℤ, ◌<◌, ◌≤◌, ◌^◌, Option, List, [], ◌∷◌, ◌++◌, length, take, sym, ◌∙◌, ap, subst, arith}
use Rattle.std.proofs.lemmas.List.Elements.{All-weaker}
use Rattle.cps_model.specs.declared.bound.Bound.{Bound}
use Rattle.cps_model.specs.declared.model.CpModel.{CpModel}
use Rattle.cps_instance.proofs.Growing.{same-append}
use Rattle.cps_instance.specs.Problem.{Problem}
use Rattle.cps_instance.specs.Sums.{DefinedSum}
use Rattle.cps_instance.specs.Terms.{Domains}
use Rattle.cps_literal.specs.declared.atom.Atom.{Atom}
use Rattle.cps_reform.specs.declared.held.Held.{Held}
use Rattle.cps_reform.specs.Forms.{Form, IsHeldInDomain}
use Rattle.cps_reform.specs.Floors.{IsReform}
use Rattle.cps_trail.specs.Trail.{IsSoundTrail, Trail, Entry, Decision, first_of}
use Rattle.cps_branch.specs.Scope.{Scope, IsScopeOf, AreSameUpTo}
use Rattle.cps_search.specs.Ends.{IsWorking}
use Rattle.cps_search.specs.Growing.{GrewBy}
use Rattle.cps_search.specs.Searches.{Search, IsSoundSearch}
use Rattle.cps_search.proofs.WorkerInvariants.{room}
use Rattle.cps_port.specs.Order.{BoundLe}
use Rattle.cps_search.specs.Turns.{GoesOnAndBack, SameSetting}
use Rattle.cps_search.specs.Moves.{moved, decided}
use Rattle.cps_core_guided.specs.Assuming.{AreAssumed, IsSomeAssumption}
use Rattle.cps_core_guided.specs.Reforming.{CoreSearch, IsSoundCore, most_sums}
use Rattle.cps_core_guided.proofs.CoreSoundness.{sound-decided, sound-grown, sound-stepped}
use Rattle.cps_core_guided.specs.CoreTurns.{IsCoreWorking, SameCoreSetting}

-- there is room for one more clause
pub core-room : (s : CoreSearch) (scope : Scope) (agrees : ℕ → Type 0) (kept : ℕ) → IsCoreWorking s scope agrees kept → length s.search.base.clauses < 2 ^ 32
core-room s scope agrees kept h =
    let working : IsWorking s.search scope agrees kept = record { sound = h.sound.search; of_problem = h.of_problem; budget = h.budget; has_budget = h.has_budget; few = h.few; within = h.within; agreed = h.agreed } in
    room s.search scope agrees kept working

pub scope-grown : (p q : Problem) (scope : Scope) → q.model ≡ p.model → length p.domains ≤ length q.domains → IsScopeOf p scope → IsScopeOf q scope
scope-grown p q scope model longer h =
    let within = h.subjects_within in
    record { variables_are = h.variables_are ∙ sym (ap (λ (m : CpModel). length m.variables) model); subjects_within = omega (arith, longer, within) }

-- a worker goes on, over the same problem or over one with more sums
pub works-core : (s t : CoreSearch) (scope scope' : Scope) (agrees agrees' : ℕ → Type 0) (kept kept' : ℕ) → IsCoreWorking s scope agrees kept → IsSoundCore t → SameCoreSetting s t → length s.search.instance.domains ≤ length t.search.instance.domains → scope' ≡ scope
    → t.search.imported ≤ 4096 → kept' ≤ length t.search.store.entries → agrees' kept' → IsCoreWorking t scope' agrees' kept'
works-core s t scope scope' agrees agrees' kept kept' h sound setting longer same few within agreed = record {
  sound = sound;
  of_problem = subst (λ (x : Scope). IsScopeOf t.search.instance x) (sym same) (scope-grown s.search.instance t.search.instance scope setting.model longer h.of_problem);
  budget = subst (λ (b : Option ℕ). IfSome b (λ budget. budget ≤ 10 ^ 9)) (sym setting.budget) h.budget;
  has_budget = subst (λ (b : Option ℕ). IsSome b) (sym setting.budget) h.has_budget;
  few = few;
  within = within;
  agreed = agreed;
}

-- each term of the form is about a subject of the store, where both are read
pub terms-inside : (s : CoreSearch) (x : Trail) (ts : List Held) → IsSoundCore s → x ≡ s.search.store → ts ≡ s.form.terms → All (λ t. t.subject < length x.first) ts
terms-inside s x ts h store terms =
    let size : length x.first ≡ length s.search.instance.domains = ap (λ (y : Trail). length y.first) store ∙ ap (λ (ds : Domains). length ds) h.search.domains in
    subst (λ (us : List Held). All (λ t. t.subject < length x.first) us) (sym terms)
    (All-weaker (IsHeldInDomain s.search.instance.domains) (λ t. t.subject < length x.first) (λ t k. let inside = k.subject in omega (arith, inside, size)) s.form.terms h.form.roomy.terms)

-- a worker that raised the lower bound works on
pub works-concluded : (v : CoreSearch) (r : Option Bound) (e : Bool) (core : List ℤ) (scope : Scope) (agrees : ℕ → Type 0) (kept : ℕ) → IsCoreWorking v scope agrees kept → IsSoundCore (record v { raised = r; ended = e; core = core })
    → IsCoreWorking (record v { raised = r; ended = e; core = core }) scope agrees kept
works-concluded v r e core scope agrees kept w sound = record { sound = sound; of_problem = w.of_problem; budget = w.budget; has_budget = w.has_budget; few = w.few; within = w.within; agreed = w.agreed }

-- the stores before and after a sum is defined have the same entries, over the same domains of the subjects that a brancher asks of
pub same-grown : (p : Problem) (scope : Scope) (s t : Trail) (kept : ℕ) (added : List (ℤ × ℤ)) → IsScopeOf p scope → s.first ≡ p.domains → t.first ≡ p.domains ++ added ∷ [] → t.entries ≡ s.entries → AreSameUpTo scope.subjects kept s t
same-grown p scope s t kept added of first more entries = record {
  domains = λ i l.
      let within = of.subjects_within in
      ap (λ (ds : Domains). first_of ds i) more ∙ sym (same-append p.domains (added ∷ []) i (omega (arith, l, within))) ∙ sym (ap (λ (ds : Domains). first_of ds i) first);
  entries = ap (λ (es : List Entry). take kept es) entries;
}

-- a decision that is an assumption, or that is made where all of them are true
pub works-decided : (s : CoreSearch) (t : Search) (a : Atom) (scope scope' : Scope) (agrees agrees' : ℕ → Type 0) (kept kept' : ℕ) → IsCoreWorking s scope agrees kept → IsSoundSearch t → t ≡ moved s.search (decided s.search.store a) s.search.rested
    → s.ended ≡ false → (s.sums < most_sums → IsSomeAssumption s.search.instance.model.assumptions s.form.terms a ⊎ AreAssumed s.search.store.first s.search.store.entries s.form.terms) → scope' ≡ scope → kept' ≤ length s.search.store.entries → agrees' kept' → IsCoreWorking (record s { search = t }) scope' agrees' kept'
works-decided s t a scope scope' agrees agrees' kept kept' h sound is running new same within agreed =
    let e : Entry = record { atom = a; level = s.search.store.level + 1; reason = Decision } in
    let size : length t.store.entries ≡ length s.search.store.entries + 1 = ap (λ (x : Search). length x.store.entries) is ∙ length-append s.search.store.entries (e ∷ []) in
    let few = h.few in
    let imported : t.imported ≡ s.search.imported = ap (λ (x : Search). x.imported) is in
    let longer : length t.instance.domains ≡ length s.search.instance.domains = ap (λ (x : Search). length x.instance.domains) is in
    works-core s (record s { search = t }) scope scope' agrees agrees' kept kept' h (sound-decided s t a h.sound sound is running new)
    (record { model = ap (λ (x : Search). x.instance.model) is; gap = ap (λ (x : Search). x.gap) is; budget = ap (λ (x : Search). x.budget) is; refused = ap (λ (x : Search). x.refused) is; greatest = refl })
    (omega (arith, longer)) same (omega (arith, few, imported)) (omega (arith, within, size)) agreed

-- a sum more at level 0, with a form over it
pub works-grown : (s : CoreSearch) (t : Search) (f : Form) (sum : DefinedSum) (subject : ℕ) (scope : Scope) (agrees : Trail → ℕ → Type 0) (kept : ℕ) → IsCoreWorking s scope (agrees s.search.store) kept → s.sums < most_sums → IsSoundSearch t → GrewBy s.search t sum subject
    → IsReform t.instance t.z f → unsigned_abs f.base < 2 ^ 62 → IsSoundTrail t.store → t.store.level ≡ 0 → s.ended ≡ false → (AreSameUpTo scope.subjects kept s.search.store t.store → agrees s.search.store kept → agrees t.store kept)
    → IsCoreWorking (record s { search = t; form = f; sums = s.sums + 1 }) scope (agrees t.store) kept
works-grown s t f sum subject scope agrees kept h few sound grew reform small store bottom running on =
    let d = grew.defines in
    let is = grew.is in
    let longer : length t.instance.domains ≡ length s.search.instance.domains + 1 = ap (λ (ds : Domains). length ds) d.domains ∙ length-append s.search.instance.domains (d.added ∷ []) in
    let imported : t.imported ≡ s.search.imported = ap (λ (x : Search). x.imported) is in
    let entries : t.store.entries ≡ s.search.store.entries = ap (λ (x : Search). x.store.entries) is in
    let size = ap (λ (es : List Entry). length es) entries in
    let within = h.within in
    let most = h.few in
    works-core s (record s { search = t; form = f; sums = s.sums + 1 }) scope scope (agrees s.search.store) (agrees t.store) kept kept h
    (sound-grown s t f sum subject h.sound few sound grew reform small store bottom running)
    (record { model = d.model; gap = ap (λ (x : Search). x.gap) is; budget = ap (λ (x : Search). x.budget) is; refused = ap (λ (x : Search). x.refused) is; greatest = refl })
    (omega (arith, longer)) refl (omega (arith, most, imported)) (omega (arith, within, size))
    (on (same-grown s.search.instance scope s.search.store t.store kept d.added h.of_problem h.sound.search.domains (ap (λ (x : Search). x.store.first) is ∙ d.domains) entries) h.agreed)

-- a step of the frame, after which the last entries may go
pub works-frame : (s : CoreSearch) (t : Search) (scope scope' : Scope) (agrees agrees' : ℕ → Type 0) (kept kept' : ℕ) → IsCoreWorking s scope agrees kept → IsSoundSearch t → SameSetting s.search t → BoundLe t.z s.search.z → s.ended ≡ false → GoesOnAndBack s.search.store t.store → scope' ≡ scope
    → t.imported ≤ 4096 → kept' ≤ length t.store.entries → agrees' kept' → IsCoreWorking (record s { search = t }) scope' agrees' kept'
works-frame s t scope scope' agrees agrees' kept kept' h sound setting falls running store same few within agreed =
    let longer : length t.instance.domains ≡ length s.search.instance.domains = ap (λ (p : Problem). length p.domains) setting.instance in
    works-core s (record s { search = t }) scope scope' agrees agrees' kept kept' h (sound-stepped s t h.sound sound setting.instance setting.logs falls running store)
    (record { model = ap (λ (p : Problem). p.model) setting.instance; gap = setting.gap; budget = setting.budget; refused = setting.refused; greatest = refl })
    (omega (arith, longer)) same few within agreed
