-- A base and a store come to rest by settling, and may be settled again after a clause or a decision.
use Rattle.std.proofs.Common.{ℕ, ◌+◌, ◌≤◌, ◌<◌, ◌≡◌, List, [], ◌∷◌, ◌++◌, length, take, get_or, false, refl, sym, ◌∙◌, ap, subst, inl, inr, ◌⊎◌, arith, length-append, Ok, Err}
use Rattle.std.specs.Prelude.{Result, OnOk}
use Rattle.std.specs.List.{All}
use Rattle.std.proofs.lemmas.List.{take_all, get_or_append_left, get_or_push}
use Rattle.std.proofs.lemmas.List.Elements.{All-nil}
use Rattle.cps_model.specs.declared.bound.Bound.{Bound}
use Rattle.cps_literal.specs.declared.atom.Atom.{Atom}
use Rattle.cps_trail.specs.Trail.{Domains, Entry, Decision, Trail}
use Rattle.cps_trail.specs.Adds.{Infers}
use Rattle.cps_trail.specs.Notes.{AllFit, HasNote, IsGivenAt, ByClauses}
use Rattle.cps_trail.proofs.Giving.{IsGivenAt-added, IsGivenAt-kept, IsGivenAt-weaker}
use Rattle.cps_clauses.specs.declared.origin.Origin.{Origin}
use Rattle.cps_clauses.specs.Quiet.{Fits, IsQuiet}
use Rattle.cps_clauses.specs.Bases.{Base, IsBaseInStep, in_force_of, with_clause}
use Rattle.cps_clauses.proofs.ClauseSubjects.{Fits-more, Fits-none}
use Rattle.cps_clauses.proofs.Notes.{ByClauses-more}
use Rattle.cps_clauses.proofs.QuietClauses.{IsQuiet-none, IsQuiet-decide}
use Rattle.cps_clauses.proofs.BasesInStep.{IsBaseInStep-none, IsBaseInStep-added, IsBaseInStep-front}
use Rattle.cps_learning_tests.specs.Resting.{IsBaseReady, IsBaseAtRest}

-- what holds where a call succeeded, and it did
pub at_ok : {T E P : Type 0} (r : Result T E) (v : T) → r ≡ Ok v → OnOk r P → P
at_ok (Ok w) v e h = h
at_ok (Err x) v e h = cc

old_or_new : (k n : ℕ) → (k < n) ⊎ (n ≤ k)
old_or_new k n = grind arith

-- an entry that stood before had its note then
note_kept : (s t : Trail) (added : List Entry) (k : ℕ) → t.entries ≡ s.entries ++ added → k < length s.entries → HasNote t k → HasNote s k
note_kept s t added k e l h = record {
  note = h.note;
  is = λ d.
      let same : get_or t.entries k d ≡ get_or s.entries k d = ap (λ (es : List Entry). get_or es k d) e ∙ get_or_append_left s.entries added d k l in
      ap (λ (x : Entry). x.reason) (sym same) ∙ h.is d;
}

-- a decision has no note
no_note : (s t : Trail) (e : Entry) (k : ℕ) → t.entries ≡ s.entries ++ e ∷ [] → e.reason ≡ Decision → k ≡ length s.entries → HasNote t k → ⊥
no_note s t e k es decision at h =
    let is : get_or t.entries k e ≡ e = ap (λ (fs : List Entry). get_or fs k e) es ∙ get_or_push s.entries e e k (sym at) in
    let note = h.is e in
    let reason = ap (λ (x : Entry). x.reason) is in
    cc

pub fit_inferred : (clauses : List (List Atom)) (s t : Trail) → Infers (ByClauses clauses) s t → AllFit (IsGivenAt (ByClauses clauses)) s → AllFit (IsGivenAt (ByClauses clauses)) t
fit_inferred clauses s t h given k l has = elim (old_or_new k (length s.entries)) [
  | inl old ↦ IsGivenAt-kept (ByClauses clauses) s t h.added k h.first h.entries old (given k old (note_kept s t h.added k h.entries old has))
  | inr new ↦ IsGivenAt-added (ByClauses clauses) s t k h new l
]

fit_decided : (clauses : List (List Atom)) (s t : Trail) (e : Entry) → t.first ≡ s.first → t.entries ≡ s.entries ++ e ∷ [] → e.reason ≡ Decision → AllFit (IsGivenAt (ByClauses clauses)) s → AllFit (IsGivenAt (ByClauses clauses)) t
fit_decided clauses s t e first es decision given k l has = elim (old_or_new k (length s.entries)) [
  | inl old ↦ IsGivenAt-kept (ByClauses clauses) s t (e ∷ []) k first es old (given k old (note_kept s t (e ∷ []) k es old has))
  | inr new ↦
      let at : k ≡ length s.entries = (let m = ap (λ (fs : List Entry). length fs) es in omega (arith, m, length-append s.entries (e ∷ []), l, new)) in
      absurd (no_note s t e k es decision at has)
]

fit_added : (clauses added : List (List Atom)) (s : Trail) → AllFit (IsGivenAt (ByClauses clauses)) s → AllFit (IsGivenAt (ByClauses (clauses ++ added))) s
fit_added clauses added s given k l has = IsGivenAt-weaker (ByClauses clauses) (ByClauses (clauses ++ added)) (ByClauses-more clauses added) s k (given k l has)

-- no clause, and no entry
pub IsBaseAtRest-none : (b : Base) (s : Trail) → b ≡ record { clauses = []; dropped = []; learnt = []; journal = []; refused = false; watched = record { watches = []; settled = 0; visits = 0 } } → s.entries ≡ [] → IsBaseAtRest b s
IsBaseAtRest-none b s new none =
    let clauses = ap (λ (x : Base). x.clauses) new in
    record {
      fits = Fits-none s.first b clauses;
      sizes = ap (λ (x : Base). length x.dropped) new ∙ sym (ap (λ (x : Base). length x.clauses) new);
      quiet = subst (λ (cs : List (List Atom)). IsQuiet cs s (s.level + 1)) (sym (ap (λ (x : Base). in_force_of x) new)) (record { at = λ level less. All-nil _ });
      in_step = IsBaseInStep-none b s.first s.entries clauses (ap (λ (x : Base). x.watched.watches) new) (ap (λ (x : Base). x.watched.settled) new);
      given = λ k l has. absurd (omega (arith, l, ap (λ (es : List Entry). length es) none));
    }

-- what is at rest at level 0 may be settled from its last entry on
pub IsBaseReady-rest : (b : Base) (s : Trail) (from : ℕ) → from ≡ length s.entries → s.level ≡ 0 → IsBaseAtRest b s → IsBaseReady b s from
IsBaseReady-rest b s from all bottom rest = record {
  fits = rest.fits;
  sizes = rest.sizes;
  quiet = IsQuiet-none _ _ _ bottom;
  within = omega (arith, all);
  in_step = subst (λ (es : List Entry). IsBaseInStep b s.first es) (sym (take_all from s.entries (omega (arith, all)))) rest.in_step;
  given = rest.given;
}

-- one more clause, at level 0
pub IsBaseReady-added : (b new : Base) (s : Trail) (clause : List Atom) (below : Bound) (origin : Origin) (from : ℕ) → new ≡ with_clause b clause below origin → s.level ≡ 0 → Fits s.first clause → IsBaseReady b s from → IsBaseReady new s from
IsBaseReady-added b new s clause below origin from e bottom here ready =
    subst (λ (x : Base). IsBaseReady x s from) (sym e) (record {
      fits = Fits-more s.first b (with_clause b clause below origin) clause below origin refl ready.fits here;
      sizes = omega (arith, ready.sizes, length-append b.dropped (false ∷ []), length-append b.clauses (clause ∷ []));
      quiet = IsQuiet-none _ _ _ bottom;
      within = ready.within;
      in_step = IsBaseInStep-added b s.first (take from s.entries) clause below origin ready.sizes ready.in_step;
      given = fit_added b.clauses (clause ∷ []) s ready.given;
    })

-- a decision
pub IsBaseReady-decided : (b : Base) (s t : Trail) (atom : Atom) (from : ℕ) → t ≡ record s { entries = s.entries ++ record { atom = atom; level = s.level + 1; reason = Decision } ∷ []; level = s.level + 1 } → from ≡ length s.entries → IsBaseAtRest b s → IsBaseReady b t from
IsBaseReady-decided b s t atom from e all rest =
    let entry : Entry = record { atom = atom; level = s.level + 1; reason = Decision } in
    let first : t.first ≡ s.first = ap (λ (x : Trail). x.first) e in
    let entries : t.entries ≡ s.entries ++ entry ∷ [] = ap (λ (x : Trail). x.entries) e in
    record {
      fits = subst (λ (f : Domains). All (Fits f) b.clauses) (sym first) rest.fits;
      sizes = rest.sizes;
      quiet = IsQuiet-decide (in_force_of b) s t entry refl e rest.quiet;
      within = omega (arith, all, ap (λ (es : List Entry). length es) entries, length-append s.entries (entry ∷ []));
      in_step = subst (λ (n : ℕ). IsBaseInStep b t.first (take n t.entries)) (sym all)
          (subst (λ (f : Domains). IsBaseInStep b f (take (length s.entries) t.entries)) (sym first)
          (subst (λ (es : List Entry). IsBaseInStep b s.first (take (length s.entries) es)) (sym entries) (IsBaseInStep-front b s.first s.entries (entry ∷ []) rest.in_step)));
      given = fit_decided b.clauses s t entry first entries refl rest.given;
    }

-- settling brings to rest
pub IsBaseAtRest-settled : (b new : Base) (s t : Trail) (from : ℕ) → IsBaseReady b s from → new ≡ record b { watched = new.watched } → Infers (ByClauses b.clauses) s t → IsQuiet (in_force_of b) t (t.level + 1) → IsBaseInStep new t.first t.entries → IsBaseAtRest new t
IsBaseAtRest-settled b new s t from ready keeps infers quiet step =
    let clauses : b.clauses ≡ new.clauses = sym (ap (λ (x : Base). x.clauses) keeps) in
    record {
      fits = subst (λ (cs : List (List Atom)). All (Fits t.first) cs) clauses (subst (λ (f : Domains). All (Fits f) b.clauses) (sym infers.first) ready.fits);
      sizes = ap (λ (x : Base). length x.dropped) keeps ∙ ready.sizes ∙ ap (λ (cs : List (List Atom)). length cs) clauses;
      quiet = subst (λ (cs : List (List Atom)). IsQuiet cs t (t.level + 1)) (sym (ap (λ (x : Base). in_force_of x) keeps)) quiet;
      in_step = step;
      given = subst (λ (cs : List (List Atom)). AllFit (IsGivenAt (ByClauses cs)) t) clauses (fit_inferred b.clauses s t infers ready.given);
    }
