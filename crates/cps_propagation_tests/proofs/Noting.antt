-- Notes of stores after decisions and runs.
use Rattle.std.proofs.Common.{ℕ, ◌≤◌, ◌<◌, ℤ, ◌≡◌, List, [], ◌∷◌, ◌++◌, length, get_or, refl, sym, ◌∙◌, ap, arith, length-append, inl, inr, ◌⊎◌}
use Rattle.std.proofs.lemmas.List.{get_or_append_left}
use Rattle.cps_instance.specs.declared.task.Task.{Task}
use Rattle.cps_instance.specs.Tasks.{HoldsTask, lowered}
use Rattle.cps_trail.specs.declared.entry.EntryView.{EntryView}
use Rattle.cps_trail.specs.declared.note.Note.{Note}
use Rattle.cps_trail.specs.declared.note.Note.TheVariants as notes
use Rattle.cps_trail.specs.Trail.{Entry, Decision, Later, Trail}
use Rattle.cps_trail.specs.Views.{IsView, IsTaskNote}
use Rattle.cps_trail.specs.Adds.{Grounds, Infers}
use Rattle.cps_trail.specs.Notes.{AllFit, ByTask, HasNote, IsGivenAt}
use Rattle.cps_trail.proofs.Giving.{ByTask-weaker, IsGivenAt-added, IsGivenAt-kept, IsGivenAt-weaker}
use Rattle.cps_instance.proofs.Lowering.{lowered_said}
use Rattle.cps_propagation_tests.specs.Noted.{AreNotesOf, HasNoNotes}

pub none_noted : (s : Trail) → s.entries ≡ [] → HasNoNotes s
none_noted s none k l has = omega (arith, l, ap (λ (es : List Entry). length es) none)

pub none_fit : (fits : Trail → ℕ → Type 0) (s : Trail) → HasNoNotes s → AllFit fits s
none_fit fits s none k l has = absurd (none k l has)

old_or_new : (k n : ℕ) → (k < n) ⊎ (n ≤ k)
old_or_new k n = grind arith

-- an entry that was there before has the note that it had
noted_before : (s t : Trail) (added : List Entry) (k : ℕ) → t.entries ≡ s.entries ++ added → k < length s.entries → HasNote t k → HasNote s k
noted_before s t added k es l has = record {
  note = has.note;
  is = λ d. ap (λ (e : Entry). e.reason) (sym (ap (λ (fs : List Entry). get_or fs k d) es ∙ get_or_append_left s.entries added d k l)) ∙ has.is d;
}

decision_is_no_note : (n : Note) → Decision ≡ Later n → ⊥
decision_is_no_note n e = cc e

last_entry : (es : List Entry) (e d : Entry) → get_or (es ++ e ∷ []) (length es) d ≡ e
last_entry [] e d = refl
last_entry (f ∷ fs) e d = last_entry fs e d

-- a decision has no note
decided_last : (s t : Trail) (e : Entry) (k : ℕ) → t.entries ≡ s.entries ++ e ∷ [] → e.reason ≡ Decision → length s.entries ≤ k → k < length t.entries → HasNote t k → ⊥
decided_last s t e k es decision low high has =
    let at : k ≡ length s.entries = (let m = ap (λ (fs : List Entry). length fs) es in omega (arith, m, length-append s.entries (e ∷ []), low, high)) in
    let is : get_or t.entries k e ≡ e = ap (λ (fs : List Entry). get_or fs k e) es ∙ ap (λ (n : ℕ). get_or (s.entries ++ e ∷ []) n e) at ∙ last_entry s.entries e e in
    decision_is_no_note has.note (sym decision ∙ ap (λ (f : Entry). f.reason) (sym is) ∙ has.is e)

pub decided_noted : (s t : Trail) (e : Entry) → t.entries ≡ s.entries ++ e ∷ [] → e.reason ≡ Decision → HasNoNotes s → HasNoNotes t
decided_noted s t e es decision none k l has = elim (old_or_new k (length s.entries)) [
  | inl old ↦ none k old (noted_before s t (e ∷ []) k es old has)
  | inr new ↦ decided_last s t e k es decision new l has
]

pub decided_fit : (G : Grounds) (s t : Trail) (e : Entry) → t.first ≡ s.first → t.entries ≡ s.entries ++ e ∷ [] → e.reason ≡ Decision → AllFit (IsGivenAt G) s → AllFit (IsGivenAt G) t
decided_fit G s t e first es decision fit k l has = elim (old_or_new k (length s.entries)) [
  | inl old ↦ IsGivenAt-kept G s t (e ∷ []) k first es old (fit k old (noted_before s t (e ∷ []) k es old has))
  | inr new ↦ absurd (decided_last s t e k es decision new l has)
]

pub inferred_fit : (G : Grounds) (s t : Trail) → Infers G s t → AllFit (IsGivenAt G) s → AllFit (IsGivenAt G) t
inferred_fit G s t h fit k l has = elim (old_or_new k (length s.entries)) [
  | inl old ↦ IsGivenAt-kept G s t h.added k h.first h.entries old (fit k old (noted_before s t h.added k h.entries old has))
  | inr new ↦ IsGivenAt-added G s t k h new l
]

-- a lower end leaves the notes of the task
pub lowered_fit : (n : ℕ) (upper : ℤ) (task : Task) (s : Trail) → AreNotesOf n task s → AreNotesOf n (lowered upper task) s
lowered_fit n upper task s fit k l has =
    let C = HoldsTask task in
    let D = HoldsTask (lowered upper task) in
    IsGivenAt-weaker (ByTask n C) (ByTask n D) (ByTask-weaker n C D (lowered_said upper task)) s k (fit k l has)

-- an entry whose view shows the note of a task has a note
pub noted_view : (s : Trail) (k n : ℕ) (v : EntryView) → ((d : Entry) → IsView (get_or s.entries k d) v) → IsTaskNote v.reason n → HasNote s k
noted_view s k n v view note = record { note = notes.Task n note.a note.b; is = λ d. ((view d).note (notes.Task n note.a note.b)).0 note.is }
