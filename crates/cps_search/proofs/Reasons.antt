-- The reasons that one task or one clause gives hold below a search's bound, and stay reasons of a store with more entries.
use Rattle.std.proofs.Common.{ℕ, ◌≤◌, ◌<◌, ℤ, ◌≡◌, ◌∙◌, ◌⊎◌, inl, inr, zero, suc, List, [], ◌∷◌, length, take, take-take, get_or, sym, ap, subst, arith}
use Rattle.std.proofs.lemmas.List.{get_or-take}
use Rattle.cps_model.specs.Solutions.{objective_value, IsFree}
use Rattle.cps_literal.specs.declared.atom.Atom.{Atom}
use Rattle.cps_literal.specs.Truth.{atom_holds}
use Rattle.cps_instance.specs.declared.task.Task.{Task}
use Rattle.cps_instance.specs.Sums.{extended}
use Rattle.cps_trail.specs.declared.note.Note.TheVariants as notes
use Rattle.cps_trail.specs.Trail.{Domains, Entry, Trail, Reason, Because, Later, Explains, IsAdmitted, IsWithin}
use Rattle.cps_trail.specs.Adds.{Follows}
use Rattle.cps_trail.specs.Notes.{IsReason}
use Rattle.cps_instance.specs.Tasks.{subjects_of}
use Rattle.cps_propagate.specs.Reasons.{SpeaksOf}
use Rattle.cps_port.specs.Order.{IsBelow}
use Rattle.cps_conflict.specs.Conflicts.{AreTrueNotes, AreTrueReasons, Premises, reason_holds}
use Rattle.cps_conflict.specs.Behind.{ComesOfConflict}
use Rattle.cps_conflict.specs.Leading.{IsFetched}
use Rattle.cps_conflict.proofs.Coming.{comes_same}
use Rattle.cps_search.specs.Giving.{ByAll, IsReasonOfOne}
use Rattle.cps_search.specs.Forcing.{forced_by_all, reason_of_one}
use Rattle.cps_search.specs.Resting.{AllHold}
use Rattle.cps_search.specs.Searches.{Search, HoldsOver, IsSoundSearch}
use Rattle.cps_search.proofs.GivenEntries.{AreGiven-fit, has_note}
use Rattle.cps_search.proofs.BelowBounds.{IsBelowBound, free_within, reasons_below}
use Rattle.cps_search.proofs.SearchInvariants.{all_below, reasons_of}

-- where tasks and clauses hold, each reason that one of them gives does
pub true_reasons : (tasks : List Task) (clauses : List (List Atom)) (s : Trail) (a : List ℤ) → IsWithin s.first a → AllHold tasks clauses a → AreTrueReasons (IsReasonOfOne tasks clauses s) s a
true_reasons tasks clauses s a within holds k clause l one = (reason_of_one tasks clauses s k clause one).follows.at a within holds

-- so below the bound of a search
module _ (s : Search) (h : IsSoundSearch s) (a : List ℤ) (free : IsFree s.instance.model a) (below : IsBelow (objective_value s.instance.model a) s.z) where
  pub reasons_there : AreTrueReasons (IsReasonOfOne s.tasks s.base.clauses s.store) s.store (extended s.instance.defs a)
  reasons_there = true_reasons s.tasks s.base.clauses s.store (extended s.instance.defs a) (free_within s.instance s.store.first a h.instance h.domains free) (all_below s h a free below)

  pub notes_there : AreTrueNotes s.store (extended s.instance.defs a)
  notes_there k d n l e left = ((forced_by_all s.tasks s.base.clauses s.store k (has_note s.store k d n l e) (AreGiven-fit (ByAll s.tasks s.base.clauses) s.store h.given k l (has_note s.store k d n l e))).at d).at (extended s.instance.defs a) left (all_below s h a free below)

-- what a conflict and the reasons give holds below the bound, where the conflict does
pub premises_below : (s : Search) (conflict : List Atom) → IsSoundSearch s → HoldsOver s.instance s.z conflict → IsBelowBound s.instance s.z (Premises (IsReasonOfOne s.tasks s.base.clauses s.store) s.store conflict)
premises_below s conflict h holds a free below = record {
  clause = holds a free below;
  reasons = reasons_below s.instance s.z s.store.entries a (reasons_of s h) free below;
  made = reasons_there s h a free below;
  noted = notes_there s h a free below;
}

-- a store that lost its last entries
module _ (tasks : List Task) (clauses : List (List Atom)) (s t : Trail) (first : t.first ≡ s.first) (front : t.entries ≡ take (length t.entries) s.entries) where
  entry_same : (k : ℕ) (d : Entry) → k < length t.entries → get_or t.entries k d ≡ get_or s.entries k d
  entry_same k d l = ap (λ (es : List Entry). get_or es k d) front ∙ get_or-take (length t.entries) s.entries k d l

  front_same : (k : ℕ) → k < length t.entries → take k t.entries ≡ take k s.entries
  front_same k l = ap (λ (es : List Entry). take k es) front ∙ take-take k (length t.entries) s.entries (omega (arith, l))

  fewer : length t.entries ≤ length s.entries
  fewer = shorter (length t.entries) s.entries (ap (λ (es : List Entry). length es) front)
    where
      old_or_new : (k n : ℕ) → (k < n) ⊎ (n ≤ k)
      old_or_new k n = grind arith

      most : (n : ℕ) (es : List Entry) → length (take n es) ≤ length es
      most zero es = omega arith
      most (suc n) [] = omega arith
      most (suc n) (f ∷ fs) = (let rest = most n fs in omega (arith, rest))

      shorter : (n : ℕ) (es : List Entry) → n ≡ length (take n es) → n ≤ length es
      shorter n es e = elim (old_or_new (length es) n) [
        | inl less ↦ absurd (let m : length (take n es) ≤ length es = most n es in omega (arith, less, e, m))
        | inr fits ↦ fits
      ]

  explained_same : (k : ℕ) (d : Entry) (c : List Atom) → k < length t.entries → Explains t.first (take k t.entries) c (get_or t.entries k d).atom → Explains s.first (take k s.entries) c (get_or s.entries k d).atom
  explained_same k d c l h =
      subst (λ (e : Entry). Explains s.first (take k s.entries) c e.atom) (entry_same k d l)
      (subst (λ (es : List Entry). Explains s.first es c (get_or t.entries k d).atom) (front_same k l)
      (subst (λ (ds : Domains). Explains ds (take k t.entries) c (get_or t.entries k d).atom) first h))

  reason_same : (k : ℕ) (d : Entry) (r : Reason) → k < length t.entries → (get_or t.entries k d).reason ≡ r → (get_or s.entries k d).reason ≡ r
  reason_same k d r l e = ap (λ (x : Entry). x.reason) (sym (entry_same k d l)) ∙ e

  made_same : (C : List ℤ → Type 0) (k : ℕ) (c : List Atom) → k < length t.entries → IsReason C t k c → IsReason C s k c
  made_same C k c l h = record { explains = λ d. explained_same k d c l (h.explains d); follows = subst (λ (ds : Domains). Follows C ds c) first h.follows }

  -- a reason of an entry that is left is one of it before
  one_same : (k : ℕ) (c : List Atom) → k < length t.entries → IsReasonOfOne tasks clauses t k c → IsReasonOfOne tasks clauses s k c
  one_same k c l one = elim one [
    | inl h ↦ inl (record {
      number = h.number;
      named = record { a = h.named.a; b = h.named.b; is = λ d. reason_same k d (Later (notes.Task h.number h.named.a h.named.b)) l (h.named.is d) };
      within = h.within;
      given = λ d. made_same _ k c l (h.given d);
      speaks = λ d e. subst (λ (x : Entry). SpeaksOf (x.atom.subject ∷ subjects_of (get_or tasks h.number d)) c) (entry_same k e l) (h.speaks d e);
    })
    | inr h ↦ inr (record {
      number = h.number;
      named = record { is = λ d. reason_same k d (Later (notes.InForce h.number)) l (h.named.is d) };
      within = h.within;
      is = h.is;
      explains = λ d. explained_same k d c l (h.explains d);
    })
  ]

  -- so what the conflict and all reasons say, it and those that are left say
  pub premises_back : (conflict : List Atom) (a : List ℤ) → Premises (IsReasonOfOne tasks clauses s) s conflict a → Premises (IsReasonOfOne tasks clauses t) t conflict a
  premises_back conflict a p = record {
    clause = p.clause;
    reasons = λ k d l. ap (λ (e : Entry). reason_holds a e.reason) (entry_same k d l) ∙ p.reasons k d (omega (arith, l, fewer));
    made = λ k c l one. p.made k c (omega (arith, l, fewer)) (one_same k c l one);
    noted = λ k d n l is left.
        ap (λ (e : Entry). atom_holds a e.atom) (entry_same k d l)
        ∙ p.noted k d n (omega (arith, l, fewer)) (reason_same k d (Later n) l is)
        (subst (λ (es : List Entry). IsAdmitted s.first es a) (front_same k l) (subst (λ (ds : Domains). IsAdmitted ds (take k t.entries) a) first left));
  }

  -- and what follows from those that are left follows from all
  pub lesson_follows : (conflict clause : List Atom) → Follows (Premises (IsReasonOfOne tasks clauses t) t conflict) t.first clause → Follows (Premises (IsReasonOfOne tasks clauses s) s conflict) s.first clause
  lesson_follows conflict clause h = record { at = λ a within p. h.at a (subst (λ (ds : Domains). IsWithin ds a) (sym first) within) (premises_back conflict a p) }

  -- and what comes of a conflict by those that are left comes of it by all
  pub lesson_comes : (level : ℕ) (conflict clause : List Atom) → ComesOfConflict (IsFetched (IsReasonOfOne tasks clauses t) t) t level conflict clause → ComesOfConflict (IsFetched (IsReasonOfOne tasks clauses s) s) s level conflict clause
  lesson_comes level conflict clause h = comes_same (IsFetched (IsReasonOfOne tasks clauses t) t) (IsFetched (IsReasonOfOne tasks clauses s) s) s t first front
      (λ k c l given. elim given [ inl kept ↦ inl (λ d. reason_same k d (Because c) l (kept d)) | inr one ↦ inr (one_same k c l one) ]) level conflict clause h
