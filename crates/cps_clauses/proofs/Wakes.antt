-- What an entry wakes, list by list.
use Rattle.std.proofs.Common.{ℕ, zero, suc, ◌+◌, ◌*◌, ◌≤◌, ◌<◌, ℤ, ◌<ℤ◌, ◌≡◌, List, [], ◌∷◌, length, take, get_or, refl, sym, ◌∙◌, ap, subst, inl, inr, ◌⊎◌, arith, length-append}
use Rattle.std.proofs.lemmas.Int.{ints, by_lt_z}
use Rattle.std.proofs.lemmas.List.{get_or_default, get_or_past, get_or_append_left}
use Rattle.cps_literal.specs.declared.atom.Op.{Op}
use Rattle.cps_literal.specs.declared.atom.Op.TheVariants.{Le, Ge, Eq, Ne}
use Rattle.cps_literal.specs.declared.atom.Atom.{Atom}
use Rattle.cps_literal.specs.Normal.{rank}
use Rattle.cps_trail.specs.Trail.{Entry, Trail, IsFalseAfter}
use Rattle.cps_trail.proofs.Times.{IsFalseAfter-back}
use Rattle.cps_clauses.specs.declared.watch.Watch.{Watch}
use Rattle.cps_clauses.specs.declared.watch.Watcher.{Watcher}
use Rattle.cps_clauses.specs.declared.list_walk.ListWalk.{ListWalk}
use Rattle.cps_clauses.specs.Watches.{no_atom, no_watcher, clause_of, watch_of, slot_of, IsWatched, IsWatching, StandsInList, list_at}
use Rattle.cps_clauses.specs.Visits.{IsListWalk, IsOutcome, AreSafe, AreDone, WakesNone, WakesNoneOf, atom_at}
use Rattle.cps_clauses.proofs.QuietClauses.{nat_cases}
use Rattle.cps_clauses.proofs.Guards.{safe_infers, safe_open, safe_satisfied, safe_next, short_satisfied, safe_outcome}
use Rattle.cps_clauses.proofs.ListWalks.{atom_of_slot, slot_of_op, watched_atom}
use Rattle.cps_trail.specs.Notes.{ByClauses}

-- the operators in order
pub some_op : (j : ℕ) (d : Op) → j < 4 → rank (get_or (Le ∷ Ge ∷ Eq ∷ Ne ∷ []) j d) ≡ j
some_op zero d l = refl
some_op (suc zero) d l = refl
some_op (suc (suc zero)) d l = refl
some_op (suc (suc (suc zero))) d l = refl
some_op (suc (suc (suc (suc j)))) d l = absurd (omega (arith, l))

pub rank_small : (o : Op) → rank o < 4
rank_small Le = omega arith
rank_small Ge = omega arith
rank_small Eq = omega arith
rank_small Ne = omega arith

-- an empty range: no atom of the list became false
pub done_by_range : (clauses : List (List Atom)) (watches : List Watch) (list_walk : ListWalk) (s : Trail) → IsListWalk s list_walk → list_walk.range.1 <ℤ list_walk.range.0 → AreSafe clauses watches s list_walk.entry → AreDone clauses watches list_walk.slot list_walk.entry s
done_by_range clauses watches list_walk s t empty safe i p d b two watched at =
    safe_next s.first s.entries list_walk.entry (clause_of clauses i) p
    (λ e l f.
    let is : get_or (clause_of clauses i) p e ≡ atom_at list_walk (get_or (clause_of clauses i) p e).value = atom_of_slot (get_or (clause_of clauses i) p e) list_walk (get_or (clause_of clauses i) p e).value (ap (λ (u : Atom). slot_of u) (get_or_default (clause_of clauses i) p e d l) ∙ at ∙ t.slot) refl in
    subst (λ (u : Atom). IsFalseAfter s.first (take list_walk.entry s.entries) u) (sym is)
    (outside s list_walk (get_or (clause_of clauses i) p e).value t empty (subst (λ (u : Atom). IsFalseAfter s.first (take (list_walk.entry + 1) s.entries) u) is f)))
    (safe.each i p b (omega (arith, two)) watched)
  where
    outside : (s : Trail) (list_walk : ListWalk) (v : ℤ) → IsListWalk s list_walk → list_walk.range.1 <ℤ list_walk.range.0 → IsFalseAfter s.first (take (list_walk.entry + 1) s.entries) (atom_at list_walk v) → IsFalseAfter s.first (take list_walk.entry s.entries) (atom_at list_walk v)
    outside s list_walk v t empty f = by_lt_z v list_walk.range.0 (λ low. t.range.below v low f) (λ high. t.range.above v (omega (arith, ints)) f)

-- no list: nothing is watched there
none_watched : (clauses : List (List Atom)) (watches : List Watch) (count : ℕ) (lists : List (List Watcher)) (slot i p : ℕ) (d : Atom) → length lists ≤ slot → IsWatching clauses watches count (list_at lists) → i < count → 2 ≤ length (clause_of clauses i) → IsWatched (watch_of watches i) p → slot_of (get_or (clause_of clauses i) p d) ≡ slot → ⊥
none_watched clauses watches count lists slot i p d past h b two watched at =
    let stands = h.listed i p d b two watched in
    let none : list_at lists (slot_of (get_or (clause_of clauses i) p d)) ≡ [] = ap (λ (j : ℕ). list_at lists j) at ∙ get_or_past lists slot [] past in
    let l : length (list_at lists (slot_of (get_or (clause_of clauses i) p d))) ≡ 0 = ap (λ (xs : List Watcher). length xs) none in
    omega (arith, l, stands.within)

pub done_by_none : (clauses : List (List Atom)) (watches : List Watch) (lists : List (List Watcher)) (slot k : ℕ) (s : Trail) → length lists ≤ slot → IsWatching clauses watches (length clauses) (list_at lists) → AreDone clauses watches slot k s
done_by_none clauses watches lists slot k s past h i p d b two watched at = absurd (none_watched clauses watches (length clauses) lists slot i p d past h b two watched at)

pub wakes_none_by_none : (clauses : List (List Atom)) (watches : List Watch) (count : ℕ) (lists : List (List Watcher)) (slot k : ℕ) (s : Trail) → length lists ≤ slot → IsWatching clauses watches count (list_at lists) → WakesNoneOf clauses watches count s k slot
wakes_none_by_none clauses watches count lists slot k s past h i p d b two watched at f = absurd (none_watched clauses watches count lists slot i p d past h b two watched at)

-- after the four lists of the entry's subject all watches are safe
pub woken : (clauses : List (List Atom)) (s0 s : Trail) (old new : List Watch) (count k subject : ℕ) (on : ℕ → List Watcher) → k < length s0.entries → ((d : Entry) → (get_or s0.entries k d).atom.subject ≡ subject) → AreSafe clauses old s0 k → IsOutcome clauses s0 old s new
    → IsWatching clauses new count on → ((o : Op) → AreDone clauses new (4 * subject + rank o) k s) → AreSafe clauses new s (k + 1)
woken clauses s0 s old new count k subject on l about safe outcome watching done =
    let now = safe_outcome clauses s0 s old new k (omega (arith, l)) outcome safe in
    record {
      each = λ i p b some watched. elim (sizes (clause_of clauses i)) [
        | inl short ↦ safe_satisfied s.first (take (k + 1) s.entries) s.entries (clause_of clauses i) p
            (short_satisfied s.first (take k s.entries) s.entries (clause_of clauses i) (watch_of new i) short (watching.pairs i b).apart (λ q h. now.each i q b some h))
        | inr long ↦ elim (nat_cases (get_or (clause_of clauses i) p no_atom).subject subject) [
          | inl e ↦ done (get_or (clause_of clauses i) p no_atom).op i p no_atom b long watched (slot_of_op (get_or (clause_of clauses i) p no_atom) subject (get_or (clause_of clauses i) p no_atom).op e refl)
          | inr ne ↦ safe_next s.first s.entries k (clause_of clauses i) p
              (λ d in_clause f. back (get_or (clause_of clauses i) p d) (λ e. ne (ap (λ (u : Atom). u.subject) (get_or_default (clause_of clauses i) p no_atom d in_clause) ∙ e)) f)
              (now.each i p b some watched)
        ]
      ];
    }
  where
    sizes : (c : List Atom) → (length c < 2) ⊎ (2 ≤ length c)
    sizes c = grind arith

    some_entry : (fs : List Entry) (j : ℕ) → j < length fs → Entry
    some_entry [] j b = absurd (omega (arith, b))
    some_entry (f ∷ fs) j b = f

    same_entry : (d : Entry) → get_or s.entries k d ≡ get_or s0.entries k d
    same_entry d = ap (λ (es : List Entry). get_or es k d) outcome.infers.entries ∙ get_or_append_left s0.entries outcome.infers.added d k l

    grown : k < length s.entries
    grown = omega (arith, l, ap (λ (es : List Entry). length es) outcome.infers.entries, length-append s0.entries outcome.infers.added)

    back : (t : Atom) → (t.subject ≡ subject → ⊥) → IsFalseAfter s.first (take (k + 1) s.entries) t → IsFalseAfter s.first (take k s.entries) t
    back t ne f =
        let d = some_entry s.entries k grown in
        IsFalseAfter-back s.first s.entries k d t grown f (λ e. absurd (ne (e ∙ ap (λ (x : Entry). x.atom.subject) (same_entry d) ∙ about d)))

-- the same where nothing was woken
pub wakes_none : (clauses : List (List Atom)) (watches : List Watch) (count : ℕ) (s : Trail) (k subject : ℕ) (on : ℕ → List Watcher) → k < length s.entries → ((d : Entry) → (get_or s.entries k d).atom.subject ≡ subject) → IsWatching clauses watches count on
    → ((o : Op) → WakesNoneOf clauses watches count s k (4 * subject + rank o)) → WakesNone clauses watches count s k
wakes_none clauses watches count s k subject on l about watching none i p d b two watched f = elim (nat_cases (get_or (clause_of clauses i) p d).subject subject) [
  | inl e ↦ none (get_or (clause_of clauses i) p d).op i p d b two watched (slot_of_op (get_or (clause_of clauses i) p d) subject (get_or (clause_of clauses i) p d).op e refl) f
  | inr ne ↦
      let d' = some_entry s.entries k l in
      IsFalseAfter-back s.first s.entries k d' (get_or (clause_of clauses i) p d) l f (λ e. absurd (ne (e ∙ about d')))
]
  where
    some_entry : (fs : List Entry) (j : ℕ) → j < length fs → Entry
    some_entry [] j b = absurd (omega (arith, b))
    some_entry (f ∷ fs) j b = f

-- no watcher of a list woke
pub none_of_list : (clauses : List (List Atom)) (watches : List Watch) (count slot : ℕ) (s : Trail) (list_walk : ListWalk) (lists : List (List Watcher)) → IsListWalk s list_walk → IsWatching clauses watches count (list_at lists)
    → ((n : ℕ) → n < length (list_at lists list_walk.slot) → IsWatched (watch_of watches (get_or (list_at lists list_walk.slot) n no_watcher).clause) (get_or (list_at lists list_walk.slot) n no_watcher).place
    → IsFalseAfter s.first (take (list_walk.entry + 1) s.entries) (atom_at list_walk (get_or (list_at lists list_walk.slot) n no_watcher).value) → IsFalseAfter s.first (take list_walk.entry s.entries) (atom_at list_walk (get_or (list_at lists list_walk.slot) n no_watcher).value))
    → WakesNoneOf clauses watches count s list_walk.entry list_walk.slot
none_of_list clauses watches count slot s list_walk lists t h none i p d b two watched at f =
    let there = h.listed i p d b two watched in
    let stands = subst (λ (k : ℕ). StandsInList (list_at lists k) 0 i p) at there in
    let w = get_or (list_at lists list_walk.slot) stands.at no_watcher in
    let same_clause : w.clause ≡ i = stands.is_clause no_watcher in
    let same_place : w.place ≡ p = stands.is_place no_watcher in
    let is : get_or (clause_of clauses i) p d ≡ atom_at list_walk w.value =
    subst (λ (j : ℕ). get_or (clause_of clauses j) p d ≡ atom_at list_walk (get_or (list_at lists list_walk.slot) stands.at no_watcher).value) same_clause
    (subst (λ (q : ℕ). get_or (clause_of clauses (get_or (list_at lists list_walk.slot) stands.at no_watcher).clause) q d ≡ atom_at list_walk (get_or (list_at lists list_walk.slot) stands.at no_watcher).value) same_place
    (watched_atom clauses s list_walk (get_or (list_at lists list_walk.slot) stands.at no_watcher) t (h.sound list_walk.slot stands.at no_watcher stands.within) d)) in
    subst (λ (u : Atom). IsFalseAfter s.first (take list_walk.entry s.entries) u) (sym is)
    (none stands.at stands.within
    (subst (λ (j : ℕ). IsWatched (watch_of watches j) (get_or (list_at lists list_walk.slot) stands.at no_watcher).place) (sym same_clause) (subst (λ (q : ℕ). IsWatched (watch_of watches i) q) (sym same_place) watched))
    (subst (λ (u : Atom). IsFalseAfter s.first (take (list_walk.entry + 1) s.entries) u) is f))

-- what was done stays so
pub done_outcome : (clauses : List (List Atom)) (s t : Trail) (old new : List Watch) (slot k : ℕ) → k < length s.entries → IsOutcome clauses s old t new → AreDone clauses old slot k s → AreDone clauses new slot k t
done_outcome clauses s t old new slot k l h done i p d b two watched at = elim ((h.moved.each i b).each p watched) [
  | inl before ↦ safe_infers (ByClauses clauses) s t (k + 1) (clause_of clauses i) p h.infers (omega (arith, l)) (done i p d b two before at)
  | inr open' ↦ safe_infers (ByClauses clauses) s t (k + 1) (clause_of clauses i) p h.infers (omega (arith, l)) (safe_open s (k + 1) s.entries (clause_of clauses i) p open')
]
