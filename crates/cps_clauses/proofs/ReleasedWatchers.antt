-- The watchers of clauses that were dropped leave their lists.
use Rattle.std.proofs.Common.{ℕ, ◌+◌, ◌-◌, ◌≤◌, ◌<◌, ◌≡◌, ◌⊎◌, Bool, true, false, List, [], length, get_or, set, refl, sym, true≢false, ◌∙◌, ap, subst, inl, inr, arith}
use Rattle.std.specs.List.{All, Contains}
use Rattle.std.proofs.lemmas.List.{get_or_default, get_or_past, get_or-take, get_or-set_other, length-set}
use Rattle.std.proofs.lemmas.List.Elements.{All-contains, All-contains_itself}
use Rattle.cps_literal.specs.declared.atom.Atom.{Atom}
use Rattle.cps_clauses.specs.declared.watch.Watch.{Watch}
use Rattle.cps_clauses.specs.declared.watch.Watcher.{Watcher}
use Rattle.cps_clauses.specs.InForce.{is_dropped, blanked}
use Rattle.cps_clauses.specs.Moves.{IsReleased}
use Rattle.cps_clauses.specs.Watches.{no_watcher, clause_of, watch_of, slot_of, IsWatchPair, IsWatcher, IsWatching, StandsInList, list_at, removed}
use Rattle.cps_clauses.proofs.DroppedClauses.{length-blanked, blanked_dropped, blanked_kept, blanked_some}
use Rattle.cps_clauses.proofs.Lists.{All-removed, length-removed, list_set_other, list_set_same, stands_removed}

-- so far: up to a place no watcher is of a clause that was dropped
pub record IsReleasedTo (dropped : List Bool) (old new : List Watcher) (n : ℕ) : Type 0 where
  pub within : n ≤ length new
  pub kept : (clause place : ℕ) → is_dropped dropped clause ≡ false → StandsInList old 0 clause place → StandsInList new 0 clause place
  pub left : (k : ℕ) → k < n → is_dropped dropped (get_or new k no_watcher).clause ≡ false
  pub origin : All (Contains old) new

pub released_none : (dropped : List Bool) (old : List Watcher) → IsReleasedTo dropped old old 0
released_none dropped old = record { within = omega arith; kept = λ clause place keeps s. s; left = λ k l. absurd (omega (arith, l)); origin = All-contains_itself old }

-- a watcher is passed
pub released_past : (dropped : List Bool) (old new : List Watcher) (n : ℕ) → n < length new → is_dropped dropped (get_or new n no_watcher).clause ≡ false → IsReleasedTo dropped old new n → IsReleasedTo dropped old new (n + 1)
released_past dropped old new n l keeps h = record {
  within = omega (arith, l);
  kept = h.kept;
  left = λ k b. elim (before_or k n b) [ inl before ↦ h.left k before | inr e ↦ subst (λ (j : ℕ). is_dropped dropped (get_or new j no_watcher).clause ≡ false) (sym e) keeps ];
  origin = h.origin;
}
  where
    before_or : (k n : ℕ) → k < n + 1 → (k < n) ⊎ (k ≡ n)
    before_or k n b = grind arith

-- a watcher is taken out
pub released_out : (dropped : List Bool) (old new : List Watcher) (n : ℕ) → n < length new → is_dropped dropped (get_or new n no_watcher).clause ≡ true → IsReleasedTo dropped old new n → IsReleasedTo dropped old (removed new n) n
released_out dropped old new n l gone h =
    let len = length-removed new n in
    record {
      within = omega (arith, l, len);
      kept = λ clause place keeps s. stands_removed new n 0 clause place (omega arith) l (h.kept clause place keeps s)
          (λ c q. true≢false (sym gone ∙ ap (λ (k : ℕ). is_dropped dropped k) c ∙ keeps));
      left = λ k b. ap (λ (w : Watcher). is_dropped dropped w.clause) (read k b) ∙ h.left k b;
      origin = All-removed (Contains old) new n l h.origin;
    }
  where
    read : (k : ℕ) → k < n → get_or (removed new n) k no_watcher ≡ get_or new k no_watcher
    read k b = get_or-take (length new - 1) (set new n (get_or new (length new - 1) no_watcher)) k no_watcher (omega (arith, b, l)) ∙ get_or-set_other new n k (get_or new (length new - 1) no_watcher) no_watcher (λ e. (let bad : ⊥ = omega (arith, e, b) in bad))

pub released_all : (dropped : List Bool) (old new : List Watcher) (n : ℕ) → length new ≤ n → IsReleasedTo dropped old new n → IsReleased dropped old new
released_all dropped old new n past h = record {
  kept = h.kept;
  left = λ k d l. subst (λ (w : Watcher). is_dropped dropped w.clause ≡ false) (get_or_default new k no_watcher d l) (h.left k (omega (arith, l, past)));
  origin = h.origin;
}

pub released_empty : (dropped : List Bool) (old new : List Watcher) → old ≡ [] → new ≡ old → IsReleased dropped old new
released_empty dropped old new none same =
    let empty : length new ≡ 0 = ap (λ (xs : List Watcher). length xs) (same ∙ none) in
    record {
      kept = λ clause place keeps s. subst (λ (xs : List Watcher). StandsInList xs 0 clause place) (sym same) s;
      left = λ k d l. absurd (omega (arith, l, empty));
      origin = λ k d l. absurd (omega (arith, l, empty));
    }

-- what was released watches the clauses that are left
pub watching_released : (clauses : List (List Atom)) (dropped : List Bool) (watches : List Watch) (count : ℕ) (on on' : ℕ → List Watcher) → ((k : ℕ) → IsReleased dropped (on k) (on' k)) → IsWatching clauses watches count on → IsWatching (blanked clauses dropped) watches count on'
watching_released clauses dropped watches count on on' released h =
    let long = length-blanked clauses dropped in
    record {
      sizes = h.sizes ∙ sym long;
      counted = omega (arith, h.counted, long);
      pairs = λ i b. pair i (is_dropped dropped i) refl (h.pairs i (omega (arith, b, long)));
      sound = λ k j d l.
          let r = released k in
          watcher k (get_or (on' k) j d) (r.left j d l) (All-contains (IsWatcher clauses k) (on k) (get_or (on' k) j d) (h.sound k) (r.origin j d l));
      listed = λ i p d b two watched.
          let keeps = blanked_some clauses dropped i (omega (arith, two)) in
          let same = blanked_kept clauses dropped i keeps in
          subst (λ (c : List Atom). StandsInList (on' (slot_of (get_or c p d))) 0 i p) (sym same)
          ((released (slot_of (get_or (clause_of clauses i) p d))).kept i p keeps (h.listed i p d b (omega (arith, two, ap (λ (c : List Atom). length c) same)) watched));
    }
  where
    pair : (i : ℕ) (b : Bool) → is_dropped dropped i ≡ b → IsWatchPair (length (clause_of clauses i)) (watch_of watches i) → IsWatchPair (length (clause_of (blanked clauses dropped) i)) (watch_of watches i)
    pair i true e old =
        let none : length (clause_of (blanked clauses dropped) i) ≡ 0 = ap (λ (c : List Atom). length c) (blanked_dropped clauses dropped i e) in
        record { apart = old.apart; inside = λ two p watched. absurd (omega (arith, two, none)) }
    pair i false e old = subst (λ (c : List Atom). IsWatchPair (length c) (watch_of watches i)) (sym (blanked_kept clauses dropped i e)) old

    watcher : (k : ℕ) (w : Watcher) → is_dropped dropped w.clause ≡ false → IsWatcher clauses k w → IsWatcher (blanked clauses dropped) k w
    watcher k w keeps g =
        let same = blanked_kept clauses dropped w.clause keeps in
        record {
          clause = omega (arith, g.clause, length-blanked clauses dropped);
          long = omega (arith, g.long, ap (λ (t : List Atom). length t) same);
          place = omega (arith, g.place, ap (λ (t : List Atom). length t) same);
          stands = λ d. ap (λ (t : List Atom). slot_of (get_or t w.place d)) same ∙ g.stands d;
          value = λ d. ap (λ (t : List Atom). (get_or t w.place d).value) same ∙ g.value d;
          blocker = subst (λ (t : List Atom). Contains t w.blocker) (sym same) g.blocker;
        }

-- so far: the first lists were released, and the others stay
pub record AreReleasedTo (dropped : List Bool) (old new : List (List Watcher)) (n : ℕ) : Type 0 where
  pub room : length new ≡ length old
  pub done : (k : ℕ) → k < n → IsReleased dropped (list_at old k) (list_at new k)
  pub rest : (k : ℕ) → n ≤ k → list_at new k ≡ list_at old k

-- one list more was
pub released_more : (dropped : List Bool) (old new : List (List Watcher)) (n : ℕ) (list : List Watcher) → n < length new → IsReleased dropped (list_at new n) list → AreReleasedTo dropped old new n → AreReleasedTo dropped old (set new n list) (n + 1)
released_more dropped old new n list l is h = record {
  room = length-set new n list ∙ h.room;
  done = λ k b. elim (before_or k n b) [
    | inl before ↦ subst (λ (xs : List Watcher). IsReleased dropped (list_at old k) xs) (sym (list_set_other new n k list (λ e. (let bad : ⊥ = omega (arith, e, before) in bad)))) (h.done k before)
    | inr e ↦
        subst (λ (j : ℕ). IsReleased dropped (list_at old j) (list_at (set new n list) j)) (sym e)
        (subst (λ (xs : List Watcher). IsReleased dropped xs (list_at (set new n list) n)) (h.rest n (omega arith))
        (subst (λ (xs : List Watcher). IsReleased dropped (list_at new n) xs) (sym (list_set_same new n list l)) is))
  ];
  rest = λ k b. list_set_other new n k list (λ e. (let bad : ⊥ = omega (arith, e, b) in bad)) ∙ h.rest k (omega (arith, b));
}
  where
    before_or : (k n : ℕ) → k < n + 1 → (k < n) ⊎ (k ≡ n)
    before_or k n b = grind arith

-- each list, of those that were gone through and of those past the end
pub released_step : (dropped : List Bool) (old new : List (List Watcher)) (n k : ℕ) → ((j : ℕ) → j < n → IsReleased dropped (list_at old j) (list_at new j)) → ((j : ℕ) → n ≤ j → list_at new j ≡ list_at old j) → length old ≤ n → IsReleased dropped (list_at old k) (list_at new k)
released_step dropped old new n k done rest all = elim (below_or k n) [
  | inl before ↦ done k before
  | inr past ↦ released_empty dropped (list_at old k) (list_at new k) (get_or_past old k [] (omega (arith, past, all))) (rest k past)
]
  where
    below_or : (m n : ℕ) → (m < n) ⊎ (n ≤ m)
    below_or m n = grind arith
