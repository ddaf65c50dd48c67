-- A watcher more in a list.
use Rattle.std.proofs.Common.{Result, Ok, Err, OnOk, OnErr, ℕ, ◌+◌, ◌≤◌, ◌<◌, ◌≡◌, ◌≢◌, List, [], ◌∷◌, ◌++◌, length, get_or, set, sym, ◌∙◌, ap, subst, inl, inr, ◌⊎◌, arith, length-set}
use Rattle.std.specs.Prelude.{max}
use Rattle.std.specs.List.{Contains}
use Rattle.std.proofs.lemmas.List.{get_or_append_left, get_or_push, length_push}
use Rattle.std.proofs.lemmas.List.Elements.{Contains-get_or}
use Rattle.cps_literal.specs.declared.atom.Atom.{Atom}
use Rattle.cps_clauses.specs.declared.watch.Watch.{Watch}
use Rattle.cps_clauses.specs.declared.watch.Watcher.{Watcher}
use Rattle.cps_clauses.specs.Watches.{no_atom, clause_of, watch_of, slot_of, IsWatched, IsWatchPair, IsWatcher, IsWatching, StandsInList, list_at}
use Rattle.cps_clauses.specs.Looks.{IsAttached, IsNewWatcher}
use Rattle.cps_clauses.proofs.QuietClauses.{nat_cases}
use Rattle.cps_clauses.proofs.Lists.{stands_push, stands_pushed, list_set_same, list_set_other, watch_set_same, watch_set_other}

seam : (n i : ℕ) → i < n + 1 → (i < n) ⊎ (i ≡ n)
seam n i h = grind arith

-- the list after a push that may fail
abbrev pub PushedTo : List Watcher → List Watcher → Watcher → Type 0
PushedTo old new w = (new ≡ old ++ w ∷ []) ⊎ (new ≡ old)

pub pushed_to : {E : Type 0} (r : Result (Unit {0}) E) (old new : List Watcher) (w : Watcher) → OnOk r (new ≡ old ++ w ∷ []) → OnErr r (new ≡ old) → PushedTo old new w
pushed_to (Ok u) old new w ok err = inl ok
pushed_to (Err e) old new w ok err = inr err

pub on_ok : {E : Type 0} (r : Result (Unit {0}) E) (A B : Type 0) → OnOk r A → (A → B) → OnOk r B
on_ok (Ok u) A B h f = f h
on_ok (Err e) A B h f = tt

pub attached_push : (lists lists' : List (List Watcher)) (to : ℕ) (new : List Watcher) (clause : ℕ) (atoms : List Atom) (place blocker : ℕ) (w : Watcher) → to < length lists → lists' ≡ set lists to new → PushedTo (list_at lists to) new w
    → ((e : Atom) → to ≡ slot_of (get_or atoms place e)) → IsNewWatcher clause atoms place blocker w → IsAttached lists lists' clause atoms place blocker
attached_push lists lists' to new clause atoms place blocker w l is pushed slot watcher =
    let here : list_at lists' to ≡ new = ap (λ (ls : List (List Watcher)). list_at ls to) is ∙ list_set_same lists to new l in
    let there : (k : ℕ) → k ≢ to → list_at lists' k ≡ list_at lists k = λ k ne. ap (λ (ls : List (List Watcher)). list_at ls k) is ∙ list_set_other lists to k new ne in
    record {
      len = ap (λ (ls : List (List Watcher)). length ls) is ∙ length-set lists to new;
      kept = λ k n i p s. elim (nat_cases k to) [
        | inl e ↦ elim pushed [
          | inl more ↦ subst (λ (xs : List Watcher). StandsInList xs n i p) (sym (ap (λ (j : ℕ). list_at lists' j) e ∙ here ∙ more)) (stands_push (list_at lists to) n i p w (subst (λ (j : ℕ). StandsInList (list_at lists j) n i p) e s))
          | inr same ↦ subst (λ (xs : List Watcher). StandsInList xs n i p) (sym (ap (λ (j : ℕ). list_at lists' j) e ∙ here ∙ same)) (subst (λ (j : ℕ). StandsInList (list_at lists j) n i p) e s)
        ]
        | inr ne ↦ subst (λ (xs : List Watcher). StandsInList xs n i p) (sym (there k ne)) s
      ];
      origin = λ k n d b. elim (nat_cases k to) [
        | inl e ↦ elim pushed [
          | inl more ↦ (
              let is' : list_at lists' k ≡ list_at lists to ++ w ∷ [] = ap (λ (j : ℕ). list_at lists' j) e ∙ here ∙ more in
              elim (seam (length (list_at lists to)) n (omega (arith, b, ap (λ (xs : List Watcher). length xs) is', length_push (list_at lists to) w))) [
                | inl before ↦ inl (
                  omega (arith, before, ap (λ (j : ℕ). length (list_at lists j)) e),
                  ap (λ (xs : List Watcher). get_or xs n d) is' ∙ get_or_append_left (list_at lists to) (w ∷ []) d n before ∙ ap (λ (j : ℕ). get_or (list_at lists j) n d) (sym e),
                )
                | inr last ↦ inr (
                  λ a. e ∙ slot a,
                  subst (IsNewWatcher clause atoms place blocker) (sym (ap (λ (xs : List Watcher). get_or xs n d) is' ∙ get_or_push (list_at lists to) w d n (sym last))) watcher,
                )
              ])
          | inr same ↦ inl (
            omega (arith, b, ap (λ (xs : List Watcher). length xs) (ap (λ (j : ℕ). list_at lists' j) e ∙ here ∙ same), ap (λ (j : ℕ). length (list_at lists j)) e),
            ap (λ (xs : List Watcher). get_or xs n d) (ap (λ (j : ℕ). list_at lists' j) e ∙ here ∙ same ∙ ap (λ (j : ℕ). list_at lists j) (sym e)),
          )
        ]
        | inr ne ↦ inl (omega (arith, b, ap (λ (xs : List Watcher). length xs) (there k ne)), ap (λ (xs : List Watcher). get_or xs n d) (there k ne))
      ];
    }

pub stands_attached : {E : Type 0} (r : Result (Unit {0}) E) (lists : List (List Watcher)) (to : ℕ) (old new : List Watcher) (clause : ℕ) (atoms : List Atom) (place : ℕ) (w : Watcher) → to < length lists → OnOk r (new ≡ old ++ w ∷ [])
    → ((e : Atom) → to ≡ slot_of (get_or atoms place e)) → w.clause ≡ clause → w.place ≡ place → OnOk r ((d : Atom) → StandsInList (list_at (set lists to new) (slot_of (get_or atoms place d))) 0 clause place)
stands_attached (Ok u) lists to old new clause atoms place w l ok slot e f = λ d.
    subst (λ (k : ℕ). StandsInList (list_at (set lists to new) k) 0 clause place) (slot d)
    (subst (λ (xs : List Watcher). StandsInList xs 0 clause place) (sym (list_set_same lists to new l ∙ ok))
    (subst (λ (i : ℕ). StandsInList (old ++ w ∷ []) 0 i place) e (subst (λ (p : ℕ). StandsInList (old ++ w ∷ []) 0 w.clause p) f (stands_pushed old w))))
stands_attached (Err x) lists to old new clause atoms place w l ok slot e f = tt

-- what is watched stays so
pub watching_attached : (clauses : List (List Atom)) (watches : List Watch) (count : ℕ) (old new : List (List Watcher)) (i place blocker : ℕ) → i < length clauses → place < length (clause_of clauses i) → blocker < length (clause_of clauses i) → place ≢ blocker
    → IsAttached old new i (clause_of clauses i) place blocker → IsWatching clauses watches count (list_at old) → IsWatching clauses watches count (list_at new)
watching_attached clauses watches count old new i place blocker l in_clause in_clause' apart h watching = record {
  sizes = watching.sizes;
  counted = watching.counted;
  pairs = watching.pairs;
  sound = λ k n d b. elim (h.origin k n d b) [
    | inl before ↦ subst (IsWatcher clauses k) (sym before.1) (watching.sound k n d before.0)
    | inr new' ↦ is_watcher k (get_or (list_at new k) n d) new'.0 new'.1
  ];
  listed = λ j p d b two watched. h.kept (slot_of (get_or (clause_of clauses j) p d)) 0 j p (watching.listed j p d b two watched);
}
  where
    is_watcher : (k : ℕ) (w : Watcher) → ((e : Atom) → k ≡ slot_of (get_or (clause_of clauses i) place e)) → IsNewWatcher i (clause_of clauses i) place blocker w → IsWatcher clauses k w
    is_watcher k w slot n =
        let c : clause_of clauses w.clause ≡ clause_of clauses i = ap (λ (j : ℕ). clause_of clauses j) n.clause_is in
        let at : (d : Atom) → get_or (clause_of clauses w.clause) w.place d ≡ get_or (clause_of clauses i) place d = λ d. ap (λ (ts : List Atom). get_or ts w.place d) c ∙ ap (λ (p : ℕ). get_or (clause_of clauses i) p d) n.place_is in
        record {
          clause = omega (arith, n.clause_is, l);
          long = omega (arith, in_clause, in_clause', apart, ap (λ (ts : List Atom). length ts) c);
          place = omega (arith, n.place_is, in_clause, ap (λ (ts : List Atom). length ts) c);
          stands = λ d. ap (λ (t : Atom). slot_of t) (at d) ∙ sym (slot d);
          value = λ d. ap (λ (t : Atom). t.value) (at d) ∙ sym (n.value_is d);
          blocker = subst (λ (t : Atom). Contains (clause_of clauses w.clause) t) (sym (n.blocker_is no_atom)) (subst (λ (ts : List Atom). Contains ts (get_or (clause_of clauses i) blocker no_atom)) (sym c) (Contains-get_or (clause_of clauses i) blocker no_atom in_clause'));
        }

-- a clause watches two atoms whose watchers stand
pub watching_rewatched : (clauses : List (List Atom)) (watches : List Watch) (count count' : ℕ) (on : ℕ → List Watcher) (i one other : ℕ) → i < length clauses → i ≤ count → count' ≡ max count (i + 1) → one < length (clause_of clauses i) → other < length (clause_of clauses i) → one ≢ other
    → ((d : Atom) → StandsInList (on (slot_of (get_or (clause_of clauses i) one d))) 0 i one) → ((d : Atom) → StandsInList (on (slot_of (get_or (clause_of clauses i) other d))) 0 i other)
    → IsWatching clauses watches count on → IsWatching clauses (set watches i (record { one = one; other = other })) count' on
watching_rewatched clauses watches count count' on i one other l near is in_one in_other apart stands_one stands_other h =
    let w : Watch = record { one = one; other = other } in
    let here : watch_of (set watches i w) i ≡ w = watch_set_same watches i w (omega (arith, l, h.sizes)) in
    record {
      sizes = length-set watches i w ∙ h.sizes;
      counted = omega (arith, is, h.counted, l);
      pairs = λ j b. elim (nat_cases j i) [
        | inl e ↦ subst (λ (v : Watch). IsWatchPair (length (clause_of clauses j)) v) (sym (ap (λ (k : ℕ). watch_of (set watches i w) k) e ∙ here)) (record {
          apart = apart;
          inside = λ two p watched. elim watched [
            | inl q ↦ omega (arith, q, in_one, ap (λ (k : ℕ). length (clause_of clauses k)) e)
            | inr q ↦ omega (arith, q, in_other, ap (λ (k : ℕ). length (clause_of clauses k)) e)
          ];
        })
        | inr ne ↦ subst (IsWatchPair (length (clause_of clauses j))) (sym (watch_set_other watches i j w ne)) (h.pairs j b)
      ];
      sound = h.sound;
      listed = λ j p d b two watched. elim (nat_cases j i) [
        | inl e ↦ elim (subst (λ (v : Watch). IsWatched v p) (ap (λ (k : ℕ). watch_of (set watches i w) k) e ∙ here) watched) [
          | inl q ↦ subst (λ (k : ℕ). StandsInList (on (slot_of (get_or (clause_of clauses k) p d))) 0 k p) (sym e) (subst (λ (k : ℕ). StandsInList (on (slot_of (get_or (clause_of clauses i) k d))) 0 i k) (sym q) (stands_one d))
          | inr q ↦ subst (λ (k : ℕ). StandsInList (on (slot_of (get_or (clause_of clauses k) p d))) 0 k p) (sym e) (subst (λ (k : ℕ). StandsInList (on (slot_of (get_or (clause_of clauses i) k d))) 0 i k) (sym q) (stands_other d))
        ]
        | inr ne ↦ h.listed j p d (omega (arith, b, is, near, ne)) two (subst (λ (v : Watch). IsWatched v p) (watch_set_other watches i j w ne) watched)
      ];
    }

-- one more clause is attached, of fewer than two atoms
pub watching_short : (clauses : List (List Atom)) (watches : List Watch) (count count' : ℕ) (on : ℕ → List Watcher) (i : ℕ) → i < length clauses → i ≤ count → count' ≡ max count (i + 1) → length (clause_of clauses i) < 2 → IsWatching clauses watches count on → IsWatching clauses watches count' on
watching_short clauses watches count count' on i l near is short h = record {
  sizes = h.sizes;
  counted = omega (arith, is, h.counted, l);
  pairs = h.pairs;
  sound = h.sound;
  listed = λ j p d b two watched. elim (nat_cases j i) [
    | inl e ↦ absurd (omega (arith, two, short, ap (λ (k : ℕ). length (clause_of clauses k)) e))
    | inr ne ↦ h.listed j p d (omega (arith, b, is, near, ne)) two watched
  ];
}
