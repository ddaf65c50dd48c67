-- A walk over a list of watchers, watcher by watcher.
use Rattle.std.proofs.Common.{ℕ, ◌+◌, ◌*◌, ◌≤◌, ◌<◌, ℤ, ◌≡◌, ◌≢◌, true, Bool, List, length, take, get_or, set, refl, sym, ◌∙◌, ap, subst, inl, inr, ◌⊎◌, arith, length-append}
use Rattle.cps_literal.specs.declared.atom.Op.{Op}
use Rattle.cps_literal.specs.declared.atom.Op.TheVariants.{Le, Ge, Eq, Ne}
use Rattle.cps_literal.specs.declared.atom.Atom.{Atom}
use Rattle.cps_literal.specs.Normal.{rank}
use Rattle.cps_trail.specs.Trail.{Domains, Entry, Trail, IsFalseAfter, IsTrueAfter, IsFalseNow}
use Rattle.cps_trail.specs.Adds.{Grounds, Infers}
use Rattle.cps_trail.proofs.Inferring.{Infers-refl, stays_false}
use Rattle.cps_clauses.specs.declared.watch.Watch.{Watch}
use Rattle.cps_clauses.specs.declared.watch.Watcher.{Watcher}
use Rattle.cps_clauses.specs.declared.list_walk.ListWalk.{ListWalk}
use Rattle.cps_clauses.specs.Watches.{no_atom, no_watcher, clause_of, watch_of, slot_of, IsWatched, IsClauseTrue, IsSafe, IsNotFalse, IsPartner, IsWatcher, IsWatching, HasFallen, IsStill, StandsInList, removed, with_list}
use Rattle.cps_clauses.specs.Moves.{IsRelocated}
use Rattle.cps_clauses.specs.Visits.{IsListWalk, IsWalk, IsOutcome, AreLeft, AreDone, MayStay, atom_at}
use Rattle.cps_clauses.proofs.QuietClauses.{nat_cases, at_any}
use Rattle.cps_clauses.proofs.Guards.{safe_infers, safe_open, safe_satisfied, safe_next, moved_refl, outcome_refl, outcome_same, outcome_trans, false_back, false_on}
use Rattle.cps_clauses.proofs.Lists.{IsApart, next_place, on_here, stands_after, stands_set, stands_removed, stands_nowhere, watching_held, watching_stale, watching_moved, relocated_left, watch_set_same, watch_set_other}
use Rattle.cps_trail.specs.Notes.{ByClauses}

-- slots tell subjects and operators apart
op_same : (o r : Op) (a b : ℕ) → 4 * a + rank o ≡ 4 * b + rank r → (o ≡ r) × (a ≡ b)
op_same Le Le a b e = (refl, omega (arith, e))
op_same Le Ge a b e = absurd (omega (arith, e))
op_same Le Eq a b e = absurd (omega (arith, e))
op_same Le Ne a b e = absurd (omega (arith, e))
op_same Ge Le a b e = absurd (omega (arith, e))
op_same Ge Ge a b e = (refl, omega (arith, e))
op_same Ge Eq a b e = absurd (omega (arith, e))
op_same Ge Ne a b e = absurd (omega (arith, e))
op_same Eq Le a b e = absurd (omega (arith, e))
op_same Eq Ge a b e = absurd (omega (arith, e))
op_same Eq Eq a b e = (refl, omega (arith, e))
op_same Eq Ne a b e = absurd (omega (arith, e))
op_same Ne Le a b e = absurd (omega (arith, e))
op_same Ne Ge a b e = absurd (omega (arith, e))
op_same Ne Eq a b e = absurd (omega (arith, e))
op_same Ne Ne a b e = (refl, omega (arith, e))

pub subject_of_slot : (t : Atom) (i : ℕ) (o : Op) → slot_of t ≡ 4 * i + rank o → t.subject ≡ i
subject_of_slot t i o e = (op_same t.op o t.subject i e).1

pub slot_of_op : (t : Atom) (i : ℕ) (o : Op) → t.subject ≡ i → t.op ≡ o → slot_of t ≡ 4 * i + rank o
slot_of_op t i o e f = ap (λ (j : ℕ). 4 * j + rank t.op) e ∙ ap (λ (r : Op). 4 * i + rank r) f

pub atom_of_slot : (t : Atom) (list_walk : ListWalk) (v : ℤ) → slot_of t ≡ 4 * list_walk.subject + rank list_walk.op → t.value ≡ v → t ≡ atom_at list_walk v
atom_of_slot t list_walk v e f =
    let same = op_same t.op list_walk.op t.subject list_walk.subject e in
    ap (λ (i : ℕ). let x : Atom = record { subject = i; op = t.op; value = t.value } in x) same.1
    ∙ ap (λ (o : Op). let x : Atom = record { subject = list_walk.subject; op = o; value = t.value } in x) same.0
    ∙ ap (λ (w : ℤ). let x : Atom = record { subject = list_walk.subject; op = list_walk.op; value = w } in x) f

-- the atom of a watcher
pub watched_atom : (clauses : List (List Atom)) (s : Trail) (list_walk : ListWalk) (w : Watcher) → IsListWalk s list_walk → IsWatcher clauses list_walk.slot w → (d : Atom) → get_or (clause_of clauses w.clause) w.place d ≡ atom_at list_walk w.value
watched_atom clauses s list_walk w t h d = atom_of_slot (get_or (clause_of clauses w.clause) w.place d) list_walk w.value (h.stands d ∙ t.slot) (h.value d)

-- the walk stays one as the store grows
pub list_walk_infers : (C : Grounds) (s t : Trail) (list_walk : ListWalk) → Infers C s t → IsListWalk s list_walk → IsListWalk t list_walk
list_walk_infers C s t list_walk h is = record {
  within = omega (arith, is.within, ap (λ (es : List Entry). length es) h.entries, length-append s.entries h.added);
  exists = subst (λ (fs : Domains). list_walk.subject < length fs) (sym h.first) is.exists;
  slot = is.slot;
  range = record {
    below = λ v l f. on' (atom_at list_walk v) (is.range.below v l (back (atom_at list_walk v) f));
    above = λ v l f. on' (atom_at list_walk v) (is.range.above v l (back (atom_at list_walk v) f));
    fallen = λ ne v a b. stays_false C s t h (atom_at list_walk v) (is.range.fallen ne v a b);
    fresh = λ ne v a b f. is.range.fresh ne v a b (false_back C s t list_walk.entry (atom_at list_walk v) h (omega (arith, is.within)) f);
  };
}
  where
    back : (u : Atom) → IsFalseAfter t.first (take (list_walk.entry + 1) t.entries) u → IsFalseAfter s.first (take (list_walk.entry + 1) s.entries) u
    back u f = false_back C s t (list_walk.entry + 1) u h (omega (arith, is.within)) f

    on' : (u : Atom) → IsFalseAfter s.first (take list_walk.entry s.entries) u → IsFalseAfter t.first (take list_walk.entry t.entries) u
    on' u f = false_on C s t list_walk.entry u h (omega (arith, is.within)) f

-- a watcher is that of a clause's atom, or not
cases : (w : Watcher) (i p : ℕ) → ((w.clause ≡ i) × (w.place ≡ p)) ⊎ IsApart w i p
cases w i p = elim (nat_cases w.clause i) [
  | inl e ↦ elim (nat_cases w.place p) [ inl f ↦ inl (e, f) | inr ne ↦ inr (λ _ f. ne f) ]
  | inr ne ↦ inr (λ e _. ne e)
]

safe_at : (clauses : List (List Atom)) (first : Domains) (early late : List Entry) (w : Watcher) (i p : ℕ) → (w.clause ≡ i) × (w.place ≡ p) → IsSafe first early late (clause_of clauses w.clause) w.place → IsSafe first early late (clause_of clauses i) p
safe_at clauses first early late w i p same h = subst (λ (j : ℕ). IsSafe first early late (clause_of clauses j) p) same.0 (subst (λ (q : ℕ). IsSafe first early late (clause_of clauses w.clause) q) same.1 h)

-- the walk goes on past a watcher whose atom is safe after the entry
pub walk_past : (clauses : List (List Atom)) (list_walk : ListWalk) (s0 : Trail) (watches0 : List Watch) (n : ℕ) (s : Trail) (watches : List Watch) (lists : List (List Watcher)) (list : List Watcher) → IsWalk clauses list_walk s0 watches0 n s watches lists list
    → (IsWatched (watch_of watches (get_or list n no_watcher).clause) (get_or list n no_watcher).place → IsSafe s.first (take (list_walk.entry + 1) s.entries) s.entries (clause_of clauses (get_or list n no_watcher).clause) (get_or list n no_watcher).place)
    → IsWalk clauses list_walk s0 watches0 (n + 1) s watches lists list
walk_past clauses list_walk s0 watches0 n s watches lists list walk safe = record {
  outcome = walk.outcome;
  watching = walk.watching;
  left = λ i p d b two watched at. elim (walk.left i p d b two watched at) [
    | inl done ↦ inl done
    | inr stands ↦ elim (cases (get_or list n no_watcher) i p) [
      | inl same ↦ inl (safe_at clauses s.first (take (list_walk.entry + 1) s.entries) s.entries (get_or list n no_watcher) i p same
          (safe (subst (λ (j : ℕ). IsWatched (watch_of watches j) (get_or list n no_watcher).place) (sym same.0) (subst (λ (q : ℕ). IsWatched (watch_of watches i) q) (sym same.1) watched))))
      | inr apart ↦ inr (stands_after list n i p stands apart)
    ]
  ];
}

-- a watcher that may stay
pub stay_safe : (clauses : List (List Atom)) (list_walk : ListWalk) (s : Trail) (w : Watcher) → IsListWalk s list_walk → IsWatcher clauses list_walk.slot w → IsSafe s.first (take list_walk.entry s.entries) s.entries (clause_of clauses w.clause) w.place → MayStay s w list_walk true
    → IsSafe s.first (take (list_walk.entry + 1) s.entries) s.entries (clause_of clauses w.clause) w.place
stay_safe clauses list_walk s w t h safe (inl back) =
    safe_next s.first s.entries list_walk.entry (clause_of clauses w.clause) w.place
    (λ d b f. subst (λ (u : Atom). IsFalseAfter s.first (take list_walk.entry s.entries) u) (sym (watched_atom clauses s list_walk w t h d)) (back (subst (λ (u : Atom). IsFalseAfter s.first (take (list_walk.entry + 1) s.entries) u) (watched_atom clauses s list_walk w t h d) f))) safe
stay_safe clauses list_walk s w t h safe (inr on) =
    safe_satisfied s.first (take (list_walk.entry + 1) s.entries) s.entries (clause_of clauses w.clause) w.place (record {
      place = h.blocker.0;
      within = h.blocker.1;
      holds = λ d. at_any (IsTrueAfter s.first s.entries) (clause_of clauses w.clause) h.blocker.0 w.blocker d h.blocker.1 (subst (λ (u : Atom). IsTrueAfter s.first s.entries u) (sym h.blocker.2) on);
    })

-- the watcher of an atom that is not watched is taken out
pub walk_stale : (clauses : List (List Atom)) (list_walk : ListWalk) (s0 : Trail) (watches0 : List Watch) (n : ℕ) (s : Trail) (watches : List Watch) (lists : List (List Watcher)) (list : List Watcher) → n < length list → IsWalk clauses list_walk s0 watches0 n s watches lists list
    → (IsWatched (watch_of watches (get_or list n no_watcher).clause) (get_or list n no_watcher).place → ⊥) → IsWalk clauses list_walk s0 watches0 n s watches lists (removed list n)
walk_stale clauses list_walk s0 watches0 n s watches lists list l walk not = record {
  outcome = walk.outcome;
  watching = watching_stale clauses watches (length clauses) lists list_walk.slot list n l walk.watching not;
  left = λ i p d b two watched at. elim (walk.left i p d b two watched at) [
    | inl done ↦ inl done
    | inr stands ↦ inr (stands_removed list n n i p (omega arith) l stands (λ e f. not (subst (λ (j : ℕ). IsWatched (watch_of watches j) (get_or list n no_watcher).place) (sym e) (subst (λ (q : ℕ). IsWatched (watch_of watches i) q) (sym f) watched))))
  ];
}

-- at the end of the list
pub walk_done : (clauses : List (List Atom)) (list_walk : ListWalk) (s0 : Trail) (watches0 : List Watch) (n : ℕ) (s : Trail) (watches : List Watch) (lists : List (List Watcher)) (list : List Watcher) → length list ≤ n → IsWalk clauses list_walk s0 watches0 n s watches lists list
    → AreDone clauses watches list_walk.slot list_walk.entry s
walk_done clauses list_walk s0 watches0 n s watches lists list l walk i p d b two watched at = elim (walk.left i p d b two watched at) [
  | inl done ↦ done
  | inr stands ↦ absurd (stands_nowhere list n i p l stands)
]

pub walk_trans : (clauses : List (List Atom)) (list_walk : ListWalk) (s0 s t : Trail) (w0 w1 w2 : List Watch) (n : ℕ) (lists : List (List Watcher)) (list : List Watcher) → IsOutcome clauses s0 w0 s w1 → IsWalk clauses list_walk s w1 n t w2 lists list → IsWalk clauses list_walk s0 w0 n t w2 lists list
walk_trans clauses list_walk s0 s t w0 w1 w2 n lists list a b = record { outcome = outcome_trans clauses s0 s t w0 w1 w2 a b.outcome; watching = b.watching; left = b.left }

-- at the start of the list
pub walk_start : (clauses : List (List Atom)) (list_walk : ListWalk) (s : Trail) (watches : List Watch) (lists : List (List Watcher)) (list : List Watcher) → IsListWalk s list_walk → IsWatching clauses watches (length clauses) (with_list lists list_walk.slot list) → IsWalk clauses list_walk s watches 0 s watches lists list
walk_start clauses list_walk s watches lists list t h = record {
  outcome = outcome_refl clauses s s watches watches refl refl;
  watching = h;
  left = λ i p d b two watched at. inr (subst (λ (xs : List Watcher). StandsInList xs 0 i p) (on_here lists list_walk.slot list (slot_of (get_or (clause_of clauses i) p d)) at) (h.listed i p d b two watched));
}

-- a clause was read, and one of its atoms is true: its watcher stays
pub walk_held : (clauses : List (List Atom)) (list_walk : ListWalk) (s t : Trail) (watches : List Watch) (n : ℕ) (lists : List (List Watcher)) (list : List Watcher) (y : Watcher) → n < length list → IsListWalk s list_walk → Infers (ByClauses clauses) s t
    → IsWatching clauses watches (length clauses) (with_list lists list_walk.slot list) → AreLeft clauses watches list_walk.slot list_walk.entry s list n
    → IsWatcher clauses list_walk.slot y → y.clause ≡ (get_or list n no_watcher).clause → y.place ≡ (get_or list n no_watcher).place → IsClauseTrue t.first t.entries (clause_of clauses (get_or list n no_watcher).clause)
    → IsWalk clauses list_walk s watches (n + 1) t watches lists (set list n y)
walk_held clauses list_walk s t watches n lists list y l turns infers watching left sound clause place holds = record {
  outcome = outcome_same clauses s t watches watches infers refl;
  watching = watching_held clauses watches (length clauses) lists list_walk.slot list n l watching y sound clause place;
  left = λ i p d b two watched at. elim (left i p d b two watched at) [
    | inl done ↦ inl (safe_infers (ByClauses clauses) s t (list_walk.entry + 1) (clause_of clauses i) p infers (omega (arith, turns.within)) done)
    | inr stands ↦ elim (cases (get_or list n no_watcher) i p) [
      | inl same ↦ inl (safe_at clauses t.first (take (list_walk.entry + 1) t.entries) t.entries (get_or list n no_watcher) i p same (safe_satisfied t.first (take (list_walk.entry + 1) t.entries) t.entries (clause_of clauses (get_or list n no_watcher).clause) (get_or list n no_watcher).place holds))
      | inr apart ↦ inr (stands_set list n (n + 1) i p y (stands_after list n i p stands apart) apart)
    ]
  ];
}

-- an atom that is not false is watched in its place
pub walk_moved : (clauses : List (List Atom)) (list_walk : ListWalk) (s : Trail) (watches : List Watch) (n : ℕ) (lists : List (List Watcher)) (list : List Watcher) (lists' : List (List Watcher)) (list' : List Watcher) (moved : Watcher) (to : ℕ) (stays : Bool) (other : ℕ)
    → n < length list → to < length lists → IsListWalk s list_walk → IsRelocated lists list lists' list' list_walk.slot n moved to stays
    → IsWatching clauses watches (length clauses) (with_list lists list_walk.slot list) → AreLeft clauses watches list_walk.slot list_walk.entry s list n
    → IsWatcher clauses to moved → moved.clause ≡ (get_or list n no_watcher).clause → IsPartner (watch_of watches (get_or list n no_watcher).clause) (get_or list n no_watcher).place other → moved.place ≢ other
    → IsNotFalse s (clause_of clauses moved.clause) moved.place → IsWalk clauses list_walk s watches (next_place stays n) s (set watches moved.clause (record { one = moved.place; other = other })) lists' list'
walk_moved clauses list_walk s watches n lists list lists' list' moved to stays other l t turns relocated watching left new clause partner apart open' =
    let c = moved.clause in
    let w' : Watch = record { one = moved.place; other = other } in
    let here : watch_of (set watches c w') c ≡ w' = watch_set_same watches c w' (omega (arith, new.clause, watching.sizes)) in
    record {
      outcome = record {
        infers = Infers-refl (ByClauses clauses) s;
        moved = record {
          each = λ i b. elim (nat_cases i c) [
            | inl e ↦ record {
              each = λ p watched. elim (subst (λ (v : Watch). IsWatched v p) (ap (λ (j : ℕ). watch_of (set watches c w') j) e ∙ here) watched) [
                | inl q ↦ inr (subst (λ (j : ℕ). IsNotFalse s (clause_of clauses j) p) (sym e) (subst (λ (j : ℕ). IsNotFalse s (clause_of clauses c) j) (sym q) open'))
                | inr q ↦ inl (subst (λ (j : ℕ). IsWatched (watch_of watches j) p) (sym clause ∙ sym e) (subst (λ (j : ℕ). IsWatched (watch_of watches (get_or list n no_watcher).clause) j) (sym q) partner.has_other))
              ];
            }
            | inr ne ↦ moved_refl s (clause_of clauses i) (watch_of watches i) (watch_of (set watches c w') i) (watch_set_other watches c i w' ne)
          ];
        };
      };
      watching = watching_moved clauses watches (length clauses) lists list lists' list' list_walk.slot n moved to stays other l t relocated new clause new.clause partner apart new.place new.stands watching;
      left = λ i p d b two watched at. elim (nat_cases i c) [
        | inl e ↦ elim (subst (λ (v : Watch). IsWatched v p) (ap (λ (j : ℕ). watch_of (set watches c w') j) e ∙ here) watched) [
          | inl q ↦ inl (safe_open s (list_walk.entry + 1) s.entries (clause_of clauses i) p (subst (λ (j : ℕ). IsNotFalse s (clause_of clauses j) p) (sym e) (subst (λ (j : ℕ). IsNotFalse s (clause_of clauses c) j) (sym q) open')))
          | inr q ↦
              let old : IsWatched (watch_of watches i) p = subst (λ (j : ℕ). IsWatched (watch_of watches j) p) (sym clause ∙ sym e) (subst (λ (j : ℕ). IsWatched (watch_of watches (get_or list n no_watcher).clause) j) (sym q) partner.has_other) in
              elim (left i p d b two old at) [
                | inl done ↦ inl done
                | inr stands ↦ inr (relocated_left lists list lists' list' list_walk.slot n moved to stays l relocated i p (λ _ r. partner.apart (r ∙ q)) stands)
              ]
        ]
        | inr ne ↦ elim (left i p d b two (subst (λ (v : Watch). IsWatched v p) (watch_set_other watches c i w' ne) watched) at) [
          | inl done ↦ inl done
          | inr stands ↦ inr (relocated_left lists list lists' list' list_walk.slot n moved to stays l relocated i p (λ r _. ne (sym r ∙ sym clause)) stands)
        ]
      ];
    }

-- a clause is read only where a watched atom fell
pub still_read : {A : Type 0} (clauses : List (List Atom)) (watches : List Watch) (s : Trail) (list_walk : ListWalk) (w : Watcher) → IsListWalk s list_walk → IsWatcher clauses list_walk.slot w → IsWatched (watch_of watches w.clause) w.place → HasFallen s list_walk.entry (atom_at list_walk w.value) → IsStill clauses watches s list_walk.entry → A
still_read clauses watches s list_walk w t h watched fallen still =
    let is = watched_atom clauses s list_walk w t h no_atom in
    absurd (fallen.not_before (subst (λ (u : Atom). IsFalseAfter s.first (take list_walk.entry s.entries) u) is
    (still.each w.clause w.place no_atom h.clause watched h.place (subst (λ (u : Atom). IsFalseNow s u) (sym is) fallen.now))))
