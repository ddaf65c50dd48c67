-- What is safe or guarded stays so, as a store grows and watches move.
use Rattle.std.proofs.Common.{ℕ, ◌+◌, ◌≤◌, ◌<◌, ◌≡◌, ◌≢◌, List, [], ◌∷◌, ◌++◌, length, take, get_or, refl, sym, ◌∙◌, ap, subst, inl, inr, arith}
use Rattle.std.specs.List.{All}
use Rattle.std.proofs.lemmas.List.Elements.{Contains-get_or}
use Rattle.std.proofs.lemmas.List.{take-append-le, get_or_default}
use Rattle.cps_literal.specs.declared.atom.Atom.{Atom}
use Rattle.cps_trail.specs.Trail.{Domains, Entry, Reason, Decision, Because, Later, Explains, Trail, IsFalseAfter, IsTrueAfter, IsFalseNow, IsTrueNow, IsSoundTrail, admits, open_values}
use Rattle.cps_literal.specs.Truth.{meets}
use Rattle.cps_trail.specs.Adds.{Grounds, Infers}
use Rattle.cps_trail.proofs.Falls.{not_both}
use Rattle.cps_trail.proofs.Inferring.{Infers-refl, Infers-trans, Infers-weaker, Infers-push, stays_false, stays_true}
use Rattle.cps_trail.proofs.Times.{IsFalseAfter-all, IsFalseAfter-take, and_right}
use Rattle.cps_trail.proofs.Laws.{admits-push_same}
use Rattle.cps_clauses.specs.declared.watch.Watch.{Watch}
use Rattle.cps_clauses.specs.Conflicts.{IsConflictInForce}
use Rattle.cps_clauses.specs.Quiet.{IsOneLeft, IsQuietAfter, Fits}
use Rattle.cps_clauses.specs.Watches.{no_atom, clause_of, watch_of, IsWatched, IsClauseTrue, IsSafe, IsGuarded, IsNotFalse, IsMoved, IsWatchPair, IsStill}
use Rattle.cps_clauses.specs.Visits.{AreSafe, IsOutcome, IsUntouched}
use Rattle.cps_clauses.proofs.QuietClauses.{nat_cases, at_any}
use Rattle.cps_trail.specs.declared.note.Note.TheVariants as notes
use Rattle.cps_trail.specs.Notes.{ByClauses}
use Rattle.cps_clauses.specs.Notes.{ByClause}

pub satisfied_infers : (C : Grounds) (s t : Trail) (c : List Atom) → Infers C s t → IsClauseTrue s.first s.entries c → IsClauseTrue t.first t.entries c
satisfied_infers C s t c h x = record { place = x.place; within = x.within; holds = λ d. stays_true C s t h (get_or c x.place d) (x.holds d) }

pub take_infers : (C : Grounds) (s t : Trail) (k : ℕ) → Infers C s t → k ≤ length s.entries → take k t.entries ≡ take k s.entries
take_infers C s t k h l = ap (λ (es : List Entry). take k es) h.entries ∙ take-append-le k s.entries h.added l

-- what is false early in the later store was so in the earlier one
pub false_back : (C : Grounds) (s t : Trail) (k : ℕ) (u : Atom) → Infers C s t → k ≤ length s.entries → IsFalseAfter t.first (take k t.entries) u → IsFalseAfter s.first (take k s.entries) u
false_back C s t k u h l f = subst (λ (es : List Entry). IsFalseAfter s.first es u) (take_infers C s t k h l) (subst (λ (fs : Domains). IsFalseAfter fs (take k t.entries) u) h.first f)

pub false_on : (C : Grounds) (s t : Trail) (k : ℕ) (u : Atom) → Infers C s t → k ≤ length s.entries → IsFalseAfter s.first (take k s.entries) u → IsFalseAfter t.first (take k t.entries) u
false_on C s t k u h l f = subst (λ (fs : Domains). IsFalseAfter fs (take k t.entries) u) (sym h.first) (subst (λ (es : List Entry). IsFalseAfter s.first es u) (sym (take_infers C s t k h l)) f)

pub safe_infers : (C : Grounds) (s t : Trail) (k : ℕ) (c : List Atom) (p : ℕ) → Infers C s t → k ≤ length s.entries → IsSafe s.first (take k s.entries) s.entries c p → IsSafe t.first (take k t.entries) t.entries c p
safe_infers C s t k c p h l safe = record {
  holds = λ gone. satisfied_infers C s t c h (safe.holds (λ d b. false_back C s t k (get_or c p d) h l (gone d b)));
}

-- an open place is not gone earlier
pub safe_open : (s : Trail) (k : ℕ) (late : List Entry) (c : List Atom) (p : ℕ) → IsNotFalse s c p → IsSafe s.first (take k s.entries) late c p
safe_open s k late c p h = record { holds = λ gone. absurd (h.not_false no_atom (IsFalseAfter-all s.first s.entries k (get_or c p no_atom) (gone no_atom h.within))) }

pub safe_satisfied : (first : Domains) (early late : List Entry) (c : List Atom) (p : ℕ) → IsClauseTrue first late c → IsSafe first early late c p
safe_satisfied first early late c p h = record { holds = λ _. h }

-- where the atom did not become false by the entry
pub safe_next : (first : Domains) (es : List Entry) (k : ℕ) (c : List Atom) (p : ℕ) → ((d : Atom) → p < length c → IsFalseAfter first (take (k + 1) es) (get_or c p d) → IsFalseAfter first (take k es) (get_or c p d))
    → IsSafe first (take k es) es c p → IsSafe first (take (k + 1) es) es c p
safe_next first es k c p back safe = record { holds = λ gone. safe.holds (λ d b. back d b (gone d b)) }

pub moved_refl : (s : Trail) (c : List Atom) (w w' : Watch) → w' ≡ w → IsMoved s c w w'
moved_refl s c w w' e = record { each = λ p h. inl (subst (λ (v : Watch). IsWatched v p) e h) }

pub open_earlier : (C : Grounds) (s t : Trail) (c : List Atom) (p : ℕ) → Infers C s t → IsNotFalse t c p → IsNotFalse s c p
open_earlier C s t c p h o = record { within = o.within; not_false = λ d f. o.not_false d (stays_false C s t h (get_or c p d) f) }

pub moved_trans : (C : Grounds) (s t : Trail) (c : List Atom) (u v w : Watch) → Infers C s t → IsMoved s c u v → IsMoved t c v w → IsMoved s c u w
moved_trans C s t c u v w h a b = record {
  each = λ p watched. elim (b.each p watched) [ inl old ↦ a.each p old | inr open' ↦ inr (open_earlier C s t c p h open') ];
}

pub outcome_refl : (clauses : List (List Atom)) (s t : Trail) (old new : List Watch) → t ≡ s → new ≡ old → IsOutcome clauses s old t new
outcome_refl clauses s t old new e f = record {
  infers = subst (λ (x : Trail). Infers (ByClauses clauses) s x) (sym e) (Infers-refl (ByClauses clauses) s);
  moved = record { each = λ i l. moved_refl s (clause_of clauses i) (watch_of old i) (watch_of new i) (ap (λ (ws : List Watch). watch_of ws i) f) };
}

pub outcome_same : (clauses : List (List Atom)) (s t : Trail) (old new : List Watch) → Infers (ByClauses clauses) s t → new ≡ old → IsOutcome clauses s old t new
outcome_same clauses s t old new h f = record { infers = h; moved = record { each = λ i l. moved_refl s (clause_of clauses i) (watch_of old i) (watch_of new i) (ap (λ (ws : List Watch). watch_of ws i) f) } }

pub outcome_trans : (clauses : List (List Atom)) (s t u : Trail) (w0 w1 w2 : List Watch) → IsOutcome clauses s w0 t w1 → IsOutcome clauses t w1 u w2 → IsOutcome clauses s w0 u w2
outcome_trans clauses s t u w0 w1 w2 a b = record {
  infers = Infers-trans (ByClauses clauses) s t u a.infers b.infers;
  moved = record {
    each = λ i l. moved_trans (ByClauses clauses) s t (clause_of clauses i) (watch_of w0 i) (watch_of w1 i) (watch_of w2 i) a.infers (a.moved.each i l) (b.moved.each i l);
  };
}

-- all watches are safe still
pub safe_outcome : (clauses : List (List Atom)) (s t : Trail) (old new : List Watch) (k : ℕ) → k ≤ length s.entries → IsOutcome clauses s old t new → AreSafe clauses old s k → AreSafe clauses new t k
safe_outcome clauses s t old new k l h safe = record {
  each = λ i p b some watched. elim ((h.moved.each i b).each p watched) [
    | inl before ↦ safe_infers (ByClauses clauses) s t k (clause_of clauses i) p h.infers l (safe.each i p b some before)
    | inr open' ↦ safe_infers (ByClauses clauses) s t k (clause_of clauses i) p h.infers l (safe_open s k s.entries (clause_of clauses i) p open')
  ];
}

-- and guards after fewer entries
pub guarded_moved : (s : Trail) (m : ℕ) (c : List Atom) (old new : Watch) → IsMoved s c old new → IsGuarded s.first (take m s.entries) c old → IsGuarded s.first (take m s.entries) c new
guarded_moved s m c old new h guarded = record {
  each = λ p watched. elim (h.each p watched) [ inl before ↦ guarded.each p before | inr open' ↦ safe_open s m (take m s.entries) c p open' ];
}

-- a watched place beside another
pub beside : (w : Watch) (k : ℕ) → w.one ≢ w.other → (q : ℕ) × IsWatched w q × (q ≢ k)
beside w k apart = elim (nat_cases w.one k) [
  | inl e ↦ (w.other, inr refl, λ f. apart (e ∙ sym f))
  | inr ne ↦ (w.one, inl refl, ne)
]

-- a clause of fewer than two atoms, all of whose watches are safe, has a true one
pub short_satisfied : (first : Domains) (early late : List Entry) (c : List Atom) (w : Watch) → length c < 2 → w.one ≢ w.other → ((p : ℕ) → IsWatched w p → IsSafe first early late c p) → IsClauseTrue first late c
short_satisfied first early late c w short apart safe =
    let q = beside w 0 apart in
    (safe q.0 q.1).holds (λ d b. absurd (omega (arith, b, short, q.2)))

-- a guarded clause is neither false nor unit
pub quiet_by_guard : (s : Trail) (c : List Atom) (w : Watch) → IsSoundTrail s → Fits s.first c → IsWatchPair (length c) w → IsGuarded s.first s.entries c w → IsQuietAfter s.first s.entries c
quiet_by_guard s c w sound fits pair guarded = record {
  not_false = λ all.
      let true_one = (guarded.each w.one (inl refl)).holds (λ d b. all w.one d b) in
      not_both s (get_or c true_one.place no_atom) (fits.subjects true_one.place no_atom true_one.within) sound (true_one.holds no_atom) (all true_one.place no_atom true_one.within);
  not_unit = λ unit.
      let q = beside w unit.0 pair.apart in
      let true_one = (guarded.each q.0 q.1).holds (λ d b. unit.1.others q.0 d b q.2) in
      elim (nat_cases true_one.place unit.0) [
        | inl e ↦ unit.1.not_true no_atom (subst (λ (j : ℕ). IsTrueAfter s.first s.entries (get_or c j no_atom)) e (true_one.holds no_atom))
        | inr ne ↦ not_both s (get_or c true_one.place no_atom) (fits.subjects true_one.place no_atom true_one.within) sound (true_one.holds no_atom) (unit.1.others true_one.place no_atom true_one.within ne)
      ];
}

pub satisfied_at : (first : Domains) (es : List Entry) (c : List Atom) (p : ℕ) → p < length c → IsTrueAfter first es (get_or c p no_atom) → IsClauseTrue first es c
satisfied_at first es c p l on = record { place = p; within = l; holds = λ d. at_any (IsTrueAfter first es) c p no_atom d l on }

-- all atoms are false where two are and the others are
pub failed_but_two : (s : Trail) (c : List Atom) (here other : ℕ) → here < length c → other < length c → ((d : Atom) → IsFalseNow s (get_or c here d)) → IsFalseNow s (get_or c other no_atom)
    → ((j : ℕ) (d : Atom) → j < length c → j ≢ here → j ≢ other → IsFalseNow s (get_or c j d)) → All (IsFalseNow s) c
failed_but_two s c here other l m at_here at_other others j d b = elim (nat_cases j here) [
  | inl e ↦ subst (λ (k : ℕ). IsFalseNow s (get_or c k d)) (sym e) (at_here d)
  | inr ne ↦ elim (nat_cases j other) [
    | inl e ↦ subst (λ (k : ℕ). IsFalseNow s (get_or c k d)) (sym e) (at_any (IsFalseNow s) c other no_atom d m at_other)
    | inr ne' ↦ others j d b ne ne'
  ]
]

-- an atom that was made true is
pub true_pushed : (first : Domains) (es : List Entry) (e : Entry) → IsTrueAfter first (es ++ e ∷ []) e.atom
true_pushed first es e x a = and_right (admits first es e.atom.subject x) (meets e.atom.op e.atom.value x) (sym (admits-push_same first es e x) ∙ a)

-- and where that one is undecided it is the last that is left
pub left_but_two : (s : Trail) (c : List Atom) (here other : ℕ) → here < length c → other < length c → ((d : Atom) → IsFalseNow s (get_or c here d)) → (IsTrueNow s (get_or c other no_atom) → ⊥) → (IsFalseNow s (get_or c other no_atom) → ⊥)
    → ((j : ℕ) (d : Atom) → j < length c → j ≢ here → j ≢ other → IsFalseNow s (get_or c j d)) → IsOneLeft s.first s.entries c (length c) other
left_but_two s c here other l m at_here not_true not_false others = record {
  within = m;
  others = λ j d b apart. elim (nat_cases j here) [
    | inl same ↦ subst (λ (k : ℕ). IsFalseNow s (get_or c k d)) (sym same) (at_here d)
    | inr ne ↦ others j d b ne apart
  ];
  not_true = λ d on. not_true (at_any (IsTrueNow s) c other d no_atom m on);
  not_false = λ d off. not_false (at_any (IsFalseNow s) c other d no_atom m off);
}

pub satisfied_implied : (s t : Trail) (c : List Atom) (p : ℕ) (e : Entry) → p < length c → t.first ≡ s.first → t.entries ≡ s.entries ++ e ∷ [] → e.atom ≡ get_or c p no_atom → IsClauseTrue t.first t.entries c
satisfied_implied s t c p e l first entries atom =
    satisfied_at t.first t.entries c p l
    (subst (λ (u : Atom). IsTrueAfter t.first t.entries u) atom (subst (λ (es : List Entry). IsTrueAfter t.first es e.atom) (sym entries) (true_pushed t.first s.entries e)))

-- what a clause gives, all give
by_one : (clauses : List (List Atom)) (i : ℕ) (c : List Atom) → c ≡ clause_of clauses i → i < length clauses → (first : Domains) (before : List Entry) (t : Atom) (r : Reason) → ByClause i c first before t r → ByClauses clauses first before t r
by_one clauses i c is l first before t Decision g = absurd g
by_one clauses i c is l first before t (Because clause) g = absurd g
by_one clauses i c is l first before t (Later (notes.Task number a b)) g = absurd g
by_one clauses i c is l first before t (Later (notes.InForce number)) g = record {
  within = subst (λ (k : ℕ). k < length clauses) (sym g.0) l;
  explains = subst (λ (k : ℕ). Explains first before (clause_of clauses k) t) (sym g.0) (subst (λ (ts : List Atom). Explains first before ts t) is g.1);
}

pub infers_one : (clauses : List (List Atom)) (i : ℕ) (c : List Atom) (s t : Trail) → c ≡ clause_of clauses i → i < length clauses → Infers (ByClause i c) s t → Infers (ByClauses clauses) s t
infers_one clauses i c s t is l h = Infers-weaker (ByClause i c) (ByClauses clauses) s t (by_one clauses i c is l s.first) h

-- the one atom that is not false was made true, with a note of the clause's number
pub infers_last : (s t : Trail) (number : ℕ) (c : List Atom) (p : ℕ) → Fits s.first c → p < length c → ((j : ℕ) (d : Atom) → j < length c → j ≢ p → IsFalseAfter s.first s.entries (get_or c j d))
    → t ≡ record s { entries = s.entries ++ record { atom = get_or c p no_atom; level = s.level; reason = Later (notes.InForce number) } ∷ [] } → open_values t.first t.entries + 1 ≤ open_values s.first s.entries → Infers (ByClause number c) s t
infers_last s t number c p fits l others is fewer = Infers-push (ByClause number c) s t _ is fewer refl (
  refl,
  record {
    has = Contains-get_or c p no_atom l;
    others = λ u in_c other. elim (nat_cases in_c.0 p) [
      | inl e ↦ absurd (other (sym in_c.2 ∙ ap (λ (k : ℕ). get_or c k u) e ∙ get_or_default c p u no_atom l))
      | inr ne ↦ subst (λ (v : Atom). IsFalseAfter s.first s.entries v) in_c.2 (others in_c.0 u in_c.1 ne)
    ];
    subjects = fits.subjects;
  },
)

pub untouched_trans : (s t u : Trail) (w0 w1 w2 : List Watch) (v0 v1 v2 : ℕ) → IsUntouched s w0 v0 t w1 v1 → IsUntouched t w1 v1 u w2 v2 → IsUntouched s w0 v0 u w2 v2
untouched_trans s t u w0 w1 w2 v0 v1 v2 a b = record { same = b.same ∙ a.same; kept = b.kept ∙ a.kept; unread = b.unread ∙ a.unread }

pub still_untouched : (clauses : List (List Atom)) (s t : Trail) (w0 w1 : List Watch) (v0 v1 k : ℕ) → IsUntouched s w0 v0 t w1 v1 → IsStill clauses w0 s k → IsStill clauses w1 t k
still_untouched clauses s t w0 w1 v0 v1 k u still = subst (λ (x : Trail). IsStill clauses w1 x k) (sym u.same) (subst (λ (ws : List Watch). IsStill clauses ws s k) (sym u.kept) still)

-- what was not false after fewer entries was not after more
pub still_later : (clauses : List (List Atom)) (ws : List Watch) (s : Trail) (k m : ℕ) → k ≤ m → IsStill clauses ws s k → IsStill clauses ws s m
still_later clauses ws s k m l still = record {
  each = λ i p d b watched in_clause now. IsFalseAfter-take s.first s.entries k m (get_or (clause_of clauses i) p d) l (still.each i p d b watched in_clause now);
}

-- a clause that is false is a conflict
pub conflict_of : (clauses : List (List Atom)) (s : Trail) (i : ℕ) → i < length clauses → All (IsFalseNow s) (clause_of clauses i) → Fits s.first (clause_of clauses i) → IsConflictInForce clauses s (clause_of clauses i)
conflict_of clauses s i l all fits = record { number = i; within = l; is = refl; false_now = all; subjects = fits.subjects }
