-- Guards at the end of each level, from the first clause that is looked at to the last entry.
use Rattle.std.proofs.Common.{ℕ, zero, suc, ◌≤◌, ◌<◌, ◌≡◌, Bool, true, false, cond, List, [], ◌∷◌, ◌++◌, length, take, drop, get_or, refl, sym, ◌∙◌, ap, subst, inl, inr, ◌⊎◌, arith}
use Rattle.std.specs.Prelude.{nat_le, max}
use Rattle.std.specs.List.{All}
use Rattle.std.proofs.lemmas.List.{take_all, take-take, take-append-drop}
use Rattle.std.proofs.lemmas.List.Sums.{length-filter, count_by-le-length}
use Rattle.std.proofs.lemmas.List.Elements.{filter_passes, All-head, All-take, All-weaker}
use Rattle.cps_literal.specs.declared.atom.Atom.{Atom}
use Rattle.cps_trail.specs.Trail.{Domains, Entry, Trail, IsFalseAfter, IsTrueAfter, IsSoundTrail, up_to}
use Rattle.cps_trail.specs.Adds.{Infers}
use Rattle.cps_trail.proofs.Inferring.{Infers-trans}
use Rattle.cps_trail.proofs.Marks.{up_to-all, up_to-append_above}
use Rattle.cps_trail.proofs.Times.{IsFalseAfter-take, IsTrueAfter-append, IsTrueAfter-all}
use Rattle.cps_clauses.specs.declared.watch.Watch.{Watch}
use Rattle.cps_clauses.specs.Quiet.{IsQuietAfter}
use Rattle.cps_clauses.specs.Watches.{clause_of, watch_of, IsWatched, IsClauseTrue, IsGone, IsGuarded, IsWatchPair}
use Rattle.cps_clauses.specs.Visits.{IsOutcome, AreSafe}
use Rattle.cps_clauses.specs.Settles.{AreGuarded, AreQuiet, StaysFalse, IsLookedOver, IsLookedThrough}
use Rattle.cps_clauses.proofs.QuietClauses.{AreInferred-levels}
use Rattle.cps_clauses.proofs.Guards.{satisfied_infers, take_infers, short_satisfied, guarded_moved, false_back}
use Rattle.cps_trail.specs.Notes.{ByClauses}

pub length-up_to : (level : ℕ) (es : List Entry) → length (up_to level es) ≤ length es
length-up_to level es = omega (arith, length-filter (λ e. nat_le e.level level) es, count_by-le-length (λ e. nat_le e.level level) es)

above_or : (m n : ℕ) → (m ≤ n) ⊎ (n < m)
above_or m n = grind arith

-- the entries up to a level stand first, so those of a part do
front_step : (l m : ℕ) (e : Entry) (es : List Entry) (b : Bool) → nat_le e.level l ≡ b → ((n : ℕ) → take (length (up_to l es)) es ≡ up_to l es → up_to l (take n es) ≡ take n (up_to l es))
    → take (length (cond b (e ∷ up_to l es) (up_to l es))) (e ∷ es) ≡ cond b (e ∷ up_to l es) (up_to l es) → cond b (e ∷ up_to l (take m es)) (up_to l (take m es)) ≡ take (suc m) (cond b (e ∷ up_to l es) (up_to l es))
front_step l m e es true level again h = ap (λ (fs : List Entry). e ∷ fs) (again m (tail_same h))
  where
    tail_same : {xs ys : List Entry} → e ∷ xs ≡ e ∷ ys → xs ≡ ys
    tail_same q = cc
front_step l m e es false level again h = none (up_to l es) refl (filter_passes (λ f. nat_le f.level l) es) h
  where
    none : (us : List Entry) → us ≡ up_to l es → All (λ f. nat_le f.level l ≡ true) us → take (length us) (e ∷ es) ≡ us → up_to l (take m es) ≡ take (suc m) us
    none [] is all g = again m (subst (λ (vs : List Entry). take (length vs) es ≡ vs) is (take_zero es)) ∙ ap (λ (vs : List Entry). take m vs) (sym is) ∙ take_none m
      where
        take_zero : (fs : List Entry) → take 0 fs ≡ []
        take_zero fs = refl

        take_none : (j : ℕ) → take j [] ≡ (let x : List Entry = [] in x)
        take_none zero = refl
        take_none (suc j) = refl
    none (u ∷ us) is all g =
        let same : e ≡ u = head_same g in
        let on : nat_le e.level l ≡ true = ap (λ (f : Entry). nat_le f.level l) same ∙ All-head (λ f. nat_le f.level l ≡ true) u us all in
        let bad : true ≡ false = sym on ∙ level in
        absurd (cc bad)
      where
        head_same : {xs ys : List Entry} → e ∷ xs ≡ u ∷ ys → e ≡ u
        head_same q = cc

pub up_to_take : (l m : ℕ) (es : List Entry) → take (length (up_to l es)) es ≡ up_to l es → up_to l (take m es) ≡ take m (up_to l es)
up_to_take l zero [] h = refl
up_to_take l (suc m) [] h = refl
up_to_take l zero (e ∷ es) h = refl
up_to_take l (suc m) (e ∷ es) h = front_step l m e es (nat_le e.level l) refl (λ n g. up_to_take l n es g) h

-- so they are the first ones too
pub front_of : (s : Trail) (l from : ℕ) → IsSoundTrail s → from ≤ length s.entries → (m : ℕ) × (m ≤ length s.entries) × (up_to l (take from s.entries) ≡ take m s.entries)
front_of s l from sound within = elim (above_or from (length (up_to l s.entries))) [
  | inl less ↦ (from, within, up_to_take l from s.entries (sound.fronts l) ∙ ap (λ (es : List Entry). take from es) (sym (sound.fronts l)) ∙ take-take from (length (up_to l s.entries)) s.entries less)
  | inr more ↦ (
    length (up_to l s.entries),
    omega (arith, more, within),
    up_to_take l from s.entries (sound.fronts l) ∙ take_all from (up_to l s.entries) (omega (arith, more)) ∙ sym (sound.fronts l),
  )
]

pub front_whole : (s : Trail) (l from : ℕ) → IsSoundTrail s → length (up_to l s.entries) ≤ from → up_to l (take from s.entries) ≡ take (length (up_to l s.entries)) s.entries
front_whole s l from sound less = up_to_take l from s.entries (sound.fronts l) ∙ take_all from (up_to l s.entries) less ∙ sym (sound.fronts l)

-- at the present level they are all
pub front_present : (s : Trail) (from : ℕ) → IsSoundTrail s → up_to s.level (take from s.entries) ≡ take from s.entries
front_present s from sound = up_to-all s.level (take from s.entries) (All-take (λ e. e.level ≤ s.level) from s.entries sound.levels)

true_take : (first : Domains) (es : List Entry) (m n : ℕ) (t : Atom) → m ≤ n → IsTrueAfter first (take m es) t → IsTrueAfter first (take n es) t
true_take first es m n t l f =
    let split : take m es ++ drop m (take n es) ≡ take n es = ap (λ (k : List Entry). k ++ drop m (take n es)) (sym (take-take m n es l)) ∙ take-append-drop m (take n es) in
    subst (λ (k : List Entry). IsTrueAfter first k t) split (IsTrueAfter-append first (take m es) (drop m (take n es)) t f)

pub satisfied_take : (first : Domains) (es : List Entry) (m n : ℕ) (c : List Atom) → m ≤ n → IsClauseTrue first (take m es) c → IsClauseTrue first (take n es) c
satisfied_take first es m n c l h = record { place = h.place; within = h.within; holds = λ d. true_take first es m n (get_or c h.place d) l (h.holds d) }

pub satisfied_all : (first : Domains) (es : List Entry) (m : ℕ) (c : List Atom) → IsClauseTrue first (take m es) c → IsClauseTrue first es c
satisfied_all first es m c h = record { place = h.place; within = h.within; holds = λ d. IsTrueAfter-all first es m (get_or c h.place d) (h.holds d) }

sizes : (c : List Atom) → (length c < 2) ⊎ (2 ≤ length c)
sizes c = grind arith

module _ (clauses : List (List Atom)) (s : Trail) (w0 : List Watch) (settled from below looked : ℕ) (sound : IsSoundTrail s) (within : from ≤ length s.entries) (low : below ≤ length s.entries)
    (in_step : AreGuarded s.first (take from s.entries) clauses w0 settled) (fewer : looked ≤ settled) (counted : settled ≤ length clauses) (stays : StaysFalse clauses w0 looked s from (max from below))
    (pairs : (i : ℕ) → i < length clauses → IsWatchPair (length (clause_of clauses i)) (watch_of w0 i)) where
  -- a clause that is not looked at, where a watched atom is gone after as many entries as are passed over
  passed : (i p m : ℕ) → i < looked → 1 ≤ length (clause_of clauses i) → m ≤ max from below → IsWatched (watch_of w0 i) p → IsGone s.first (take m s.entries) (clause_of clauses i) p → IsClauseTrue s.first (take from s.entries) (clause_of clauses i)
  passed i p m b some l watched gone =
      let present = subst (λ (es : List Entry). IsGuarded s.first es (clause_of clauses i) (watch_of w0 i)) (front_present s from sound) (in_step s.level i (omega (arith, b, fewer)) some) in
      elim (sizes (clause_of clauses i)) [
        | inl short ↦ short_satisfied s.first (take from s.entries) (take from s.entries) (clause_of clauses i) (watch_of w0 i) short (pairs i (omega (arith, b, fewer, counted))).apart present.each
        | inr long ↦ (present.each p watched).holds (λ d in_clause. stays.each i p d b long watched (IsFalseAfter-take s.first s.entries m (max from below) (get_or (clause_of clauses i) p d) l (gone d in_clause)))
      ]

  pub safe_start : (t : Trail) (w1 : List Watch) → IsLookedThrough clauses s w0 t w1 looked → AreSafe clauses w1 t (max from below)
  safe_start t w1 h = record {
    each = λ i p b some watched. elim (below_or i looked) [
      | inl before ↦ record {
        holds = λ gone.
            let gone' : IsGone s.first (take (max from below) s.entries) (clause_of clauses i) p = λ d l. false_back (ByClauses clauses) s t (max from below) (get_or (clause_of clauses i) p d) h.over.infers (omega (arith, within, low)) (gone d l) in
            satisfied_infers (ByClauses clauses) s t (clause_of clauses i) h.over.infers
            (satisfied_all s.first s.entries from (clause_of clauses i)
            (passed i p (max from below) before some (omega arith) (subst (λ (w : Watch). IsWatched w p) (h.over.before i before) watched) gone'));
      }
      | inr after ↦ record {
        holds = λ gone. (h.now.now i p after b some watched).holds (λ d l. IsFalseAfter-take t.first t.entries (max from below) (length s.entries) (get_or (clause_of clauses i) p d) (omega (arith, within, low)) (gone d l));
      }
    ];
  }
    where
      below_or : (m n : ℕ) → (m < n) ⊎ (n ≤ m)
      below_or m n = grind arith

  -- the clauses are guarded at the end of an earlier level
  early : (t1 : Trail) (w1 : List Watch) → AreQuiet clauses s s.level → ((l : ℕ) → l < s.level → length (up_to l s.entries) ≤ below) → IsLookedThrough clauses s w0 t1 w1 looked → (l i : ℕ) → l < s.level → i < length clauses → 1 ≤ length (clause_of clauses i)
      → IsGuarded s.first (take (length (up_to l s.entries)) s.entries) (clause_of clauses i) (watch_of w1 i)
  early t1 w1 quiet ends h l i less b some = elim (below_or i looked) [
    | inl before ↦ subst (λ (w : Watch). IsGuarded s.first (take (length (up_to l s.entries)) s.entries) (clause_of clauses i) w) (sym (h.over.before i before))
        (elim (above_or (length (up_to l s.entries)) from) [
          | inl near ↦ subst (λ (es : List Entry). IsGuarded s.first es (clause_of clauses i) (watch_of w0 i)) (front_whole s l from sound near) (in_step l i (omega (arith, before, fewer)) some)
          | inr far ↦ record {
            each = λ p watched. record {
              holds = λ gone. satisfied_take s.first s.entries from (length (up_to l s.entries)) (clause_of clauses i) (omega (arith, far))
                  (passed i p (length (up_to l s.entries)) before some (omega (arith, ends l less)) watched gone);
            };
          }
        ])
    | inr after ↦ h.over.quiet i (length (up_to l s.entries)) after b (omega (arith, ends l less, low)) (subst (λ (es : List Entry). IsQuietAfter s.first es (clause_of clauses i)) (sym (sound.fronts l)) (quiet.at l i less b some))
  ]
    where
      below_or : (m n : ℕ) → (m < n) ⊎ (n ≤ m)
      below_or m n = grind arith

  -- at the end of all levels, once all is settled
  pub settled_whole : (t1 t : Trail) (w1 w2 : List Watch) → AreQuiet clauses s s.level → ((l : ℕ) → l < s.level → length (up_to l s.entries) ≤ below) → IsLookedThrough clauses s w0 t1 w1 looked → IsOutcome clauses t1 w1 t w2 → IsSoundTrail t
      → AreSafe clauses w2 t (length t.entries) → AreGuarded t.first t.entries clauses w2 (length clauses)
  settled_whole t1 t w1 w2 quiet ends h outcome sound' safe l i b some = elim (above_or s.level l) [
    | inl present ↦ subst (λ (es : List Entry). IsGuarded t.first es (clause_of clauses i) (watch_of w2 i)) (sym (up_to-all l t.entries (All-weaker (λ e. e.level ≤ t.level) (λ e. e.level ≤ l) (λ e g. omega (arith, g, all.level, present)) t.entries sound'.levels))) (record {
      each = λ p watched. record {
        holds = λ gone. (safe.each i p b some watched).holds (λ d q. subst (λ (es : List Entry). IsFalseAfter t.first es (get_or (clause_of clauses i) p d)) (sym (take_all (length t.entries) t.entries (omega arith))) (gone d q));
      };
    })
    | inr less ↦
        let m = length (up_to l s.entries) in
        let base = early t1 w1 quiet ends h l i less b some in
        let in_t1 : IsGuarded t1.first (take (length (up_to l s.entries)) t1.entries) (clause_of clauses i) (watch_of w1 i) = same_guard s t1 (length (up_to l s.entries)) (clause_of clauses i) (watch_of w1 i) h.over.infers.first (take_infers (ByClauses clauses) s t1 (length (up_to l s.entries)) h.over.infers (omega (arith, ends l less, low))) base in
        let moved = guarded_moved t1 (length (up_to l s.entries)) (clause_of clauses i) (watch_of w1 i) (watch_of w2 i) (outcome.moved.each i b) in_t1 in
        let in_t : IsGuarded t.first (take (length (up_to l s.entries)) t1.entries) (clause_of clauses i) (watch_of w2 i) = subst (λ (fs : Domains). IsGuarded fs (take (length (up_to l s.entries)) t1.entries) (clause_of clauses i) (watch_of w2 i)) (sym outcome.infers.first) moved in
        subst (λ (es : List Entry). IsGuarded t.first es (clause_of clauses i) (watch_of w2 i))
        (take_infers (ByClauses clauses) s t1 (length (up_to l s.entries)) h.over.infers (omega (arith, ends l less, low)) ∙ sound.fronts l ∙ sym (lower l less)) in_t
  ]
    where
      all : Infers (ByClauses clauses) s t
      all = Infers-trans (ByClauses clauses) s t1 t h.over.infers outcome.infers

      lower : (l : ℕ) → l < s.level → up_to l t.entries ≡ up_to l s.entries
      lower l less = ap (λ (es : List Entry). up_to l es) all.entries ∙ up_to-append_above l s.entries all.added (All-weaker (λ e. s.level ≤ e.level) (λ e. l < e.level) (λ e g. omega (arith, g, less)) all.added (AreInferred-levels (ByClauses clauses) s.first s.level s.entries all.added all.inferred))

      same_guard : (a c : Trail) (m : ℕ) (k : List Atom) (w : Watch) → c.first ≡ a.first → take m c.entries ≡ take m a.entries → IsGuarded a.first (take m a.entries) k w → IsGuarded c.first (take m c.entries) k w
      same_guard a c m k w e f g = subst (λ (fs : Domains). IsGuarded fs (take m c.entries) k w) (sym e) (subst (λ (es : List Entry). IsGuarded a.first es k w) (sym f) g)

  -- up to the looks
  stopped : (t1 : Trail) (w1 : List Watch) (to : ℕ) → IsLookedOver clauses s w0 t1 w1 looked to → (m : ℕ) → m ≤ length s.entries → (l i : ℕ) → i < settled → 1 ≤ length (clause_of clauses i) → up_to l (take from s.entries) ≡ take m s.entries → IsGuarded s.first (take m s.entries) (clause_of clauses i) (watch_of w1 i)
  stopped t1 w1 to over m short l i b some is =
      let old = subst (λ (es : List Entry). IsGuarded s.first es (clause_of clauses i) (watch_of w0 i)) is (in_step l i b some) in
      elim (below_or i looked) [
        | inl before ↦ subst (λ (w : Watch). IsGuarded s.first (take m s.entries) (clause_of clauses i) w) (sym (over.before i before)) old
        | inr after ↦ elim (below_or i to) [
          | inl inside ↦ over.guarded i m after inside short old
          | inr beyond ↦ subst (λ (w : Watch). IsGuarded s.first (take m s.entries) (clause_of clauses i) w) (sym (over.after i beyond)) old
        ]
      ]
    where
      below_or : (m n : ℕ) → (m < n) ⊎ (n ≤ m)
      below_or m n = grind arith

  -- after a conflict the clauses that were guarded after `from` entries still are
  pub stopped_moved : (t1 t : Trail) (w1 w2 : List Watch) → IsLookedThrough clauses s w0 t1 w1 looked → IsOutcome clauses t1 w1 t w2 → AreGuarded t.first (take from t.entries) clauses w2 settled
  stopped_moved t1 t w1 w2 h outcome l i b some =
      let m = front_of s l from sound within in
      let over = stopped t1 w1 (length clauses) h.over m.0 m.1 l i b some m.2 in
      let all : Infers (ByClauses clauses) s t = Infers-trans (ByClauses clauses) s t1 t h.over.infers outcome.infers in
      let in_t1 : IsGuarded t1.first (take m.0 t1.entries) (clause_of clauses i) (watch_of w1 i) =
      subst (λ (fs : Domains). IsGuarded fs (take m.0 t1.entries) (clause_of clauses i) (watch_of w1 i)) (sym h.over.infers.first)
      (subst (λ (es : List Entry). IsGuarded s.first es (clause_of clauses i) (watch_of w1 i)) (sym (take_infers (ByClauses clauses) s t1 m.0 h.over.infers m.1)) over) in
      let moved = guarded_moved t1 m.0 (clause_of clauses i) (watch_of w1 i) (watch_of w2 i) (outcome.moved.each i (omega (arith, b, counted))) in_t1 in
      subst (λ (fs : Domains). IsGuarded fs (up_to l (take from t.entries)) (clause_of clauses i) (watch_of w2 i)) (sym outcome.infers.first)
      (subst (λ (es : List Entry). IsGuarded t1.first es (clause_of clauses i) (watch_of w2 i))
      (take_infers (ByClauses clauses) s t1 m.0 h.over.infers m.1 ∙ sym m.2 ∙ ap (λ (es : List Entry). up_to l es) (sym (take_infers (ByClauses clauses) s t from all within))) moved)

  pub stopped_looks : (t1 : Trail) (w1 : List Watch) (to : ℕ) → IsLookedOver clauses s w0 t1 w1 looked to → AreGuarded t1.first (take from t1.entries) clauses w1 settled
  stopped_looks t1 w1 to over l i b some =
      let m = front_of s l from sound within in
      subst (λ (fs : Domains). IsGuarded fs (up_to l (take from t1.entries)) (clause_of clauses i) (watch_of w1 i)) (sym over.infers.first)
      (subst (λ (es : List Entry). IsGuarded s.first es (clause_of clauses i) (watch_of w1 i)) (sym m.2 ∙ ap (λ (es : List Entry). up_to l es) (sym (take_infers (ByClauses clauses) s t1 from over.infers within))) (stopped t1 w1 to over m.0 m.1 l i b some m.2))
