-- A search after it dropped learnt clauses, where that was due.
use Rattle.cps_search.proofs.Logs.{learnt-dropped}
use Rattle.std.proofs.Common.{ℕ, ◌+◌, ◌/◌, ◌%◌, ◌≤◌, ◌<◌, ◌≡◌, ◌≢◌, ◌⊎◌, Option, List, [], ◌∷◌, length, map, refl, sym, ◌∙◌, ap, subst, inl, inr, arith}
use Rattle.std.specs.List.{All}
use Rattle.std.proofs.lemmas.List.Elements.{All-append, All-cons}
use Rattle.cps_model.specs.declared.bound.Bound.{Bound}
use Rattle.cps_literal.specs.declared.atom.Atom.{Atom}
use Rattle.cps_instance.specs.declared.task.Task.{Task}
use Rattle.cps_trail.specs.Trail.{Trail}
use Rattle.cps_clauses.specs.InForce.{marked}
use Rattle.cps_clauses.specs.Journals.{count_standing, drops, standing_in}
use Rattle.cps_clauses.specs.Quiet.{Fits, IsQuiet}
use Rattle.cps_clauses.specs.Bases.{Base, IsSoundBase, in_force_of, number_at}
use Rattle.cps_clauses.specs.Forgets.{Forgets, HasForgotten, learnt_in_force, without}
use Rattle.cps_clauses.proofs.DroppedClauses.{length-blanked}
use Rattle.cps_clauses.proofs.LearntNumbers.{emptied_is}
use Rattle.cps_clauses.proofs.ForgottenClauses.{all_blanked, fewer_in_force, forgotten_stand, in_turn_apart, named_left, places_of, quiet_forgotten, IsHonest-drops, IsSoundBase-dropped}
use Rattle.cps_search.specs.Searches.{Search, HoldsOver, IsItemAbove, IsSoundSearch, IsWorthy, learnt_count}
use Rattle.cps_search.specs.Shelves.{Shelf, DropsHalf, ForgetsWhenDue, IsForgettingDue, IsSoundShelf, bare_base, in_force_on, shelf_of}
use Rattle.cps_search.proofs.DroppedClauses.{drops_due, given_left, learnt_count-drops, learnt_count-standing}
use Rattle.cps_propagate.specs.Recalling.{Recall}
use Rattle.cps_search.specs.Resting.{IsResting}
use Rattle.cps_search.proofs.SearchInvariants.{IsLeft}
use Rattle.cps_search.proofs.TasksAtRest.{resting_dropped}

due_or : (b : Shelf) → IsForgettingDue b ⊎ (IsForgettingDue b → ⊥)
due_or b = elim (cases (length b.learnt)) [ inl due ↦ inl (record { some_learnt = due.0; interval = due.1 }) | inr not ↦ inr (λ due. not (due.some_learnt, due.interval)) ]
  where
    same_or : (i j : ℕ) → (i ≡ j) ⊎ (i ≢ j)
    same_or i j = grind arith

    cases : (n : ℕ) → ((0 < n) × (n % 2000 ≡ 0)) ⊎ ((0 < n) × (n % 2000 ≡ 0) → ⊥)
    cases n = elim (same_or n 0) [
      | inl none ↦ inr (λ due. (let l = due.0 in omega (arith, l, none)))
      | inr some ↦ elim (same_or (n % 2000) 0) [ inl even ↦ inl (omega (arith, some), even) | inr odd ↦ inr (λ due. odd due.1) ]
    ]

drops_above : (z : Bound) (ns : List ℕ) → All (IsItemAbove z) (drops ns)
drops_above z [] = λ k d l. absurd (omega (arith, l))
drops_above z (n ∷ ns) = All-cons (IsItemAbove z) _ (drops ns) tt (drops_above z ns)

-- what holds of each clause in force holds of those that are left
pub fewer_left : (P : List Atom → Type 0) (b left : Shelf) (s : Trail) → IsSoundShelf b → ForgetsWhenDue b left s → All P (in_force_on b) → All P (in_force_on left)
fewer_left P b left s sound forgets all = elim (due_or b) [
  | inl due ↦
      let half = forgets.due due in
      subst (λ (x : Shelf). All P (in_force_on x)) (sym half.is)
      (fewer_in_force P (bare_base b) half.which sound (places_of (bare_base b) s (learnt_in_force (bare_base b) / 2) half.which half.forgets) all)
  | inr not ↦ subst (λ (x : Shelf). All P (in_force_on x)) (sym (forgets.not_due not)) all
]

-- as many clauses as there were
emptied_long : (b : Base) (s : Trail) (keep : ℕ) (which : List ℕ) → IsSoundBase b → Forgets b s keep which → length (without b which).clauses ≡ length b.clauses
emptied_long b s keep which sound forgets =
    ap (λ (ks : List (List Atom)). length ks) (emptied_is b.clauses b.dropped b.learnt b.journal which sound.sizes sound.blank sound.numbered (places_of b s keep which forgets))
    ∙ length-blanked b.clauses (marked b.dropped (map (number_at b.learnt) which))

left_half : (s : Search) (due : IsForgettingDue s.base) (left : Shelf) (h : IsSoundSearch s) (half : DropsHalf s.base left s.store) → IsLeft s (shelf_of (without (bare_base s.base) half.which))
left_half s due left h half =
    let b = bare_base s.base in
    let keep = learnt_in_force (bare_base s.base) / 2 in
    let which = half.which in
    let places = places_of (bare_base s.base) s.store (learnt_in_force (bare_base s.base) / 2) half.which half.forgets in
    let long = emptied_long (bare_base s.base) s.store (learnt_in_force (bare_base s.base) / 2) half.which h.base half.forgets in
    let sound = IsSoundBase-dropped (bare_base s.base) s.store (learnt_in_force (bare_base s.base) / 2) half.which h.base half.forgets in
    let learnt : learnt_count s.base.journal ≡ length s.base.learnt = (let n = learnt_count-standing [] s.base.journal in omega (arith, n, h.base.numbered.count)) in
    record {
      given = given_left s.tasks s.base.clauses (without (bare_base s.base) half.which).clauses s.store long (λ i named. named_left (bare_base s.base) s.store (learnt_in_force (bare_base s.base) / 2) half.which i h.base half.forgets named) h.given;
      clauses = fewer_in_force (HoldsOver s.instance s.z) (bare_base s.base) half.which h.base places h.clauses;
      subjects = subst (All (Fits s.store.first)) (sym (emptied_is s.base.clauses s.base.dropped s.base.learnt s.base.journal half.which h.base.sizes h.base.blank h.base.numbered places))
          (all_blanked (Fits s.store.first) s.base.clauses (marked s.base.dropped (map (number_at s.base.learnt) half.which)) (record { subjects = λ k d l. absurd (omega (arith, l)) }) h.subjects);
      base = record { normal = sound.normal; sizes = sound.sizes; blank = sound.blank; numbered = sound.numbered; in_force = sound.in_force };
      quiet = quiet_forgotten (bare_base s.base) half.which s.store s.store.level h.base places h.quiet;
      journal = record {
        news = IsHonest-drops (IsWorthy s.instance) s.base.journal half.which h.journal.news (forgotten_stand (bare_base s.base) s.store (learnt_in_force (bare_base s.base) / 2) half.which h.base half.forgets)
            (in_turn_apart s.base.clauses s.base.learnt half.which half.forgets.in_turn);
        drops = drops_due (IsWorthy s.instance) s.base.journal half.which h.journal.news h.journal.drops h.none_since (omega (arith, due.some_learnt, learnt)) (subst (λ (n : ℕ). n % 2000 ≡ 0) (sym learnt) due.interval)
            (room (count_standing (standing_in s.base.journal)) half.which half.forgets.no_more);
      };
      above = All-append (IsItemAbove s.z) s.base.journal (drops half.which) h.above (drops_above s.z half.which);
      counted = h.counted ∙ sym (learnt_count-drops s.base.journal half.which);
      count = long ∙ h.count;
      same_learnt = learnt-dropped s.base.journal half.which;
    }
  where
    room : (n : ℕ) (ns : List ℕ) → (n / 2 + length ns ≤ n) ⊎ (ns ≡ []) → n / 2 + length ns ≤ n
    room n ns h = elim h [ inl l ↦ l | inr none ↦ (let e = ap (λ (ms : List ℕ). length ms) none in omega (arith, e)) ]

-- a search is sound, but for the clause that it learnt, once learnt clauses were dropped if that was due
pub left_of : (s : Search) (left : Shelf) → IsSoundSearch s → ForgetsWhenDue s.base left s.store → IsLeft s left
left_of s left h forgets = elim (due_or s.base) [
  | inl due ↦ (let half = forgets.due due in subst (IsLeft s) (sym half.is) (left_half s due left h half))
  | inr not ↦ subst (IsLeft s) (sym (forgets.not_due not)) (record {
    given = h.given;
    clauses = h.clauses;
    subjects = h.subjects;
    base = h.base;
    quiet = h.quiet;
    journal = h.journal;
    above = h.above;
    counted = h.counted;
    count = h.count;
    same_learnt = refl;
  })
]

-- what goes from a base goes from its shelf
forgets_bare : (b : Base) (s : Trail) (keep : ℕ) (which : List ℕ) → Forgets b s keep which → Forgets (bare_base (shelf_of b)) s keep which
forgets_bare b s keep which h = record { could_go = h.could_go; in_turn = h.in_turn; before_others = h.before_others; no_more = h.no_more; no_fewer = h.no_fewer }

-- nothing is dropped where that is not due, and half where it is
pub forgets_none : (b : Shelf) (s : Trail) → (IsForgettingDue b → ⊥) → ForgetsWhenDue b b s
forgets_none b s not = record { due = λ due. absurd (not due); not_due = λ _. refl }

pub forgets_half : (b c : Base) (s : Trail) (keep count : ℕ) → keep ≡ learnt_in_force b / 2 → IsForgettingDue (shelf_of b) → HasForgotten b c s keep count → ForgetsWhenDue (shelf_of b) (shelf_of c) s
forgets_half b c s keep count half due h = record {
  due = λ _. record {
    which = h.which;
    forgets = subst (λ (n : ℕ). Forgets (bare_base (shelf_of b)) s n h.which) half (forgets_bare b s keep h.which h.forgets);
    is = ap (λ (x : Base). shelf_of x) h.is;
  };
  not_due = λ not. absurd (not due);
}

-- what a base is after it forgot
pub forgotten_quiet : (b c : Base) (s : Trail) (keep count below : ℕ) → IsSoundBase b → HasForgotten b c s keep count → IsQuiet (in_force_of b) s below → IsQuiet (in_force_of c) s below
forgotten_quiet b c s keep count below sound h quiet =
    subst (λ (x : Base). IsQuiet (in_force_of x) s below) (sym h.is) (quiet_forgotten b h.which s below sound (places_of b s keep h.which h.forgets) quiet)

pub forgotten_rested : (tasks : List Task) (recall : Recall) (b c : Base) (s : Trail) (keep count : ℕ) (rested : Option ℕ) (from : ℕ) → IsSoundBase b → HasForgotten b c s keep count → IsResting tasks recall b s rested from → IsResting tasks recall c s rested from
forgotten_rested tasks recall b c s keep count rested from sound h rests = resting_dropped tasks recall b c s keep h.which rested from sound h.forgets h.is rests

pub forgotten_long : (b c : Base) (s : Trail) (keep count : ℕ) → IsSoundBase b → HasForgotten b c s keep count → length c.clauses ≡ length b.clauses
forgotten_long b c s keep count sound h = ap (λ (x : Base). length x.clauses) h.is ∙ emptied_long b s keep h.which sound h.forgets

pub forgotten_sound : (b c : Base) (s : Trail) (keep count : ℕ) → IsSoundBase b → HasForgotten b c s keep count → IsSoundBase c
forgotten_sound b c s keep count sound h = subst (λ (x : Base). IsSoundBase x) (sym h.is) (IsSoundBase-dropped b s keep h.which sound h.forgets)
