-- What a base is after it dropped learnt clauses.
use Rattle.std.proofs.Common.{ℕ, suc, ◌-◌, ◌≤◌, ◌<◌, ◌≡◌, ◌≢◌, ◌⊎◌, Bool, true, false, Option, None, List, [], ◌∷◌, ◌++◌, length, take, get_or, map, refl, sym, ◌∙◌, ap, subst, inl, inr, arith}
use Rattle.std.specs.Prelude.{AllPairs}
use Rattle.std.specs.List.{All, Contains}
use Rattle.std.proofs.lemmas.List.{append_assoc, append-nil, get_or_default, get_or-set_other, get_or-take, length-take-le, take_all}
use Rattle.std.proofs.lemmas.List.Elements.{All-cons, All-head, All-tail, All-take, All-weaker}
use Rattle.cps_literal.specs.declared.atom.Atom.{Atom}
use Rattle.cps_literal.specs.Normal.{IsNormal}
use Rattle.cps_model.specs.declared.bound.Bound.{Bound}
use Rattle.cps_trail.specs.Trail.{Trail, up_to}
use Rattle.cps_clauses.specs.declared.journal.JournalItem.{JournalItem}
use Rattle.cps_clauses.specs.declared.journal.JournalItem.TheVariants.{Drop}
use Rattle.cps_clauses.specs.declared.watch.Watcher.{Watcher}
use Rattle.cps_clauses.specs.InForce.{is_dropped, IsNumberInForce, blanked, marked, emptied}
use Rattle.cps_clauses.specs.Journals.{count_standing, standing_in, drops, IsHonest, IsStanding}
use Rattle.cps_clauses.specs.Quiet.{IsQuiet, IsQuietAfter}
use Rattle.cps_clauses.specs.Watches.{clause_of, slot_of, IsWatching, HasWatchLists, list_at}
use Rattle.cps_clauses.specs.Bases.{Base, IsSoundBase, IsStored, in_force_of, number_at}
use Rattle.cps_clauses.specs.Forgets.{MayGo, GoesFirst, GoInOrder, Forgets, HasForgotten, IsNamed, without, learnt_clause, learnt_in_force}
use Rattle.cps_clauses.proofs.Honesty.{IsHonest-push, standing_in-push}
use Rattle.cps_clauses.proofs.DroppedClauses.{all_held, at_held, blanked_dropped, blanked_kept, length-blanked, length-marked, marked_below, marked_keeps, marked_only}
use Rattle.cps_clauses.proofs.LearntNumbers.{unset, standing_in-drops, count_unset, numbered_in_force, numbered_dropped, number_of_some, emptied_is}

le_or : (m n : ℕ) → (m ≤ n) ⊎ (n < m)
le_or m n = grind arith

take_length : (k : ℕ) (xs : List ℕ) → length (take k xs) ≤ k
take_length k xs = elim (le_or k (length xs)) [
  | inl few ↦ (let e = length-take-le k xs few in omega (arith, e))
  | inr all ↦ (let e = ap (λ (ys : List ℕ). length ys) (take_all k xs (omega (arith, all))) in omega (arith, e, all))
]

take_within : (k : ℕ) (xs : List ℕ) → length (take k xs) ≤ length xs
take_within k xs = elim (le_or k (length xs)) [
  | inl few ↦ (let e = length-take-le k xs few in omega (arith, e, few))
  | inr all ↦ (let e = ap (λ (ys : List ℕ). length ys) (take_all k xs (omega (arith, all))) in omega (arith, e))
]

-- the first ones of a list in order are so
AllPairs-take : (R : ℕ → ℕ → Type 0) (k : ℕ) (xs : List ℕ) → AllPairs R xs → AllPairs R (take k xs)
AllPairs-take R k xs h i j d l m =
    let short = take_length k xs in
    let long = take_within k xs in
    subst (λ (x : ℕ). R x (get_or (take k xs) j d)) (sym (get_or-take k xs i d (omega (arith, l, m, short))))
    (subst (λ (y : ℕ). R (get_or xs i d) y) (sym (get_or-take k xs j d (omega (arith, m, short)))) (h i j d l (omega (arith, m, long))))

-- of the clauses that may go, in turn, the first go until enough are left
pub forgets_first : (b : Base) (s : Trail) (keep : ℕ) (order : List ℕ) → GoInOrder b.clauses b.dropped b.learnt s order → Forgets b s keep (take (learnt_in_force b - keep) order)
forgets_first b s keep order h =
    let k = learnt_in_force b - keep in
    let short = take_length (learnt_in_force b - keep) order in
    record {
      could_go = All-take (MayGo b.clauses b.dropped b.learnt s) (learnt_in_force b - keep) order h.may_go;
      in_turn = AllPairs-take (GoesFirst b.clauses b.learnt) (learnt_in_force b - keep) order h.in_turn;
      before_others = λ n m has may none. before n m has (h.all m may) none;
      no_more = elim (le_or (learnt_in_force b) keep) [
        | inl few ↦ inr (none_left (learnt_in_force b - keep) order (omega (arith, few)))
        | inr more ↦ inl (omega (arith, short, more))
      ];
      no_fewer = elim (le_or (learnt_in_force b - keep) (length order)) [
        | inl few ↦ inl (let e = length-take-le (learnt_in_force b - keep) order few in omega (arith, e))
        | inr all ↦ inr (λ n may. subst (λ (xs : List ℕ). Contains xs n) (sym (take_all (learnt_in_force b - keep) order (omega (arith, all)))) (h.all n may))
      ];
    }
  where
    none_left : (k : ℕ) (xs : List ℕ) → k ≡ 0 → take k xs ≡ []
    none_left k xs e = ap (λ (n : ℕ). take n xs) e

    inside : (i : ℕ) → i < learnt_in_force b - keep → i < length order → i < length (take (learnt_in_force b - keep) order)
    inside i l m = elim (le_or (learnt_in_force b - keep) (length order)) [
      | inl few ↦ (let e = length-take-le (learnt_in_force b - keep) order few in omega (arith, e, l))
      | inr all ↦ (let e = ap (λ (ys : List ℕ). length ys) (take_all (learnt_in_force b - keep) order (omega (arith, all))) in omega (arith, e, m))
    ]

    before : (n m : ℕ) → Contains (take (learnt_in_force b - keep) order) n → Contains order m → (Contains (take (learnt_in_force b - keep) order) m → ⊥) → GoesFirst b.clauses b.learnt n m
    before n m has other none =
        let short = take_length (learnt_in_force b - keep) order in
        let k = learnt_in_force b - keep in
        elim (le_or (learnt_in_force b - keep) other.0) [
          | inl after ↦
              let at : get_or order has.0 n ≡ n = sym (get_or-take (learnt_in_force b - keep) order has.0 n (let l = has.1 in omega (arith, l, short))) ∙ has.2 in
              subst (λ (x : ℕ). GoesFirst b.clauses b.learnt x m) at
              (subst (λ (y : ℕ). GoesFirst b.clauses b.learnt (get_or order has.0 n) y) (get_or_default order other.0 n m other.1 ∙ other.2) (h.in_turn has.0 other.0 n (let l = has.1 in omega (arith, l, short, after)) other.1))
          | inr early ↦ absurd (none (other.0, inside other.0 early other.1, get_or-take (learnt_in_force b - keep) order other.0 m early ∙ other.2))
        ]

-- what holds of each clause, and of one without atoms, holds of what is left
pub all_blanked : (P : List Atom → Type 0) (cs : List (List Atom)) (ds : List Bool) → P [] → All P cs → All P (blanked cs ds)
all_blanked P [] ds none all = all
all_blanked P (c ∷ cs) [] none all = all
all_blanked P (c ∷ cs) (true ∷ ds) none all = All-cons P [] (blanked cs ds) none (all_blanked P cs ds none (All-tail P c cs all))
all_blanked P (c ∷ cs) (false ∷ ds) none all = All-cons P c (blanked cs ds) (All-head P c cs all) (all_blanked P cs ds none (All-tail P c cs all))

-- clauses that go in turn are different ones
pub in_turn_apart : (clauses : List (List Atom)) (learnt which : List ℕ) → AllPairs (GoesFirst clauses learnt) which → AllPairs (λ n m. n ≢ m) which
in_turn_apart clauses learnt which h i j d l m e = elim (subst (λ (x : ℕ). GoesFirst clauses learnt (get_or which i d) x) (sym e) (h i j d l m)) [
  | inl longer ↦ omega (arith, longer)
  | inr older ↦ (let less = older.1 in omega (arith, less))
]

-- those that a base drops stand in its journal
pub forgotten_stand : (b : Base) (s : Trail) (keep : ℕ) (which : List ℕ) → IsSoundBase b → Forgets b s keep which → (n : ℕ) → Contains which n → (c : List Atom) × IsStanding (standing_in b.journal) n c
forgotten_stand b s keep which sound h n has =
    let may = subst (MayGo b.clauses b.dropped b.learnt s) has.2 (h.could_go has.0 n has.1) in
    (learnt_clause b.clauses b.learnt n, sound.numbered.fallen n may.within may.held.stays)

-- the numbers of clauses that go are those of learnt ones
pub places_of : (b : Base) (s : Trail) (keep : ℕ) (which : List ℕ) → Forgets b s keep which → All (λ n. n < length b.learnt) which
places_of b s keep which h = All-weaker (MayGo b.clauses b.dropped b.learnt s) (λ n. n < length b.learnt) (λ n may. may.within) which h.could_go

-- what holds of each base holds without them
pub IsSoundBase-dropped : (b : Base) (s : Trail) (keep : ℕ) (which : List ℕ) → IsSoundBase b → Forgets b s keep which → IsSoundBase (without b which)
IsSoundBase-dropped b s keep which h forgets =
    let cs = emptied_is b.clauses b.dropped b.learnt b.journal which h.sizes h.blank h.numbered (places_of b s keep which forgets) in
    let numbers = numbered_dropped b.clauses b.dropped b.learnt b.journal which h.sizes h.blank h.numbered (places_of b s keep which forgets) in
    subst (λ (ks : List (List Atom)). IsSoundBase (record b { clauses = ks; dropped = marked b.dropped (map (number_at b.learnt) which); journal = b.journal ++ drops which })) (sym cs) (record {
      normal = all_blanked IsNormal b.clauses (marked b.dropped (map (number_at b.learnt) which)) (λ i j d l m. absurd (omega (arith, m))) h.normal;
      sizes = length-marked b.dropped (map (number_at b.learnt) which) ∙ h.sizes ∙ sym (length-blanked b.clauses (marked b.dropped (map (number_at b.learnt) which)));
      blank = λ i gone. blanked_dropped b.clauses (marked b.dropped (map (number_at b.learnt) which)) i gone;
      numbered = numbers;
      in_force = numbered_in_force (blanked b.clauses (marked b.dropped (map (number_at b.learnt) which))) (marked b.dropped (map (number_at b.learnt) which)) b.learnt (b.journal ++ drops which) numbers;
    })

-- the fields of a base without clauses that were dropped
pub stored_dropped : (b : Base) (s : Trail) (keep : ℕ) (which : List ℕ) (lists lists' : List (List Watcher)) (attached standing : ℕ) → IsStored b lists attached standing → Forgets b s keep which
    → IsWatching (blanked b.clauses (marked b.dropped (map (number_at b.learnt) which))) b.watched.watches attached (list_at lists') → length lists' ≡ length lists
    → IsStored (without b which) lists' attached (standing - length which)
stored_dropped b s keep which lists lists' attached standing h forgets watching room =
    let cs = emptied_is b.clauses b.dropped b.learnt b.journal which h.sound.sizes h.sound.blank h.sound.numbered (places_of b s keep which forgets) in
    record {
      sound = IsSoundBase-dropped b s keep which h.sound forgets;
      watching = subst (λ (ks : List (List Atom)). IsWatching ks b.watched.watches attached (list_at lists')) (sym cs) watching;
      room = subst (λ (ks : List (List Atom)). HasWatchLists ks (length lists')) (sym cs) (record {
        each = all_blanked (λ c. All (λ t. slot_of t < length lists') c) b.clauses (marked b.dropped (map (number_at b.learnt) which)) (λ i d l. absurd (omega (arith, l)))
            (All-weaker (λ c. All (λ t. slot_of t < length lists) c) (λ c. All (λ t. slot_of t < length lists') c) (λ c g. All-weaker (λ t. slot_of t < length lists) (λ t. slot_of t < length lists') (λ t l. omega (arith, l, room)) c g) b.clauses h.room.each);
      });
      order = h.order;
      count = counted;
    }
  where
    counted : standing - length which ≡ count_standing (standing_in (b.journal ++ drops which))
    counted =
        let less = count_unset (standing_in b.journal) which (forgotten_stand b s keep which h.sound forgets) (in_turn_apart b.clauses b.learnt which forgets.in_turn) in
        let is : count_standing (standing_in (b.journal ++ drops which)) ≡ count_standing (unset (standing_in b.journal) which) = ap (λ (st : List (Option (List Atom))). count_standing st) (standing_in-drops b.journal which) in
        omega (arith, less, is, h.count)

-- what is left, by its fields
left_is : (b : Base) (s : Trail) (keep : ℕ) (which : List ℕ) (cs : List (List Atom)) (ds : List Bool) (j : List JournalItem) → IsSoundBase b → Forgets b s keep which → ds ≡ marked b.dropped (map (number_at b.learnt) which) → cs ≡ blanked b.clauses ds → j ≡ b.journal ++ drops which
    → record b { clauses = cs; dropped = ds; journal = j } ≡ without b which
left_is b s keep which cs ds j sound forgets marks left drops_too =
    let emptied_too = emptied_is b.clauses b.dropped b.learnt b.journal which sound.sizes sound.blank sound.numbered (places_of b s keep which forgets) in
    ap (λ (x : List (List Atom)). record b { clauses = x; dropped = ds; journal = j }) (left ∙ ap (λ (x : List Bool). blanked b.clauses x) marks ∙ sym emptied_too)
    ∙ ap (λ (x : List Bool). record b { clauses = emptied b.clauses (map (number_at b.learnt) which); dropped = x; journal = j }) marks
    ∙ ap (λ (x : List JournalItem). record b { clauses = emptied b.clauses (map (number_at b.learnt) which); dropped = marked b.dropped (map (number_at b.learnt) which); journal = x }) drops_too

-- what is in force without them was in force, with the same atoms
pub held_before : (b : Base) (which : List ℕ) (i : ℕ) → IsSoundBase b → All (λ n. n < length b.learnt) which → IsNumberInForce (without b which).clauses (without b which).dropped i → IsNumberInForce b.clauses b.dropped i × (clause_of (without b which).clauses i ≡ clause_of b.clauses i)
held_before b which i sound places held =
    let cs = emptied_is b.clauses b.dropped b.learnt b.journal which sound.sizes sound.blank sound.numbered places in
    let long : length (emptied b.clauses (map (number_at b.learnt) which)) ≡ length b.clauses =
    ap (λ (ks : List (List Atom)). length ks) cs ∙ length-blanked b.clauses (marked b.dropped (map (number_at b.learnt) which)) in (
      record { within = (let l = held.within in omega (arith, l, long)); stays = marked_below b.dropped (map (number_at b.learnt) which) i held.stays },
      ap (λ (ks : List (List Atom)). clause_of ks i) cs ∙ blanked_kept b.clauses (marked b.dropped (map (number_at b.learnt) which)) i held.stays,
    )

-- what holds of each clause in force holds of those that are left
pub fewer_in_force : (P : List Atom → Type 0) (b : Base) (which : List ℕ) → IsSoundBase b → All (λ n. n < length b.learnt) which → All P (in_force_of b) → All P (in_force_of (without b which))
fewer_in_force P b which sound places all = all_held P (without b which).clauses (without b which).dropped (λ i held.
    let old = held_before b which i sound places held in
    subst P (sym old.1) (at_held P b.clauses b.dropped i all old.0))

pub quiet_forgotten : (b : Base) (which : List ℕ) (s : Trail) (below : ℕ) → IsSoundBase b → All (λ n. n < length b.learnt) which → IsQuiet (in_force_of b) s below → IsQuiet (in_force_of (without b which)) s below
quiet_forgotten b which s below sound places quiet = record {
  at = λ level less. fewer_in_force (IsQuietAfter s.first (up_to level s.entries)) b which sound places (quiet.at level less);
}

-- a clause that a note names is left
pub named_left : (b : Base) (s : Trail) (keep : ℕ) (which : List ℕ) (i : ℕ) → IsSoundBase b → Forgets b s keep which → IsNamed s i → clause_of (without b which).clauses i ≡ clause_of b.clauses i
named_left b s keep which i sound h named =
    let cs = emptied_is b.clauses b.dropped b.learnt b.journal which sound.sizes sound.blank sound.numbered (places_of b s keep which h) in
    ap (λ (ks : List (List Atom)). clause_of ks i) cs ∙ go (is_dropped b.dropped i) refl
  where
    apart : Contains (map (number_at b.learnt) which) i → ⊥
    apart has =
        let some = number_of_some b.learnt which i has in
        let may = subst (MayGo b.clauses b.dropped b.learnt s) some.1.2 (h.could_go some.1.0 some.0 some.1.1) in
        may.unnamed (subst (λ (k : ℕ). IsNamed s k) (sym some.2) named)

    go : (d : Bool) → is_dropped b.dropped i ≡ d → clause_of (blanked b.clauses (marked b.dropped (map (number_at b.learnt) which))) i ≡ clause_of b.clauses i
    go true e = blanked_dropped b.clauses (marked b.dropped (map (number_at b.learnt) which)) i (marked_keeps b.dropped (map (number_at b.learnt) which) i e) ∙ sym (sound.blank i e)
    go false e = blanked_kept b.clauses (marked b.dropped (map (number_at b.learnt) which)) i (marked_only b.dropped (map (number_at b.learnt) which) i apart ∙ e)

-- an honest journal is so with drops of different clauses that stand
pub IsHonest-drops : (holds : List Atom → Bound → Type 0) (journal : List JournalItem) (ns : List ℕ) → IsHonest holds journal → ((n : ℕ) → Contains ns n → (c : List Atom) × IsStanding (standing_in journal) n c) → AllPairs (λ n m. n ≢ m) ns
    → IsHonest holds (journal ++ drops ns)
IsHonest-drops holds journal [] h stand apart = subst (IsHonest holds) (sym (append-nil journal)) h
IsHonest-drops holds journal (n ∷ ns) h stand apart =
    let first = IsHonest-push holds journal (Drop n) h (stand n (0, omega arith, refl)) in
    subst (IsHonest holds) (append_assoc journal (Drop n ∷ []) (drops ns)) (IsHonest-drops holds (journal ++ Drop n ∷ []) ns first
    (λ m has.
    let more = stand m (suc has.0, (let l = has.1 in omega (arith, l)), has.2) in
    (more.0, ap (λ (st : List (Option (List Atom))). get_or st m None) (standing_in-push journal (Drop n)) ∙ get_or-set_other (standing_in journal) n m None None (λ e. (apart 0 (suc has.0) m (omega arith) (let l = has.1 in omega (arith, l))) (sym e ∙ sym has.2)) ∙ more.1))
    (λ i j d l m. apart (suc i) (suc j) d (omega (arith, l)) (omega (arith, m))))

-- no more go than are in force
pub which_few : (b : Base) (s : Trail) (keep : ℕ) (which : List ℕ) (lists : List (List Watcher)) (attached standing : ℕ) → IsStored b lists attached standing → Forgets b s keep which → length which ≤ standing
which_few b s keep which lists attached standing stored h = elim h.no_more [
  | inl few ↦ (let e = stored.count in omega (arith, few, e))
  | inr none ↦ (let e = ap (λ (ns : List ℕ). length ns) none in omega (arith, e))
]

-- a base is what it forgot
pub forgotten : (b : Base) (s : Trail) (keep count : ℕ) (which : List ℕ) (cs : List (List Atom)) (ds : List Bool) (j : List JournalItem) (c : Base) → IsSoundBase b → Forgets b s keep which → ds ≡ marked b.dropped (map (number_at b.learnt) which) → cs ≡ blanked b.clauses ds
    → j ≡ b.journal ++ drops which → c ≡ record b { clauses = cs; dropped = ds; journal = j } → count ≡ length which → HasForgotten b c s keep count
forgotten b s keep count which cs ds j c sound forgets marks left drops_too is counted = record {
  which = which;
  forgets = forgets;
  is = is ∙ left_is b s keep which cs ds j sound forgets marks left drops_too;
  count_is = counted;
}

-- and its fields belong together
pub stored_forgotten : (b : Base) (s : Trail) (keep : ℕ) (which : List ℕ) (cs : List (List Atom)) (ds : List Bool) (j : List JournalItem) (lists lists' : List (List Watcher)) (attached standing : ℕ) → IsStored b lists attached standing → Forgets b s keep which
    → ds ≡ marked b.dropped (map (number_at b.learnt) which) → cs ≡ blanked b.clauses ds → j ≡ b.journal ++ drops which → IsWatching (blanked b.clauses ds) b.watched.watches attached (list_at lists') → length lists' ≡ length lists
    → IsStored (record b { clauses = cs; dropped = ds; journal = j }) lists' attached (standing - length which)
stored_forgotten b s keep which cs ds j lists lists' attached standing stored forgets marks left drops_too watching room =
    subst (λ (x : Base). IsStored x lists' attached (standing - length which)) (sym (left_is b s keep which cs ds j stored.sound forgets marks left drops_too))
    (stored_dropped b s keep which lists lists' attached standing stored forgets (subst (λ (x : List Bool). IsWatching (blanked b.clauses x) b.watched.watches attached (list_at lists')) marks watching) room)
