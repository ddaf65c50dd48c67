-- The fields of a base, as a clause is added.
use Rattle.std.proofs.Common.{ℕ, zero, suc, Option, Some, None, true, false, true≢false, refl, ◌+◌, ◌-◌, ◌≤◌, ◌<◌, ◌≡◌, Bool, List, [], ◌∷◌, ◌++◌, length, take, get_or, sym, ◌∙◌, ap, subst, inl, inr, arith, length-append}
use Rattle.std.specs.List.{All, Contains}
use Rattle.std.proofs.lemmas.List.{get_or_append_left, get_or_push, take_at}
use Rattle.std.proofs.lemmas.List.Elements.{All-push, All-weaker}
use Rattle.cps_model.specs.declared.bound.Bound.{Bound}
use Rattle.cps_literal.specs.declared.atom.Atom.{Atom}
use Rattle.cps_literal.specs.Normal.{IsNormal}
use Rattle.cps_clauses.specs.declared.journal.JournalItem.{JournalItem}
use Rattle.cps_clauses.specs.declared.journal.JournalItem.TheVariants as items
use Rattle.cps_clauses.specs.declared.origin.Origin.{Origin}
use Rattle.cps_clauses.specs.declared.origin.Origin.TheVariants.{Learnt, Imported}
use Rattle.cps_clauses.specs.declared.watch.Watch.{Watch}
use Rattle.cps_clauses.specs.declared.watch.Watcher.{Watcher}
use Rattle.cps_clauses.specs.InForce.{is_dropped}
use Rattle.cps_clauses.specs.Journals.{noted, standing_in, count_standing}
use Rattle.cps_clauses.specs.Watches.{first_two, clause_of, watch_of, slot_of, IsWatched, IsWatchPair, IsWatcher, IsWatching, HasWatchLists, StandsInList, list_at}
use Rattle.cps_clauses.specs.Bases.{Base, AreNumbered, IsSoundBase, IsStored, base_of, numbers_with, with_clause}
use Rattle.cps_clauses.proofs.QuietClauses.{seam}
use Rattle.cps_clauses.proofs.Honesty.{standing_in-push}
use Rattle.cps_clauses.proofs.LearntNumbers.{count_le, count_push, numbered_imported, numbered_in_force, numbered_learnt, rising_few}
use Rattle.cps_clauses.proofs.Lists.{watching_same}

clause_before : (clauses : List (List Atom)) (c : List Atom) (i : ℕ) → i < length clauses → clause_of (clauses ++ c ∷ []) i ≡ clause_of clauses i
clause_before clauses c i l = get_or_append_left clauses (c ∷ []) [] i l

-- what is dropped of a list with one more clause was before, and lies within
dropped_before : (ds : List Bool) (i : ℕ) → is_dropped (ds ++ false ∷ []) i ≡ true → is_dropped ds i ≡ true
dropped_before [] zero h = absurd (true≢false (sym h))
dropped_before [] (suc i) h = absurd (true≢false (sym h))
dropped_before (d ∷ ds) zero h = h
dropped_before (d ∷ ds) (suc i) h = dropped_before ds i h

dropped_within : (ds : List Bool) (i : ℕ) → is_dropped ds i ≡ true → i < length ds
dropped_within [] i h = absurd (true≢false (sym h))
dropped_within (d ∷ ds) zero h = omega arith
dropped_within (d ∷ ds) (suc i) h = let l = dropped_within ds i h in omega (arith, l)

watch_before : (ws : List Watch) (w : Watch) (i : ℕ) → i < length ws → watch_of (ws ++ w ∷ []) i ≡ watch_of ws i
watch_before ws w i l = get_or_append_left ws (w ∷ []) first_two i l

first_pair : (len : ℕ) → IsWatchPair len first_two
first_pair len = record { apart = λ e. (let bad : ⊥ = omega (arith, e) in bad); inside = λ two p watched. elim watched [ inl e ↦ omega (arith, e, two) | inr e ↦ omega (arith, e, two) ] }

-- one more clause, which has no watcher yet
pub watching_pushed : (clauses : List (List Atom)) (ws : List Watch) (count : ℕ) (on : ℕ → List Watcher) (c : List Atom) → IsWatching clauses ws count on → IsWatching (clauses ++ c ∷ []) (ws ++ first_two ∷ []) count on
watching_pushed clauses ws count on c h = record {
  sizes = omega (arith, h.sizes, length-append clauses (c ∷ []), length-append ws (first_two ∷ []));
  counted = omega (arith, h.counted, length-append clauses (c ∷ []));
  pairs = λ i b. elim (seam (length clauses) i (omega (arith, b, length-append clauses (c ∷ [])))) [
    | inl before ↦ subst (λ (w : Watch). IsWatchPair (length (clause_of (clauses ++ c ∷ []) i)) w) (sym (watch_before ws first_two i (omega (arith, before, h.sizes))))
        (subst (λ (k : List Atom). IsWatchPair (length k) (watch_of ws i)) (sym (clause_before clauses c i before)) (h.pairs i before))
    | inr last ↦ subst (λ (w : Watch). IsWatchPair (length (clause_of (clauses ++ c ∷ []) i)) w) (sym (get_or_push ws first_two first_two i (omega (arith, last, h.sizes)))) (first_pair (length (clause_of (clauses ++ c ∷ []) i)))
  ];
  sound = λ k. All-weaker (IsWatcher clauses k) (IsWatcher (clauses ++ c ∷ []) k) (λ w g.
      let same : clause_of (clauses ++ c ∷ []) w.clause ≡ clause_of clauses w.clause = clause_before clauses c w.clause g.clause in
      record {
        clause = omega (arith, g.clause, length-append clauses (c ∷ []));
        long = omega (arith, g.long, ap (λ (t : List Atom). length t) same);
        place = omega (arith, g.place, ap (λ (t : List Atom). length t) same);
        stands = λ d. ap (λ (t : List Atom). slot_of (get_or t w.place d)) same ∙ g.stands d;
        value = λ d. ap (λ (t : List Atom). (get_or t w.place d).value) same ∙ g.value d;
        blocker = subst (λ (t : List Atom). Contains t w.blocker) (sym same) g.blocker;
      }) (on k) (h.sound k);
  listed = λ i p d b two watched.
      let before : i < length clauses = omega (arith, b, h.counted) in
      let same = clause_before clauses c i before in
      subst (λ (t : List Atom). StandsInList (on (slot_of (get_or t p d))) 0 i p) (sym same)
      (h.listed i p d b (omega (arith, two, ap (λ (t : List Atom). length t) same)) (subst (λ (w : Watch). IsWatched w p) (watch_before ws first_two i (omega (arith, before, h.sizes))) watched));
}

pub room_grown : (clauses : List (List Atom)) (m n : ℕ) → m ≤ n → HasWatchLists clauses m → HasWatchLists clauses n
room_grown clauses m n l h = record { each = All-weaker (λ c. All (λ t. slot_of t < m) c) (λ c. All (λ t. slot_of t < n) c) (λ c g. All-weaker (λ t. slot_of t < m) (λ t. slot_of t < n) (λ t b. omega (arith, b, l)) c g) clauses h.each }

-- what holds of each base holds with one more clause
pub IsSoundBase-pushed : (b : Base) (clause : List Atom) (below : Bound) (origin : Origin) → IsNormal clause → IsSoundBase b → IsSoundBase (with_clause b clause below origin)
IsSoundBase-pushed b clause below origin normal sound = record {
  normal = All-push IsNormal b.clauses clause sound.normal normal;
  sizes = omega (arith, sound.sizes, length-append b.clauses (clause ∷ []), length-append b.dropped (false ∷ []));
  blank = λ i h.
      let old = dropped_before b.dropped i h in
      let l = dropped_within b.dropped i old in
      clause_before b.clauses clause i (omega (arith, l, sound.sizes)) ∙ sound.blank i old;
  numbered = numbers origin;
  in_force = numbered_in_force (b.clauses ++ clause ∷ []) (b.dropped ++ false ∷ []) (numbers_with b.learnt (length b.clauses) origin) (noted b.journal clause below origin) (numbers origin);
}
  where
    numbers : (origin : Origin) → AreNumbered (b.clauses ++ clause ∷ []) (b.dropped ++ false ∷ []) (numbers_with b.learnt (length b.clauses) origin) (noted b.journal clause below origin)
    numbers Learnt = numbered_learnt b.clauses b.dropped b.learnt b.journal clause below sound.sizes sound.numbered
    numbers Imported = numbered_imported b.clauses b.dropped b.learnt b.journal clause sound.sizes sound.numbered

-- how many learnt clauses stand after one more clause
abbrev pub standing_with : ℕ → Origin → ℕ
standing_with standing Learnt = standing + 1
standing_with standing Imported = standing

count_pushed : (b : Base) (clause : List Atom) (below : Bound) (origin : Origin) (standing : ℕ) → standing ≡ count_standing (standing_in b.journal) → standing_with standing origin ≡ count_standing (standing_in (noted b.journal clause below origin))
count_pushed b clause below Learnt standing e =
    ap (λ (n : ℕ). n + 1) e ∙ sym (count_push (standing_in b.journal) clause) ∙ sym (ap (λ (s : List (Option (List Atom))). count_standing s) (standing_in-push b.journal (items.Learnt clause below)))
count_pushed b clause below Imported standing e = e

pub stored_pushed : (b : Base) (lists lists' : List (List Watcher)) (attached standing : ℕ) (c : List Atom) (below : Bound) (origin : Origin) → IsNormal c → All (λ t. slot_of t < length lists') c
    → length lists ≤ length lists' → ((k : ℕ) → list_at lists' k ≡ list_at lists k) → IsStored b lists attached standing → IsStored (with_clause b c below origin) lists' attached (standing_with standing origin)
stored_pushed b lists lists' attached standing c below origin normal room grows same h = record {
  sound = IsSoundBase-pushed b c below origin normal h.sound;
  watching = watching_pushed b.clauses b.watched.watches attached (list_at lists') c (watching_same b.clauses b.watched.watches attached (list_at lists) (list_at lists') same h.watching);
  room = record { each = All-push (λ k. All (λ t. slot_of t < length lists') k) b.clauses c (room_grown b.clauses (length lists) (length lists') grows h.room).each room };
  order = h.order;
  count = count_pushed b c below origin standing h.count;
}

pub stored_grown : (b : Base) (lists lists' : List (List Watcher)) (attached standing : ℕ) → length lists ≤ length lists' → ((k : ℕ) → list_at lists' k ≡ list_at lists k) → IsStored b lists attached standing → IsStored b lists' attached standing
stored_grown b lists lists' attached standing grows same h = record {
  sound = h.sound;
  watching = watching_same b.clauses b.watched.watches attached (list_at lists) (list_at lists') same h.watching;
  room = room_grown b.clauses (length lists) (length lists') grows h.room;
  order = h.order;
  count = h.count;
}

-- there is room in the count of those that stand
pub standing_small : (b : Base) (lists : List (List Watcher)) (attached standing : ℕ) → IsStored b lists attached standing → standing ≤ length b.clauses
standing_small b lists attached standing h =
    let most = count_le (standing_in b.journal) in
    let few = rising_few (length b.clauses) b.learnt h.sound.numbered.rising h.sound.numbered.within in
    omega (arith, most, few, h.count, h.sound.numbered.count)

pub popped : (clauses : List (List Atom)) (c : List Atom) → take (length (clauses ++ c ∷ []) - 1) (clauses ++ c ∷ []) ≡ clauses
popped clauses c = take_at clauses (c ∷ []) (length (clauses ++ c ∷ []) - 1) (omega (arith, length-append clauses (c ∷ [])))

-- the fields of a base, by equal ones
pub stored_by : (cs cs' : List (List Atom)) (ds ds' : List Bool) (ns ns' : List ℕ) (ws ws' : List Watch) (settled visits : ℕ) (j j' : List JournalItem) (refused : Bool) (lists : List (List Watcher)) (attached standing : ℕ) → cs' ≡ cs → ds' ≡ ds → ns' ≡ ns → ws' ≡ ws → j' ≡ j
    → IsStored (base_of cs ds ns ws settled visits j refused) lists attached standing → IsStored (base_of cs' ds' ns' ws' settled visits j' refused) lists attached standing
stored_by cs cs' ds ds' ns ns' ws ws' settled visits j j' refused lists attached standing e f g w k h =
    subst (λ (x : List (List Atom)). IsStored (base_of x ds' ns' ws' settled visits j' refused) lists attached standing) (sym e)
    (subst (λ (x : List Bool). IsStored (base_of cs x ns' ws' settled visits j' refused) lists attached standing) (sym f)
    (subst (λ (x : List ℕ). IsStored (base_of cs ds x ws' settled visits j' refused) lists attached standing) (sym g)
    (subst (λ (x : List Watch). IsStored (base_of cs ds ns x settled visits j' refused) lists attached standing) (sym w)
    (subst (λ (x : List JournalItem). IsStored (base_of cs ds ns ws settled visits x refused) lists attached standing) (sym k) h))))

-- a base of no clause
pub sound_none : (refused : Bool) (settled visits : ℕ) → IsSoundBase (base_of [] [] [] [] settled visits [] refused)
sound_none refused settled visits = record {
  normal = λ k d l. absurd (omega (arith, l));
  sizes = refl;
  blank = λ i h. absurd (true≢false (sym h));
  numbered = record {
    count = refl;
    within = λ k d l. absurd (omega (arith, l));
    rising = λ i j d l m. absurd (omega (arith, m));
    standing = λ n clause stands. absurd (none_stands clause stands);
    fallen = λ n l. absurd (omega (arith, l));
  };
  in_force = λ i clause stands. absurd (none_stands clause stands);
}
  where
    none_stands : (clause : List Atom) → None ≡ Some clause → ⊥
    none_stands clause e = cc e
