-- What is written to a log is so: a clause that a task gives, the reason of an entry, a learnt clause, an assumption.
use Rattle.std.specs.Prelude.{map, Contains, IfSome, IsSomeAnd, slice_get}
use Rattle.cps_conflict.specs.declared.certifier.Antecedent.{Antecedent}
use Rattle.cps_conflict.specs.Antecedents.{Certifies}
use Rattle.std.proofs.Common.{◌≡◌, ◌∙◌, ◌<◌, ℤ, ℕ, zero, suc, pos, true, false, Option, Some, None, List, [], ◌∷◌, ◌++◌, length, get_or, inl, inr, refl, sym, ap, subst, arith}
use Rattle.std.proofs.lemmas.List.{append-nil}
use Rattle.cps_model.specs.declared.bound.Bound.{Bound}
use Rattle.cps_model.specs.declared.bound.Bound.TheVariants.{Infinite}
use Rattle.cps_model.specs.declared.model.LinearExpr.{LinearExpr}
use Rattle.cps_literal.specs.declared.atom.Atom.{Atom}
use Rattle.cps_instance.specs.declared.task.Task.{Task}
use Rattle.cps_instance.specs.Problem.{Problem}
use Rattle.cps_trail.specs.declared.note.Note.TheVariants as notes
use Rattle.cps_trail.specs.Notes.{NamesTask}
use Rattle.cps_trail.specs.Trail.{Domains, Because, Later, Trail}
use Rattle.cps_conflict.proofs.Uniting.{entry_at}
use Rattle.cps_log.specs.declared.item.LogItem.{LogItem}
use Rattle.cps_log.specs.declared.item.LogItem.TheVariants as items
use Rattle.cps_log.specs.Deriving.{empty_derivation}
use Rattle.cps_log.specs.Runs.{IsClosedLog, learnt_in, with_learnt}
use Rattle.cps_tracer.specs.Traced.{Traced, HasLearnt, IsAbout, sums_in, with_item}
use Rattle.cps_tracer.proofs.Items.{about_kept, closed-append, learnt-append, sums-append, true_items-weaker, true_with_item, true_with_learnt}
use Rattle.cps_port.specs.Order.{IsBelow}
use Rattle.cps_search.specs.Searches.{below_bound}
use Rattle.cps_search.specs.Giving.{IsConflictOfNamed}
use Rattle.cps_search.specs.LogItems.{AreSumsOf, IsGivenBy}
use Rattle.cps_search.specs.Logged.{Log, Grows, IsTrueLog}
use Rattle.cps_search.specs.Logging.{AddsEmptyClause, AssumesLog, AreFetchedBy, ClosesLog, GrowsLog, IsFetchedBy, IsGivenBelow, IsGivenByNamed, IsSearchedBelow, LogsLearnt}

-- ---- what a task gives

same_number : (m n : ℕ) (a b c d : ℤ) → Later (notes.Task m a b) ≡ Later (notes.Task n c d) → m ≡ n
same_number m n a b c d h = cc

other_note : (m n : ℕ) (a b : ℤ) → Later (notes.Task m a b) ≡ Later (notes.InForce n) → ⊥
other_note m n a b h = cc

no_note : (m : ℕ) (a b : ℤ) (clause : List Atom) → Later (notes.Task m a b) ≡ Because clause → ⊥
no_note m a b clause h = cc

-- the reason of an entry that a task noted, which the task gives by itself
pub reason_given : (tasks : List Task) (clauses : List (List Atom)) (s : Trail) (k number : ℕ) (reason : List Atom) → k < length s.entries → NamesTask s k number → IsFetchedBy tasks clauses s k reason → IsGivenBy tasks number s.first reason
reason_given tasks clauses s k number reason l named h =
    let d = entry_at s.entries k l in
    elim h [
      | inl kept ↦ absurd (no_note number named.a named.b reason (sym (named.is d) ∙ kept d))
      | inr made ↦ elim made [
        | inl by ↦
            let same : by.number ≡ number = same_number by.number number by.named.a by.named.b named.a named.b (sym (by.named.is d) ∙ named.is d) in
            subst (λ (n : ℕ). IsGivenBy tasks n s.first reason) same (record { within = by.within; follows = λ t. (by.given t).follows })
        | inr clause ↦ absurd (other_note number clause.number named.a named.b (sym (named.is d) ∙ clause.named.is d))
      ]
    ]

-- what a task of a search gives it gives below z
pub given_below : (p : Problem) (z : Bound) (tasks : List Task) (s : Trail) (number : ℕ) (clause : List Atom) → IsSearchedBelow p z tasks s → IsGivenBy tasks number s.first clause → IsGivenBelow p z number clause
given_below p z tasks s number clause h given =
    subst (λ (ds : Domains). IsGivenBy (map (below_bound z) p.tasks) number ds clause) h.domains (subst (λ (ts : List Task). IsGivenBy ts number s.first clause) h.tasks_are given)

pub conflict_given : (tasks : List Task) (s : Trail) (task : Option ℕ) (clause : List Atom) → IsConflictOfNamed tasks s task clause → IsGivenByNamed tasks s.first task clause
conflict_given tasks s None clause h = tt
conflict_given tasks s (Some n) clause h = record { within = h.within; follows = λ t. (h.given t).follows }

-- ---- what is appended

same_last : (xs ys : List LogItem) (x y : LogItem) → xs ++ x ∷ [] ≡ ys ++ y ∷ [] → x ≡ y
same_last [] [] x y e = cc
same_last [] (b ∷ ys) x y e = absurd (no_end ys y (tail_is e)) where
  no_end : (zs : List LogItem) (w : LogItem) → [] ≡ zs ++ w ∷ [] → ⊥
  no_end [] w e = absurd (cc)
  no_end (a ∷ zs) w e = absurd (cc)

  tail_is : x ∷ [] ≡ b ∷ (ys ++ y ∷ []) → [] ≡ ys ++ y ∷ []
  tail_is e = cc
same_last (a ∷ xs) [] x y e = absurd (no_end xs x (tail_is e)) where
  no_end : (zs : List LogItem) (w : LogItem) → zs ++ w ∷ [] ≡ [] → ⊥
  no_end [] w e = absurd (cc)
  no_end (a ∷ zs) w e = absurd (cc)

  tail_is : a ∷ (xs ++ x ∷ []) ≡ y ∷ [] → xs ++ x ∷ [] ≡ []
  tail_is e = cc
same_last (a ∷ xs) (b ∷ ys) x y e = same_last xs ys x y (tail_is e) where
  tail_is : a ∷ (xs ++ x ∷ []) ≡ b ∷ (ys ++ y ∷ []) → xs ++ x ∷ [] ≡ ys ++ y ∷ []
  tail_is e = cc

not_empty : (clause : List Atom) → items.Learnt clause ≡ items.Learnt [] → clause ≡ []
not_empty clause e = cc

learnt_one : (clause : List Atom) → (clause ≡ [] → ⊥) → with_learnt (items.Learnt clause) [] ≡ clause ∷ []
learnt_one [] some = absurd (some refl)
learnt_one (t ∷ ts) some = refl

-- a learnt clause behind what a log had
module _ (p : Problem) (z : Bound) (core : List ℤ) (learnt : List (List Atom)) (t u : Traced) (clause : List Atom) (number : ℕ) (h : HasLearnt t u clause number) (k : IsTrueLog p z core learnt t) where
  true_after : IsTrueLog p z core (learnt ++ with_learnt (items.Learnt clause) []) u
  true_after = record {
    about = subst (λ (x : Traced). IsAbout p.model x) (sym h.added) (about_kept p.model t (items.Learnt clause) k.about);
    items = true_with_learnt p.model (λ r. z ≡ Infinite → Contains core r) (λ v. IsBelow v z) t u clause number k.about k.items h;
    learnt_are = ap (λ (x : Traced). learnt_in x.items) h.added ∙ learnt-append t.items (items.Learnt clause) ∙ ap (λ (cs : List (List Atom)). cs ++ with_learnt (items.Learnt clause) []) k.learnt_are;
    sums = subst (λ (es : List LinearExpr). AreSumsOf p es) (sym (ap (λ (x : Traced). sums_in x.items) h.added ∙ sums-append t.items (items.Learnt clause) ∙ append-nil (sums_in t.items))) k.sums;
  }

-- a log grew, and has a learnt clause then
pub learns : (p : Problem) (z : Bound) (clause : List Atom) (number : ℕ) (l m n : Log) → l.closed ≡ false → n.closed ≡ m.closed → GrowsLog p z l m → HasLearnt m.traced n.traced clause number → LogsLearnt p z clause l n
learns p z clause number l m n was same grows h = record {
  was_open = was;
  still_open = same ∙ grows.closed ∙ was;
  stays = λ some core learnt t.
      subst (λ (cs : List (List Atom)). IsTrueLog p z core (learnt ++ cs) n.traced) (learnt_one clause some)
      (true_after p z core learnt m.traced n.traced clause number h (grows.grows.stays core learnt t));
  stays_open = λ some shut. some (not_empty clause (same_last m.traced.items shut.before (items.Learnt clause) (items.Learnt []) (sym (ap (λ (x : Traced). x.items) h.added) ∙ shut.is)));
}

-- the empty clause is learnt
pub adds_empty : (number : ℕ) (l m : Log) → m.closed ≡ true → HasLearnt l.traced m.traced [] number → AddsEmptyClause l m
adds_empty number l m shut h = record {
  is_closed = shut;
  last = subst (λ (x : Traced). IsClosedLog x.items) (sym h.added) (closed-append l.traced.items);
  stays = λ p z core learnt t. subst (λ (cs : List (List Atom)). IsTrueLog p z core cs m.traced) (append-nil learnt) (true_after p z core learnt l.traced m.traced [] number h t);
}

none_among : (r : ℤ) → Contains [] r → ⊥
none_among r h = absurd (omega (arith, h.1))

-- where a log may rest on nothing, it may rest on what is assumed
true_core : (p : Problem) (z : Bound) (core : List ℤ) (learnt : List (List Atom)) (t : Traced) → IsTrueLog p z [] learnt t → IsTrueLog p z core learnt t
true_core p z core learnt t h = record {
  about = h.about;
  items = true_items-weaker p.model (λ r. z ≡ Infinite → Contains [] r) (λ r. z ≡ Infinite → Contains core r) (λ v. IsBelow v z) (λ v. IsBelow v z) empty_derivation t.items
      (λ r rests e. absurd (none_among r (rests e))) (λ v k. k) h.items;
  learnt_are = h.learnt_are;
  sums = h.sums;
}

pub closes_after : (p : Problem) (z : Bound) (core : List ℤ) (l m n : Log) → l.closed ≡ false → GrowsLog p z l m → AddsEmptyClause m n → ClosesLog p z core l n
closes_after p z core l m n was grows adds = record {
  was_open = was;
  is_closed = adds.is_closed;
  stays = λ learnt t. adds.stays p z core learnt (grows.grows.stays core learnt (true_core p z core learnt l.traced t));
  last = adds.last;
}

pub closes_assumed : (p : Problem) (z : Bound) (core : List ℤ) (k l m n : Log) → k.closed ≡ false → AssumesLog p z core k l → GrowsLog p z l m → AddsEmptyClause m n → ClosesLog p z core k n
closes_assumed p z core k l m n was assumes grows adds = record {
  was_open = was;
  is_closed = adds.is_closed;
  stays = λ learnt t. adds.stays p z core learnt (grows.grows.stays core learnt (assumes.stays learnt (true_core p z core learnt k.traced t)));
  last = adds.last;
}

-- an item that one task gives, or the begin of the objective
pub grows_by : (p : Problem) (z : Bound) (l m : Log) → m.closed ≡ l.closed → Grows p z l.traced m.traced → GrowsLog p z l m
grows_by p z l m same grows = record { grows = grows; closed = same }

-- ---- assumptions

pub assumes_none : (p : Problem) (z : Bound) (core : List ℤ) (l : Log) → AssumesLog p z core l l
assumes_none p z core l = record { stays = λ learnt t. t; closed = refl }

some_at : {A : Type 0} (P : A → Type 0) (xs : List A) (k : ℕ) (d : A) → k < length xs → P (get_or xs k d) → IsSomeAnd (slice_get xs k) P
some_at P [] k d l h = absurd (omega (arith, l))
some_at P (x ∷ xs) zero d l h = h
some_at P (x ∷ xs) (suc k) d l h = some_at P xs k d (omega (arith, l)) h

-- one more assumption of those that may be taken
pub assumes_one : (p : Problem) (z : Bound) (core some assumptions : List ℤ) (k : ℕ) (l m n : Log) → assumptions ≡ p.model.assumptions → (z ≡ Infinite → some ≡ core) → k < length assumptions → Contains some (get_or assumptions k (pos 0)) → n.closed ≡ m.closed → n.traced ≡ with_item m.traced (items.Assumed k)
    → AssumesLog p z core l m → AssumesLog p z core l n
assumes_one p z core some assumptions k l m n same among within has closed added h = record {
  stays = λ learnt t.
      let u = h.stays learnt t in
      record {
        about = subst (λ (x : Traced). IsAbout p.model x) (sym added) (about_kept p.model m.traced (items.Assumed k) u.about);
        items = true_with_item p.model (λ r. z ≡ Infinite → Contains core r) (λ v. IsBelow v z) m.traced n.traced (items.Assumed k) u.items
            (subst (λ (rs : List ℤ). IsSomeAnd (slice_get rs k) (λ r. z ≡ Infinite → Contains core r)) same
            (some_at (λ r. z ≡ Infinite → Contains core r) assumptions k (pos 0) within (λ e. subst (λ (rs : List ℤ). Contains rs (get_or assumptions k (pos 0))) (among e) has))) added;
        learnt_are = ap (λ (x : Traced). learnt_in x.items) added ∙ learnt-append m.traced.items (items.Assumed k) ∙ append-nil (learnt_in m.traced.items) ∙ u.learnt_are;
        sums = subst (λ (es : List LinearExpr). AreSumsOf p es) (sym (ap (λ (x : Traced). sums_in x.items) added ∙ sums-append m.traced.items (items.Assumed k) ∙ append-nil (sums_in m.traced.items))) u.sums;
      };
  closed = closed ∙ h.closed;
}

-- ---- answers

-- antecedents that were found are reasons
pub are_fetched : {V : Type 0} (items_in : V → List Antecedent) (tasks : List Task) (clauses : List (List Atom)) (s : Trail) (conflict clause : List Atom) (o : Option V) (found : V) → o ≡ Some found → IfSome o (λ v. Certifies (IsFetchedBy tasks clauses s) s conflict clause (items_in v)) → AreFetchedBy tasks clauses s (items_in found)
are_fetched {V} items_in tasks clauses s conflict clause o found is h = (subst (λ (x : Option V). IfSome x (λ v. Certifies (IsFetchedBy tasks clauses s) s conflict clause (items_in v))) is h).fetched

-- with what was appended, a log is as it was
pub grows_from : (p : Problem) (z : Bound) (l m n : Log) → GrowsLog p z l m → GrowsLog p z m n → GrowsLog p z l n
grows_from p z l m n h k = record {
  grows = record { stays = λ core learnt t. k.grows.stays core learnt (h.grows.stays core learnt t); stays_open = λ t. k.grows.stays_open (h.grows.stays_open t) };
  closed = k.closed ∙ h.closed;
}

pub grows_same : (p : Problem) (z : Bound) (l m : Log) → m ≡ l → GrowsLog p z l m
grows_same p z l m same = subst (λ (x : Log). GrowsLog p z l x) (sym same) (record { grows = record { stays = λ core learnt t. t; stays_open = λ t. t }; closed = refl })

pub assumes_more : (p : Problem) (z : Bound) (core : List ℤ) (l m n : Log) → AssumesLog p z core l m → AssumesLog p z core m n → AssumesLog p z core l n
assumes_more p z core l m n h k = record { stays = λ learnt t. k.stays learnt (h.stays learnt t); closed = k.closed ∙ h.closed }
