-- Clauses that deny facts: conflicts and reasons.
use Rattle.std.proofs.Common.{Result, Ok, Err, OnOk, ℕ, ◌+◌, ◌<◌, ℤ, ◌≡◌, Bool, true, false, not, ◌||◌, List, [], ◌∷◌, ◌++◌, length, take, get_or, refl, sym, ◌∙◌, ap, subst, inl, inr, arith, true≢false, get_or-take}
use Rattle.std.proofs.lemmas.List.{length-take-le}
use Rattle.cps_instance.proofs.Agreeing.{All-append_left, All-append_right}
use Rattle.std.specs.List.{Contains}
use Rattle.std.proofs.lemmas.List.Folds.{list_any-append}
use Rattle.std.proofs.lemmas.List.Elements.{All-nil, All-cons, All-push, All-append, All-more, All-weaker, All-contains_itself, Contains-push_cases, Contains-push}
use Rattle.cps_literal.specs.declared.atom.Atom.{Atom}
use Rattle.cps_literal.specs.Truth.{meets, value_at, atom_holds, clause_holds}
use Rattle.cps_trail.specs.Trail.{Trail, admits, IsTrueNow, IsFalseNow, IsTrueAfter, IsWithin}
use Rattle.cps_instance.specs.declared.task.Task.{Task}
use Rattle.cps_instance.specs.Tasks.{HoldsTask, subjects_of}
use Rattle.cps_trail.specs.Adds.{IsConflict}
use Rattle.cps_propagate.specs.Reasons.{SpeaksOf}
use Rattle.cps_propagate.specs.Conflicts.{IsConflictBy}
use Rattle.cps_propagate.proofs.Speaking.{speaks_among, speaks_none, speaks_push, speaks_right}
use Rattle.cps_trail.proofs.Falls.{bool_cases}
use Rattle.cps_trail.proofs.Times.{and_both}
use Rattle.cps_propagate.proofs.Explaining.{false_where_explained}
use Rattle.cps_rule.specs.Rules.{IsFact, AllTrueAt}
use Rattle.cps_enforce.specs.Reasons.{DeniesFacts, IsReasonFor}

-- what follows from a success, and what a success has
pub on_ok : {A E : Type 0} (r : Result A E) (P Q : Type 0) → OnOk r P → (P → Q) → OnOk r Q
on_ok (Ok x) P Q h f = f h
on_ok (Err e) P Q h f = tt

pub when_ok : {A E : Type 0} (r : Result A E) (x : A) (P : Type 0) → r ≡ Ok x → OnOk r P → P
when_ok {A} {E} r x P e h = subst (λ (q : Result A E). OnOk q P) e h

-- no is not yes
pub no_yes : {E : Type 0} (P : Type 0) → ◌≡◌ {A = Result Bool E} (Ok false) (Ok true) → P
no_yes P h = absurd (cc h)

or_none : (b : Bool) → (b || false) ≡ b
or_none true = refl
or_none false = refl

or_left : (a b : Bool) → (a || b) ≡ false → a ≡ false
or_left true b h = absurd (true≢false h)
or_left false b h = refl

or_right : (a b : Bool) → (a || b) ≡ false → b ≡ false
or_right true b h = absurd (true≢false h)
or_right false b h = h

or_yes : (a b : Bool) → a ≡ true → (a || b) ≡ true
or_yes true b h = refl
or_yes false b h = absurd (true≢false (sym h))

or_second : (a b : Bool) → b ≡ true → (a || b) ≡ true
or_second true b h = refl
or_second false b h = h

not_not : (b : Bool) → not b ≡ false → b ≡ true
not_not true h = refl
not_not false h = absurd (true≢false h)

push_holds : (c : List Atom) (m : Atom) (xs : List ℤ) → clause_holds (c ++ m ∷ []) xs ≡ (clause_holds c xs || atom_holds xs m)
push_holds c m xs = list_any-append (atom_holds xs) c (m ∷ []) ∙ ap (λ b. clause_holds c xs || b) (or_none (atom_holds xs m))

nothing_in : (u : Atom) → Contains [] u → ⊥
nothing_in u h = omega (arith, h.1)

negation_false : (s : Trail) (t n : Atom) → n.subject ≡ t.subject → ((x : ℤ) → meets n.op n.value x ≡ not (meets t.op t.value x)) → IsTrueNow s t → IsFalseNow s n
negation_false s t n same negated h = λ x a.
    let a' : admits s.first s.entries t.subject x ≡ true = subst (λ (k : ℕ). admits s.first s.entries k x ≡ true) same a in
    negated x ∙ ap not (h x a')

-- a fact that each first value meets is true within the first domains
always_holds : (s : Trail) (u : Atom) (xs : List ℤ) → u.subject < length s.first → IsTrueAfter s.first [] u → IsWithin s.first xs → atom_holds xs u ≡ true
unfolding admits
always_holds s u xs l h w = h (value_at xs u.subject) (and_both _ true (w u.subject l) refl)

-- one more fact
module _ (s : Trail) (us old now : List Atom) (i : ℕ) (t : Atom) (l : i < length us) (is : t ≡ get_or us i t) (fact : IsFact s t) (h : DeniesFacts s (take i us) old now) where
  with_this : (xs : List ℤ) → AllTrueAt xs (take i us) → atom_holds xs t ≡ true → AllTrueAt xs (take (i + 1) us)
  with_this xs all this = All-more (λ u. atom_holds xs u ≡ true) us i t l all (subst (λ (u : Atom). atom_holds xs u ≡ true) is this)

  earlier : (js : List ℕ) → SpeaksOf js (take (i + 1) us) → SpeaksOf js (take i us)
  earlier js about = λ k d b.
      let whole : length (take (i + 1) us) ≡ i + 1 = length-take-le (i + 1) us (omega arith) in
      let part : length (take i us) ≡ i = length-take-le i us (omega arith) in
      let k' : k < i = omega arith in
      let same : get_or (take i us) k d ≡ get_or (take (i + 1) us) k d = get_or-take i us k d k' ∙ sym (get_or-take (i + 1) us k d (omega arith)) in
      subst (λ (u : Atom). Contains js u.subject) (sym same) (about k d (omega arith))

  mine : (js : List ℕ) → SpeaksOf js (take (i + 1) us) → Contains js t.subject
  mine js about =
      let whole : length (take (i + 1) us) ≡ i + 1 = length-take-le (i + 1) us (omega arith) in
      subst (λ (u : Atom). Contains js u.subject) (get_or-take (i + 1) us i t (omega arith) ∙ sym is) (about i t (omega arith))

  pub Denies-skip : IsTrueAfter s.first [] t → DeniesFacts s (take (i + 1) us) old now
  Denies-skip always = record {
    kept = h.kept;
    false_now = h.false_now;
    known = h.known;
    subjects = λ js about before. h.subjects js (earlier js about) before;
    facts = λ xs w f. with_this xs (h.facts xs w f) (always_holds s t xs fact.subject always w);
  }

  pub Denies-more : (n : Atom) → n.subject ≡ t.subject → ((x : ℤ) → meets n.op n.value x ≡ not (meets t.op t.value x)) → DeniesFacts s (take (i + 1) us) old (now ++ n ∷ [])
  Denies-more n same negated = record {
    kept = λ xs k. push_holds now n xs ∙ or_yes (clause_holds now xs) (atom_holds xs n) (h.kept xs k);
    false_now = λ u has. elim (Contains-push_cases now n u has) [
      | inl old' ↦ h.false_now u old'
      | inr new ↦ inr (subst (λ (v : Atom). IsFalseNow s v) new (negation_false s t n same negated fact.true_now))
    ];
    known = λ k. All-push (λ u. u.subject < length s.first) now n (h.known k) (subst (λ (j : ℕ). j < length s.first) (sym same) fact.subject);
    subjects = λ js about before. speaks_push js now n (h.subjects js (earlier js about) before) (subst (λ (j : ℕ). Contains js j) (sym same) (mine js about));
    facts = λ xs w f.
        let f' : (clause_holds now xs || atom_holds xs n) ≡ false = sym (push_holds now n xs) ∙ f in
        let off : atom_holds xs n ≡ false = or_right (clause_holds now xs) (atom_holds xs n) f' in
        let this : atom_holds xs n ≡ not (atom_holds xs t) = ap (λ (k : ℕ). meets n.op n.value (value_at xs k)) same ∙ negated (value_at xs t.subject) in
        with_this xs (h.facts xs w (or_left (clause_holds now xs) (atom_holds xs n) f')) (not_not (atom_holds xs t) (sym this ∙ off));
  }

-- facts of two lists
pub DeniesFacts-append : (s : Trail) (us vs a b c : List Atom) → DeniesFacts s us a b → DeniesFacts s vs b c → DeniesFacts s (us ++ vs) a c
DeniesFacts-append s us vs a b c h g = record {
  kept = λ xs t. g.kept xs (h.kept xs t);
  false_now = λ u has. elim (g.false_now u has) [ inl mid ↦ h.false_now u mid | inr f ↦ inr f ];
  known = λ t. g.known (h.known t);
  subjects = λ is about before. g.subjects is (All-append_right (λ u. Contains is u.subject) us vs about) (h.subjects is (All-append_left (λ u. Contains is u.subject) us vs about) before);
  facts = λ xs w f. All-append (λ u. atom_holds xs u ≡ true) us vs (h.facts xs w (earlier xs f)) (g.facts xs w f);
}
  where
    earlier : (xs : List ℤ) → clause_holds c xs ≡ false → clause_holds b xs ≡ false
    earlier xs f = elim (bool_cases (clause_holds b xs)) [ inl y ↦ absurd (true≢false (sym (g.kept xs y) ∙ f)) | inr n ↦ n ]

module _ (task : Task) (s : Trail) (us c : List Atom) (denies : DeniesFacts s us [] c) (about : SpeaksOf (subjects_of task) us) where
  speaks : SpeaksOf (subjects_of task) c
  speaks = denies.subjects (subjects_of task) about (speaks_none (subjects_of task))

  conflict : ((xs : List ℤ) → IsWithin s.first xs → HoldsTask task xs → AllTrueAt xs us → ⊥) → IsConflict (HoldsTask task) s c
  conflict none = record {
    follows = record {
      at = λ xs w holds. elim (bool_cases (clause_holds c xs)) [ inl y ↦ y | inr f ↦ absurd (none xs w holds (denies.facts xs w f)) ];
    };
    false_now = All-weaker (Contains c) (IsFalseNow s) (λ u has. elim (denies.false_now u has) [ inl old ↦ absurd (nothing_in u old) | inr f ↦ f ]) c (All-contains_itself c);
    subjects = denies.known (All-nil (λ u. u.subject < length s.first));
  }

  -- facts that cannot be true together are a conflict
  pub conflict_denied : ((xs : List ℤ) → IsWithin s.first xs → HoldsTask task xs → AllTrueAt xs us → ⊥) → IsConflictBy task s c
  conflict_denied none = record { given = conflict none; speaks = speaks }

  -- and those that give an atom explain it
  pub reason_denied : (t : Atom) → t.subject < length s.first → ((xs : List ℤ) → IsWithin s.first xs → HoldsTask task xs → AllTrueAt xs us → atom_holds xs t ≡ true) → IsReasonFor task s t (c ++ t ∷ [])
  reason_denied t at gives = record {
    explained = record {
      has = Contains-push c t;
      others = λ u has ne. elim (Contains-push_cases c t u has) [
        | inl old ↦ elim (denies.false_now u old) [ inl none ↦ absurd (nothing_in u none) | inr f ↦ f ]
        | inr same ↦ absurd (ne (sym same))
      ];
      subjects = All-push (λ u. u.subject < length s.first) c t (denies.known (All-nil (λ u. u.subject < length s.first))) at;
    };
    follows = record {
      at = λ xs w holds. push_holds c t xs ∙ elim (bool_cases (clause_holds c xs)) [
        | inl y ↦ or_yes (clause_holds c xs) (atom_holds xs t) y
        | inr f ↦ or_second (clause_holds c xs) (atom_holds xs t) (gives xs w holds (denies.facts xs w f))
      ];
    };
    speaks = speaks_push (t.subject ∷ subjects_of task) c t (speaks_right (t.subject ∷ []) (subjects_of task) c speaks) (0, omega arith, refl);
  }

-- the reason of an atom that is false is a conflict, if the task reads its subject
pub conflict_of_reason : (task : Task) (s : Trail) (t : Atom) (reason : List Atom) → IsReasonFor task s t reason → IsFalseNow s t → Contains (subjects_of task) t.subject → IsConflictBy task s reason
conflict_of_reason task s t reason r f mine = record {
  given = record {
    follows = r.follows;
    false_now = false_where_explained s t reason r.explained f;
    subjects = r.explained.subjects;
  };
  speaks = speaks_among (t.subject ∷ subjects_of task) (subjects_of task) reason (All-cons (Contains (subjects_of task)) t.subject (subjects_of task) mine (All-contains_itself (subjects_of task))) r.speaks;
}
