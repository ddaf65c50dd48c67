-- Unit propagation over reasons: what shows an atom false, what one reason adds, and what stands at the end.
use Rattle.std.specs.Prelude.{nat_le, All, Any, ◌&&◌, ◌||◌, ◌==◌, not}
use Rattle.std.specs.List.{list_all, filter, Contains}
use Rattle.std.proofs.Common.{◌≡◌, ◌≢◌, ◌⊎◌, inl, inr, ℕ, zero, suc, ◌-◌, ◌<◌, ◌≤◌, Bool, true, false, true≢false, cond, List, [], ◌∷◌, ◌++◌, length, take, get_or, set, refl, sym, ◌∙◌, ap, subst, arith, ℤ, get_or-take, length-append, length-take-le}
use Rattle.std.proofs.lemmas.Bool.Decides.{nat_tests}
use Rattle.std.proofs.lemmas.List.{map-append, get_or_default, get_or-set_other, length-set}
use Rattle.std.proofs.lemmas.List.Elements.{All-push}
use Rattle.std.proofs.Math.Seq.{get_or-append_right}
use Rattle.cps_domain.specs.Window.{is_among}
use Rattle.cps_literal.specs.declared.atom.Atom.{Atom}
use Rattle.cps_literal.specs.Truth.{meets, Implies}
use Rattle.cps_trail.specs.Trail.{Domains, Trail, Entry, admits, leaves, first_of, up_to, IsFalseFrom, IsLastOn}
use Rattle.cps_trail.proofs.Times.{and_both}
use Rattle.cps_trail.proofs.Falls.{bool_cases}
use Rattle.cps_trail.proofs.Walks.{step_back, none_between, leaves_on, leaves_off, admitted}
use Rattle.cps_unit.specs.Boxes.{Box, is_made_true, with_atom, IsBelow, IsTrueIn}
use Rattle.cps_unit.specs.Propagation.{IsUnit, IsFalseClause}
use Rattle.cps_unit.specs.Chains.{Propagates}
use Rattle.cps_unit.proofs.Below.{and_true, true_below, below_itself, true_next}
use Rattle.cps_unit.proofs.Chains.{propagates_itself, propagates_on, propagates_atom, propagates_more, leads_after, leads_at_once}
use Rattle.cps_conflict.specs.declared.certifier.Antecedent.{Antecedent}
use Rattle.cps_conflict.specs.Conflicts.{Reasons}
use Rattle.cps_conflict.specs.Behind.{RulesOut}
use Rattle.cps_conflict.specs.Leading.{is_marked}
use Rattle.cps_conflict.specs.Antecedents.{left_at_bottom, denied_at_bottom, reasons_of, Certifies, IsKnownIn, IsRefuted, IsPassed, PassedSoFar, AreForcedSoFar}
use Rattle.cps_conflict.proofs.Uniting.{entry_at}

nat_cases : (i j : ℕ) → (i ≡ j) ⊎ (i ≢ j)
nat_cases i j = grind arith

not_true : (b : Bool) → not b ≡ true → b ≡ false
not_true false h = refl
not_true true h = absurd (true≢false (sym h))

not_false : (b : Bool) → not b ≡ false → b ≡ true
not_false true h = refl
not_false false h = absurd (true≢false h)

or_false : (a b : Bool) → (a || b) ≡ false → (a ≡ false) × (b ≡ false)
or_false true b e = absurd (true≢false e)
or_false false b e = (refl, e)

-- ---- an atom of the clause

silent_at : (clause : List Atom) (i : ℕ) (x : ℤ) (k : ℕ) (d : Atom) → k < length clause → is_made_true clause i x ≡ false → (((get_or clause k d).subject == i) && meets (get_or clause k d).op (get_or clause k d).value x) ≡ false
silent_at [] i x k d l h = absurd (omega (arith, l))
silent_at (t ∷ ts) i x zero d l h = (or_false ((t.subject == i) && meets t.op t.value x) (is_made_true ts i x) h).0
silent_at (t ∷ ts) i x (suc k) d l h = silent_at ts i x k d (omega (arith, l)) (or_false ((t.subject == i) && meets t.op t.value x) (is_made_true ts i x) h).1

pub refuted_by_clause : (s : Trail) (clause : List Atom) (known : List Bool) (u : Atom) → Any (Implies u) clause → IsRefuted s clause known u
refuted_by_clause s clause known u some box h x on = elim (bool_cases (meets u.op u.value x)) [
  | inr off ↦ off
  | inl met ↦ absurd (
      let c : Atom = some.1 in
      let i : Implies u c = some.4 in
      let silent = silent_at clause u.subject x some.0 c some.2 (not_true (is_made_true clause u.subject x) (and_true (left_at_bottom s u.subject x) (not (is_made_true clause u.subject x)) (h.below.at u.subject x on)).1) in
      let here : ((c.subject == u.subject) && meets c.op c.value x) ≡ false = subst (λ (v : Atom). ((v.subject == u.subject) && meets v.op v.value x) ≡ false) some.3 silent in
      let e = i.subject in
      let same : (c.subject == u.subject) ≡ true = grind (arith, nat_tests) in
      true≢false (sym (and_both (c.subject == u.subject) (meets c.op c.value x) same (i.follows x met)) ∙ here))
]

-- a mark that was read
pub marked_by : (known : List Bool) (k : ℕ) (b : Bool) → k < length known → b ≡ get_or known k b → b ≡ true → is_marked known k ≡ true
marked_by known k b l is on = sym (get_or_default known k b false l) ∙ sym is ∙ on

pub none_taken : (P : Atom → Type 0) (us : List Atom) → All P (take 0 us)
none_taken P [] = λ k d l. absurd (omega (arith, l))
none_taken P (u ∷ us) = λ k d l. absurd (omega (arith, l))

order : (m n : ℕ) → m ≤ n → (m < n) ⊎ (m ≡ n)
order m n h = grind arith

pub past : (found last : ℕ) → 0 < found → found ≤ last → (found - 1 ≢ last - 1) → found ≤ last - 1
past found last p l ne = elim (order found last l) [ inl below ↦ omega (arith, below) | inr same ↦ absurd (ne (ap (λ (n : ℕ). n - 1) same)) ]

-- ---- one entry

pub refuted_by_known : (s : Trail) (clause : List Atom) (known : List Bool) (u e : Atom) (k : ℕ) → k < length s.entries → ((d : Entry) → (get_or s.entries k d).atom ≡ e) → is_marked known k ≡ true → RulesOut e u → IsRefuted s clause known u
refuted_by_known s clause known u e k l is marked out box h x on =
    let d = entry_at s.entries k l in
    let holds : IsTrueIn box e = subst (λ (v : Atom). IsTrueIn box v) (is d) (h.holds k d l marked) in
    out.never x (holds x (subst (λ (i : ℕ). box i x ≡ true) (sym out.subject) on))

-- ---- entries that are passed

passed_if : (s : Trail) (clause : List Atom) (known : List Bool) (t e : Atom) (k : ℕ) → ((d : Entry) → (get_or s.entries k d).atom ≡ e)
    → ((box : Box) → IsKnownIn s clause known box → (x : ℤ) → box t.subject x ≡ true → meets t.op t.value x ≡ true → e.subject ≡ t.subject → meets e.op e.value x ≡ true) → IsPassed s clause known t k
passed_if s clause known t e k is f box h x d on met = elim (nat_cases e.subject t.subject) [
  | inl same ↦ leaves_on (get_or s.entries k d) t.subject x (ap (λ (v : Atom). v.subject) (is d) ∙ same) ∙ subst (λ (v : Atom). meets v.op v.value x ≡ true) (sym (is d)) (f box h x on met same)
  | inr other ↦ leaves_off (get_or s.entries k d) t.subject x (λ q. other (sym (ap (λ (v : Atom). v.subject) (is d)) ∙ q))
]

pub passed_known : (s : Trail) (clause : List Atom) (known : List Bool) (t e : Atom) (k : ℕ) → k < length s.entries → ((d : Entry) → (get_or s.entries k d).atom ≡ e) → is_marked known k ≡ true → IsPassed s clause known t k
passed_known s clause known t e k l is marked = passed_if s clause known t e k is (λ box h x on met same.
    let d = entry_at s.entries k l in
    let holds : IsTrueIn box e = subst (λ (v : Atom). IsTrueIn box v) (is d) (h.holds k d l marked) in
    holds x (subst (λ (i : ℕ). box i x ≡ true) (sym same) on))

pub passed_implied : (s : Trail) (clause : List Atom) (known : List Bool) (t e : Atom) (k : ℕ) → ((d : Entry) → (get_or s.entries k d).atom ≡ e) → Implies t e → IsPassed s clause known t k
passed_implied s clause known t e k is i = passed_if s clause known t e k is (λ box h x on met same. i.follows x met)

pub passed_by_last : (s : Trail) (clause : List Atom) (known : List Bool) (t e f : Atom) (k last : ℕ) → last < length s.entries → ((d : Entry) → (get_or s.entries k d).atom ≡ e) → ((d : Entry) → (get_or s.entries last d).atom ≡ f) → Implies f e
    → IsPassed s clause known t last → IsPassed s clause known t k
passed_by_last s clause known t e f k last l is is_last i p = passed_if s clause known t e k is (λ box h x on met same.
    let d = entry_at s.entries last l in
    let about : (get_or s.entries last d).atom.subject ≡ t.subject = ap (λ (v : Atom). v.subject) (is_last d) ∙ i.subject ∙ same in
    i.follows x (subst (λ (v : Atom). meets v.op v.value x ≡ true) (is_last d) (sym (leaves_on (get_or s.entries last d) t.subject x about) ∙ p box h x d on met)))

pub passed_denied : (s : Trail) (clause : List Atom) (known : List Bool) (t e n : Atom) (k : ℕ) → ((d : Entry) → (get_or s.entries k d).atom ≡ e) → n.subject ≡ e.subject → ((x : ℤ) → meets n.op n.value x ≡ not (meets e.op e.value x)) → Any (Implies n) clause
    → IsPassed s clause known t k
passed_denied s clause known t e n k is subject negated some = passed_if s clause known t e k is (λ box h x on met same.
    not_false (meets e.op e.value x) (sym (negated x) ∙ refuted_by_clause s clause known n some box h x (subst (λ (i : ℕ). box i x ≡ true) (sym (subject ∙ same)) on)))

head_kept : (f : Entry → Bool) (e : Entry) (es : List Entry) (b : Bool) → b ≡ true → list_all f (cond b (e ∷ es) es) ≡ true → f e ≡ true
head_kept f e es true q h = (and_true (f e) (list_all f es) h).0
head_kept f e es false q h = absurd (true≢false (sym q))

tail_kept : (f : Entry → Bool) (e : Entry) (es : List Entry) (b : Bool) → list_all f (cond b (e ∷ es) es) ≡ true → list_all f es ≡ true
tail_kept f e es true h = (and_true (f e) (list_all f es) h).1
tail_kept f e es false h = h

all_kept : (f p : Entry → Bool) (es : List Entry) (k : ℕ) (d : Entry) → list_all f (filter p es) ≡ true → k < length es → p (get_or es k d) ≡ true → f (get_or es k d) ≡ true
all_kept f p [] k d h l on = absurd (omega (arith, l))
all_kept f p (e ∷ es) zero d h l on = head_kept f e (filter p es) (p e) on h
all_kept f p (e ∷ es) (suc k) d h l on = all_kept f p es k d (tail_kept f e (filter p es) (p e) h) (omega (arith, l)) on

left_by : (first : Domains) (es : List Entry) (i : ℕ) (x : ℤ) → admits first es i x ≡ true → (is_among (first_of first i) x ≡ true) × (list_all (leaves i x) es ≡ true)
unfolding admits
left_by first es i x h = and_true (is_among (first_of first i) x) (list_all (leaves i x) es) h

-- what a box leaves, level 0 leaves
at_bottom : (s : Trail) (clause : List Atom) (known : List Bool) (box : Box) → IsKnownIn s clause known box → (i : ℕ) (x : ℤ) → box i x ≡ true → admits s.first (up_to 0 s.entries) i x ≡ true
at_bottom s clause known box h i x on = (and_true (left_at_bottom s i x) (not (is_made_true clause i x)) (h.below.at i x on)).0

pub passed_bottom : (s : Trail) (clause : List Atom) (known : List Bool) (t : Atom) (k : ℕ) → k < length s.entries → ((d : Entry) → (get_or s.entries k d).level ≡ 0) → IsPassed s clause known t k
passed_bottom s clause known t k l level box h x d on met =
    let left = left_by s.first (up_to 0 s.entries) t.subject x (at_bottom s clause known box h t.subject x on) in
    let low = level d in
    all_kept (leaves t.subject x) (λ e. nat_le e.level 0) s.entries k d left.1 l (let q : nat_le (get_or s.entries k d).level 0 ≡ true = rw low refl in q)

-- ---- the walk along an atom's subject

pub Passed-none : (s : Trail) (clause : List Atom) (known : List Bool) (t : Atom) (count n : ℕ) → count ≤ length s.entries → IsLastOn (take count s.entries) t.subject n → PassedSoFar s clause known t count n
Passed-none s clause known t count n l last =
    let len : length (take count s.entries) ≡ count = length-take-le count s.entries l in
    record {
      within = omega (arith, last.within, len);
      here = record { here = λ k d e. sym (ap (λ (f : Entry). f.atom.subject) (get_or-take count s.entries k d (omega (arith, e, last.within, len)))) ∙ last.here k d e };
      passed = λ k a b box h x d on met. leaves_off (get_or s.entries k d) t.subject x (λ same. last.after k d a (omega (arith, len, b)) (ap (λ (f : Entry). f.atom.subject) (get_or-take count s.entries k d b) ∙ same));
    }

three : (found k : ℕ) → 0 < found → (k < found - 1) ⊎ ((k ≡ found - 1) ⊎ (found ≤ k))
three found k p = grind arith

pub Passed-more : (s : Trail) (clause : List Atom) (known : List Bool) (t : Atom) (count found n : ℕ) → count ≤ length s.entries → 0 < found → PassedSoFar s clause known t count found
    → ((d : Entry) → IsLastOn (take (found - 1) s.entries) (get_or s.entries (found - 1) d).atom.subject n) → IsPassed s clause known t (found - 1) → PassedSoFar s clause known t count n
Passed-more s clause known t count found n l p so_far last here =
    let inside : found ≤ length s.entries = omega (arith, so_far.within, l) in
    let step = step_back s.entries t.subject found n p inside so_far.here last in
    record {
      within = omega (arith, step.lower, so_far.within);
      here = step.here;
      passed = λ k a b. elim (three found k p) [
        | inl under ↦ λ box h x d on met. leaves_off (get_or s.entries k d) t.subject x (none_between s.entries t.subject found n k d inside step a under)
        | inr rest ↦ elim rest [
          | inl at ↦ subst (λ (j : ℕ). IsPassed s clause known t j) (sym at) here
          | inr over ↦ so_far.passed k over b
        ]
      ];
    }

pub refuted_by_all : (s : Trail) (clause : List Atom) (known : List Bool) (t : Atom) (count : ℕ) → IsFalseFrom s t count → PassedSoFar s clause known t count 0 → IsRefuted s clause known t
refuted_by_all s clause known t count falls so_far box h x on = elim (bool_cases (meets t.op t.value x)) [
  | inr off ↦ off
  | inl met ↦ absurd (
      let left = left_by s.first (up_to 0 s.entries) t.subject x (at_bottom s clause known box h t.subject x on) in
      let there = admitted s.first s.entries t.subject x count falls.within left.0 (λ k d l. so_far.passed k (omega arith) l box h x d on met) in
      true≢false (sym met ∙ falls.after x there))
]

-- ---- a reason more

pub Forced-none : (makes : Reasons) (s : Trail) (clause : List Atom) (known : List Bool) → length known ≡ length s.entries → ((k : ℕ) → is_marked known k ≡ false) → AreForcedSoFar makes s clause known []
Forced-none makes s clause known size none = record {
  size = size;
  fetched = λ k d l. absurd (omega (arith, l));
  box = denied_at_bottom s clause;
  forced = propagates_itself [] (denied_at_bottom s clause);
  is_known = record { below = record { at = λ i x h. h }; holds = λ k d l on. absurd (true≢false (sym on ∙ none k)) };
}

reasons_push : (found : List Antecedent) (a : Antecedent) → reasons_of (found ++ a ∷ []) ≡ reasons_of found ++ a.reason ∷ []
reasons_push found a = map-append (λ (b : Antecedent). b.reason) found (a ∷ [])

-- the last of some clauses
last_is : (clauses : List (List Atom)) (c : List Atom) (P : List Atom → Type 0) → P c → Any P (clauses ++ c ∷ [])
last_is clauses c P h = (
  length clauses,
  c,
  (let e = length-append clauses (c ∷ []) in omega (arith, e)),
  (get_or-append_right clauses (c ∷ []) (length clauses) c (omega arith) ∙ ap (λ (n : ℕ). get_or (c ∷ []) n c) (let z : length clauses - length clauses ≡ 0 = omega arith in z)),
  h,
)

known_next : (s : Trail) (clause : List Atom) (known : List Bool) (box : Box) (place : ℕ) (t : Atom) → place < length known → ((d : Entry) → (get_or s.entries place d).atom ≡ t) → IsKnownIn s clause known box → IsKnownIn s clause (set known place true) (with_atom box t)
known_next s clause known box place t l is h = record {
  below = record { at = λ i x on. h.below.at i x (below.at i x on) };
  holds = λ k d inside marked. elim (nat_cases k place) [
    | inl same ↦ subst (λ (j : ℕ). IsTrueIn (with_atom box t) (get_or s.entries j d).atom) (sym same) (subst (λ (v : Atom). IsTrueIn (with_atom box t) v) (sym (is d)) (true_next box (with_atom box t) t (λ i x. refl)))
    | inr other ↦ true_below (with_atom box t) box (get_or s.entries k d).atom below (h.holds k d inside (sym (get_or-set_other known place k true false other) ∙ marked))
  ];
}
  where
    below : IsBelow (with_atom box t) box
    below = below_itself box (with_atom box t) t (λ i x. refl)

pub Forced-more : (makes : Reasons) (s : Trail) (clause : List Atom) (known : List Bool) (found : List Antecedent) (place : ℕ) (reason : List Atom) (t : Atom) → AreForcedSoFar makes s clause known found → place < length s.entries → ((d : Entry) → (get_or s.entries place d).atom ≡ t)
    → makes place reason → Contains reason t → All (λ u. (u ≡ t) ⊎ IsRefuted s clause known u) reason → AreForcedSoFar makes s clause (set known place true) (found ++ record { entry = place; reason = reason } ∷ [])
Forced-more makes s clause known found place reason t so_far l is made has others =
    let box = so_far.box in
    let unit : IsUnit box t reason = record { listed = has; others = λ k d inside. elim (others k d inside) [ inl same ↦ inl same | inr out ↦ inr (out box so_far.is_known) ] } in
    let old = reasons_of found in
    let on : Propagates (old ++ reason ∷ []) (denied_at_bottom s clause) (with_atom box t) =
    propagates_on (old ++ reason ∷ []) (denied_at_bottom s clause) box (with_atom box t) (propagates_more old reason (denied_at_bottom s clause) box so_far.forced)
    (propagates_atom (old ++ reason ∷ []) box (with_atom box t) t (last_is old reason (IsUnit box t) unit) (λ i x. refl)) in
    record {
      size = length-set known place true ∙ so_far.size;
      fetched = All-push (λ (a : Antecedent). makes a.entry a.reason) found (record { entry = place; reason = reason }) so_far.fetched made;
      box = with_atom box t;
      forced = subst (λ (cs : List (List Atom)). Propagates cs (denied_at_bottom s clause) (with_atom box t)) (sym (reasons_push found (record { entry = place; reason = reason }))) on;
      is_known = known_next s clause known box place t (omega (arith, l, so_far.size)) is so_far.is_known;
    }

-- ---- at the end

pub certified : (makes : Reasons) (s : Trail) (conflict clause : List Atom) (known : List Bool) (found : List Antecedent) → AreForcedSoFar makes s clause known found → All (IsRefuted s clause known) conflict → Certifies makes s conflict clause found
certified makes s conflict clause known found so_far out = record {
  fetched = so_far.fetched;
  leads = leads_after (reasons_of found ++ conflict ∷ []) (denied_at_bottom s clause) so_far.box (propagates_more (reasons_of found) conflict (denied_at_bottom s clause) so_far.box so_far.forced)
      (leads_at_once (reasons_of found ++ conflict ∷ []) so_far.box (last_is (reasons_of found) conflict (IsFalseClause so_far.box) (λ k d l. out k d l so_far.box so_far.is_known)));
}
