-- Lists of facts that grow.
use Rattle.std.specs.Prelude.{not}
use Rattle.std.specs.List.{All, Contains, list_all}
use Rattle.std.proofs.Common.{◌≡◌, ◌<◌, ◌+◌, ◌-◌, ◌≤ℤ◌, ◌<ℤ◌, inl, inr, ℕ, zero, suc, ℤ, Bool, true, false, List, [], ◌∷◌, ◌++◌, length, get_or, take, drop, add-one, refl, sym, ◌∙◌, ap, subst, arith}
use Rattle.std.proofs.lemmas.Int.{ints}
use Rattle.std.proofs.lemmas.List.Elements.{All-nil, All-cons, All-push, All-head, All-tail, All-append, All-map, All-take, All-drop}
use Rattle.std.proofs.lemmas.List.{get_or_default, take_all, length-map}
use Rattle.std.proofs.Math.ListN.{length-drop}
use Rattle.std.proofs.lemmas.List.Folds.{list_all_more}
use Rattle.cps_instance.specs.Terms.{Domains}
use Rattle.cps_instance.specs.Fitting.{IsLiteral}
use Rattle.cps_instance.proofs.Agreeing.{All-append_left, All-append_right}
use Rattle.cps_domain.proofs.Tests.{both, first_of_both, second_of_both}
use Rattle.cps_model.specs.Scheduling.{IsNoOverlap}
use Rattle.cps_literal.specs.declared.atom.Atom.{Atom}
use Rattle.cps_literal.specs.Truth.{value_at, atom_holds, meets}
use Rattle.cps_instance.specs.declared.task.Span.{Span}
use Rattle.cps_instance.specs.Parts.{span_runs}
use Rattle.cps_instance.specs.Tasks.{atom_subjects, subjects_of_span, span_subjects}
use Rattle.cps_trail.specs.Trail.{Trail, IsTrueNow, IsInside}
use Rattle.cps_propagate.proofs.Listing.{get_or-map}
use Rattle.cps_propagate.proofs.Speaking.{speaks_push}
use Rattle.cps_rule.specs.Rules.{IsFact}
use Rattle.cps_p_span.specs.declared.pairs.Pair.{Pair}
use Rattle.cps_p_span.specs.Citing.{Cites}
use Rattle.cps_p_span.specs.Spans.{start_at, end_at, is_present, IsBefore, SaysOfTimes, IsPair, OrdersAt, ClashesAt, IsSmallAtom, IsSpan, AreSpans}
use Rattle.cps_p_span.proofs.Pairing.{pair_apart}

pub Cites-push : (s : Trail) (old : List Atom) (u : Atom) → u.subject < length s.first → IsInside u.value → IsTrueNow s u → Cites s (u.subject ∷ []) old (old ++ u ∷ []) (λ xs. atom_holds xs u ≡ true)
Cites-push s old u l i t = record {
  facts = λ h. All-push (IsFact s) old u h (record { subject = l; inside = i; true_now = t });
  kept = λ xs h. All-append_left (λ v. atom_holds xs v ≡ true) old (u ∷ []) h;
  about = λ is all before. speaks_push is old u before (All-head (Contains is) u.subject [] all);
  gives = λ xs h. All-head (λ v. atom_holds xs v ≡ true) u [] (All-append_right (λ v. atom_holds xs v ≡ true) old (u ∷ []) h);
}

pub cites_none : (s : Trail) (among : List ℕ) (us : List Atom) (P : List ℤ → Type 0) → ((xs : List ℤ) → P xs) → Cites s among us us P
cites_none s among us P h = record { facts = λ f. f; kept = λ xs f. f; about = λ is all before. before; gives = λ xs f. h xs }

pub cites_then : (s : Trail) (among : List ℕ) (a b c : List Atom) (P Q : List ℤ → Type 0) → Cites s among a b P → Cites s among b c Q → Cites s among a c (λ xs. P xs × Q xs)
cites_then s among a b c P Q f g = record { facts = λ h. g.facts (f.facts h); kept = λ xs h. f.kept xs (g.kept xs h); about = λ is all before. g.about is all (f.about is all before); gives = λ xs h. (f.gives xs (g.kept xs h), g.gives xs h) }

pub cites_as : (s : Trail) (among : List ℕ) (a b : List Atom) (P Q : List ℤ → Type 0) → ((xs : List ℤ) → P xs → Q xs) → Cites s among a b P → Cites s among a b Q
cites_as s among a b P Q f g = record { facts = g.facts; kept = g.kept; about = g.about; gives = λ xs h. f xs (g.gives xs h) }

-- about more subjects
pub cites_among : (s : Trail) (few among : List ℕ) (a b : List Atom) (P : List ℤ → Type 0) → ((is : List ℕ) → All (Contains is) among → All (Contains is) few) → Cites s few a b P → Cites s among a b P
cites_among s few among a b P part g = record { facts = g.facts; kept = g.kept; about = λ is all before. g.about is (part is all) before; gives = g.gives }

pub cites_left : (s : Trail) (js ks : List ℕ) (a b : List Atom) (P : List ℤ → Type 0) → Cites s js a b P → Cites s (js ++ ks) a b P
cites_left s js ks a b P g = cites_among s js (js ++ ks) a b P (λ is all. All-append_left (Contains is) js ks all) g

pub cites_right : (s : Trail) (js ks : List ℕ) (a b : List Atom) (P : List ℤ → Type 0) → Cites s ks a b P → Cites s (js ++ ks) a b P
cites_right s js ks a b P g = cites_among s ks (js ++ ks) a b P (λ is all. All-append_right (Contains is) js ks all) g

-- the subjects of a span's times and presence, and of some of its atoms
of_times : (p : Span) (u : Atom) (P : List ℤ → Type 0) → SaysOfTimes p u P → (is : List ℕ) → All (Contains is) (subjects_of_span p) → All (Contains is) (u.subject ∷ [])
of_times p u P said is all = All-cons (Contains is) u.subject [] (elim said.place [
  | inl e ↦ subst (λ (i : ℕ). Contains is i) (sym e) (All-head (Contains is) p.start (p.end ∷ atom_subjects p.presence) all)
  | inr e ↦ subst (λ (i : ℕ). Contains is i) (sym e) (All-head (Contains is) p.end (atom_subjects p.presence) (All-tail (Contains is) p.start (p.end ∷ atom_subjects p.presence) all))
]) (All-nil (Contains is))

pub of_presence : (p : Span) (us : List Atom) → us ≡ p.presence → (is : List ℕ) → All (Contains is) (subjects_of_span p) → All (Contains is) (atom_subjects us)
of_presence p us e is all = subst (λ (vs : List Atom). All (Contains is) (atom_subjects vs)) (sym e) (All-tail (Contains is) p.end (atom_subjects p.presence) (All-tail (Contains is) p.start (p.end ∷ atom_subjects p.presence) all))

each_atom : (P : ℕ → Type 0) (us : List Atom) → All P (atom_subjects us) → All (λ u. P u.subject) us
each_atom P us all k d l = subst P (get_or-map (λ (u : Atom). u.subject) us k d) (all k d.subject (omega (arith, l, length-map us (λ (u : Atom). u.subject))))

first_atoms : (P : ℕ → Type 0) (us : List Atom) (n : ℕ) → All P (atom_subjects us) → All P (atom_subjects (take n us))
first_atoms P us n all = All-map P (λ (u : Atom). u.subject) (take n us) (All-take (λ (u : Atom). P u.subject) n us (each_atom P us all))

later_atoms : (P : ℕ → Type 0) (us : List Atom) (m n : ℕ) → All P (atom_subjects us) → All P (atom_subjects (take m (drop n us)))
later_atoms P us m n all = All-map P (λ (u : Atom). u.subject) (take m (drop n us)) (All-take (λ (u : Atom). P u.subject) m (drop n us) (All-drop (λ (u : Atom). P u.subject) n us (each_atom P us all)))

-- those of one span among those of several
pub of_span : (P : ℕ → Type 0) (ps : List Span) (k : ℕ) (d : Span) → k < length ps → All P (span_subjects ps) → All P (subjects_of_span (get_or ps k d))
of_span P [] k d l all = absurd (omega arith)
of_span P (p ∷ ps) zero d l all = All-append_left P (subjects_of_span p) (span_subjects ps) all
of_span P (p ∷ ps) (suc k) d l all = of_span P ps k d (omega arith) (All-append_right P (subjects_of_span p) (span_subjects ps) all)

-- an atom that says something of a span's times says it where it is cited
pub cites_said : (s : Trail) (a b : List Atom) (p : Span) (u : Atom) (P : List ℤ → Type 0) → SaysOfTimes p u P → Cites s (u.subject ∷ []) a b (λ xs. atom_holds xs u ≡ true) → Cites s (subjects_of_span p) a b P
cites_said s a b p u P said g = cites_as s (subjects_of_span p) a b (λ xs. atom_holds xs u ≡ true) P said.says (cites_among s (u.subject ∷ []) (subjects_of_span p) a b (λ xs. atom_holds xs u ≡ true) (of_times p u P said) g)

-- two present spans of which the one is late are in order
pub orders : (xs : List ℤ) (ps : List Span) (pair : Pair) (d : Span) → IsPair (length ps) pair → is_present xs (get_or ps pair.before d) ≡ true → is_present xs (get_or ps pair.after d) ≡ true
    → start_at xs (get_or ps pair.before d) <ℤ end_at xs (get_or ps pair.after d) → IsNoOverlap (span_runs xs ps) → IsBefore xs (get_or ps pair.before d) (get_or ps pair.after d)
orders xs ps pair d p e f late h = elim (pair_apart xs ps pair.before pair.after d p.apart p.before p.after e f h) [ inl b ↦ b | inr b ↦ absurd (omega (arith, ints)) ]

pub clashes : (xs : List ℤ) (ps : List Span) (pair : Pair) (d : Span) → IsPair (length ps) pair → is_present xs (get_or ps pair.before d) ≡ true → is_present xs (get_or ps pair.after d) ≡ true → ClashesAt xs ps pair → IsNoOverlap (span_runs xs ps) → ⊥
clashes xs ps pair d p e f c h =
    let a = (c d).0 in
    let b = (c d).1 in
    elim (pair_apart xs ps pair.before pair.after d p.apart p.before p.after e f h) [ inl q ↦ absurd (omega (arith, ints)) | inr q ↦ absurd (omega (arith, ints)) ]

at_place : (us : List Atom) (i : ℕ) (d : Atom) → i < length us → (is : List ℕ) → All (Contains is) (atom_subjects us) → All (Contains is) ((get_or us i d).subject ∷ [])
at_place us i d l is all = All-cons (Contains is) (get_or us i d).subject [] (each_atom (Contains is) us all i d l) (All-nil (Contains is))

pub cites_more : (s : Trail) (a b c us : List Atom) (i : ℕ) (d : Atom) → i < length us → Cites s (atom_subjects us) a b (λ xs. list_all (atom_holds xs) (take i us) ≡ true) → Cites s ((get_or us i d).subject ∷ []) b c (λ xs. atom_holds xs (get_or us i d) ≡ true) → Cites s (atom_subjects us) a c (λ xs. list_all (atom_holds xs) (take (i + 1) us) ≡ true)
cites_more s a b c us i d l f g =
    cites_as s (atom_subjects us) a c (λ xs. (list_all (atom_holds xs) (take i us) ≡ true) × (atom_holds xs (get_or us i d) ≡ true)) (λ xs. list_all (atom_holds xs) (take (i + 1) us) ≡ true)
    (λ xs h. list_all_more (atom_holds xs) us i d l ∙ both (list_all (atom_holds xs) (take i us)) (atom_holds xs (get_or us i d)) h.0 h.1)
    (cites_then s (atom_subjects us) a b c (λ xs. list_all (atom_holds xs) (take i us) ≡ true) (λ xs. atom_holds xs (get_or us i d) ≡ true) f
    (cites_among s ((get_or us i d).subject ∷ []) (atom_subjects us) b c (λ xs. atom_holds xs (get_or us i d) ≡ true) (at_place us i d l) g))

pub cites_whole : (s : Trail) (a b us : List Atom) (i : ℕ) → take i us ≡ us → Cites s (atom_subjects us) a b (λ xs. list_all (atom_holds xs) (take i us) ≡ true) → Cites s (atom_subjects us) a b (λ xs. list_all (atom_holds xs) us ≡ true)
cites_whole s a b us i e f = cites_as s (atom_subjects us) a b (λ xs. list_all (atom_holds xs) (take i us) ≡ true) (λ xs. list_all (atom_holds xs) us ≡ true) (λ xs h. subst (λ (vs : List Atom). list_all (atom_holds xs) vs ≡ true) e h) f

-- all atoms hold where those before one, it and those after it do
pub split_holds : (xs : List ℤ) (us : List Atom) (k : ℕ) (d : Atom) → k < length us → list_all (atom_holds xs) (take k us) ≡ true → list_all (atom_holds xs) (drop (suc k) us) ≡ true → atom_holds xs (get_or us k d) ≡ true → list_all (atom_holds xs) us ≡ true
split_holds xs [] k d l a b e = absurd (omega arith)
split_holds xs (u ∷ us) zero d l a b e = both (atom_holds xs u) (list_all (atom_holds xs) us) e b
split_holds xs (u ∷ us) (suc k) d l a b e = both (atom_holds xs u) (list_all (atom_holds xs) us) (first_of_both (atom_holds xs u) (list_all (atom_holds xs) (take k us)) a)
    (split_holds xs us k d (omega arith) (second_of_both (atom_holds xs u) (list_all (atom_holds xs) (take k us)) a) b e)

-- a target that denies an atom is true where the atom cannot hold
pub denies : (t u : Bool) → t ≡ not u → (u ≡ true → ⊥) → t ≡ true
denies t true e h = absurd (h refl)
denies t false e h = e

pub literals_small : (first : Domains) (us : List Atom) → All (IsLiteral first) us → All IsSmallAtom us
literals_small first us h = λ k d l. record { low = (h k d l).low; high = (h k d l).high }

-- what is read at a place of a list of spans is one, and so are its atoms
pub span_of : (first : Domains) (ps : List Span) (k : ℕ) (x : Span) → AreSpans first ps → k < length ps → x ≡ get_or ps k x → IsSpan first x
span_of first ps k x h l e = subst (λ (q : Span). IsSpan first q) (sym e) (h k x l)

pub presence_of : (first : Domains) (ps : List Span) (k : ℕ) (x : Span) (us : List Atom) → AreSpans first ps → k < length ps → us ≡ (get_or ps k x).presence → All (λ u. u.subject < length first) us
presence_of first ps k x us h l e = subst (λ (vs : List Atom). All (λ u. u.subject < length first) vs) (sym e) (h k x l).presence

pub small_of : (first : Domains) (ps : List Span) (k : ℕ) (x : Span) (us : List Atom) → AreSpans first ps → k < length ps → us ≡ (get_or ps k x).presence → All IsSmallAtom us
small_of first ps k x us h l e = subst (λ (vs : List Atom). All IsSmallAtom vs) (sym e) (literals_small first (get_or ps k x).presence (h k x l).literals)

-- the atoms of a span's presence are about subjects, and stand for literals
pub presence_slice : (first : Domains) (p : Span) (us : List Atom) → us ≡ p.presence → IsSpan first p → All (λ u. u.subject < length first) us
presence_slice first p us e h = subst (λ (vs : List Atom). All (λ u. u.subject < length first) vs) (sym e) h.presence

pub small_slice : (first : Domains) (p : Span) (us : List Atom) → us ≡ p.presence → IsSpan first p → All IsSmallAtom us
small_slice first p us e h = subst (λ (vs : List Atom). All IsSmallAtom vs) (sym e) (literals_small first p.presence h.literals)

-- two spans of which all atoms are cited are present
pub cites_present : (s : Trail) (a b c : List Atom) (p q : Span) (us vs : List Atom) → us ≡ p.presence → vs ≡ q.presence → Cites s (atom_subjects us) a b (λ xs. list_all (atom_holds xs) us ≡ true) → Cites s (atom_subjects vs) b c (λ xs. list_all (atom_holds xs) vs ≡ true)
    → Cites s (subjects_of_span p ++ subjects_of_span q) a c (λ xs. (is_present xs p ≡ true) × (is_present xs q ≡ true))
cites_present s a b c p q us vs e f g h =
    cites_then s (subjects_of_span p ++ subjects_of_span q) a b c (λ xs. is_present xs p ≡ true) (λ xs. is_present xs q ≡ true)
    (cites_left s (subjects_of_span p) (subjects_of_span q) a b (λ xs. is_present xs p ≡ true) (cites_among s (atom_subjects us) (subjects_of_span p) a b (λ xs. is_present xs p ≡ true) (of_presence p us e)
    (cites_as s (atom_subjects us) a b (λ xs. list_all (atom_holds xs) us ≡ true) (λ xs. is_present xs p ≡ true) (λ xs k. subst (λ (ws : List Atom). list_all (atom_holds xs) ws ≡ true) e k) g)))
    (cites_right s (subjects_of_span p) (subjects_of_span q) b c (λ xs. is_present xs q ≡ true) (cites_among s (atom_subjects vs) (subjects_of_span q) b c (λ xs. is_present xs q ≡ true) (of_presence q vs f)
    (cites_as s (atom_subjects vs) b c (λ xs. list_all (atom_holds xs) vs ≡ true) (λ xs. is_present xs q ≡ true) (λ xs k. subst (λ (ws : List Atom). list_all (atom_holds xs) ws ≡ true) f k) h)))

rest_whole : (us : List Atom) (m : ℕ) → take (length us - m) (drop m us) ≡ drop m us
rest_whole us m = take_all (length us - m) (drop m us) (let l = length-drop m us in omega arith)

-- what is read at two places of a list
module _ (ps : List Span) (pair : Pair) (p : IsPair (length ps) pair) (x y : Span) (is-x : x ≡ get_or ps pair.before x) (is-y : y ≡ get_or ps pair.after y) where
  before_is : (f : Span) → x ≡ get_or ps pair.before f
  before_is f = is-x ∙ get_or_default ps pair.before x f p.before

  own_x : (is : List ℕ) → All (Contains is) (span_subjects ps) → All (Contains is) (subjects_of_span x)
  own_x is all = subst (λ (q : Span). All (Contains is) (subjects_of_span q)) (sym is-x) (of_span (Contains is) ps pair.before x p.before all)

  own_y : (is : List ℕ) → All (Contains is) (span_subjects ps) → All (Contains is) (subjects_of_span y)
  own_y is all = subst (λ (q : Span). All (Contains is) (subjects_of_span q)) (sym is-y) (of_span (Contains is) ps pair.after y p.after all)

  both_xy : (is : List ℕ) → All (Contains is) (span_subjects ps) → All (Contains is) (subjects_of_span x ++ subjects_of_span y)
  both_xy is all = All-append (Contains is) (subjects_of_span x) (subjects_of_span y) (own_x is all) (own_y is all)

  both_yx : (is : List ℕ) → All (Contains is) (span_subjects ps) → All (Contains is) (subjects_of_span y ++ subjects_of_span x)
  both_yx is all = All-append (Contains is) (subjects_of_span y) (subjects_of_span x) (own_y is all) (own_x is all)

  after_is : (f : Span) → y ≡ get_or ps pair.after f
  after_is f = is-y ∙ get_or_default ps pair.after y f p.after

  orders_at : (xs : List ℤ) → is_present xs x ≡ true → is_present xs y ≡ true → start_at xs x <ℤ end_at xs y → OrdersAt xs ps pair
  orders_at xs a b l = λ f h.
      orders xs ps pair f p (subst (λ (q : Span). is_present xs q ≡ true) (before_is f) a) (subst (λ (q : Span). is_present xs q ≡ true) (after_is f) b)
      (subst (λ (q : Span). start_at xs q <ℤ end_at xs (get_or ps pair.after f)) (before_is f) (subst (λ (q : Span). start_at xs x <ℤ end_at xs q) (after_is f) l)) h

  refutes : (xs : List ℤ) → is_present xs x ≡ true → is_present xs y ≡ true → ClashesAt xs ps pair → IsNoOverlap (span_runs xs ps) → ⊥
  refutes xs a b c h = clashes xs ps pair x p (subst (λ (q : Span). is_present xs q ≡ true) (before_is x) a) (subst (λ (q : Span). is_present xs q ≡ true) (after_is x) b) c h

  clashes_at : (xs : List ℤ) → start_at xs x <ℤ end_at xs y → start_at xs y <ℤ end_at xs x → ClashesAt xs ps pair
  clashes_at xs l m = λ d. (
    subst (λ (q : Span). start_at xs q <ℤ end_at xs (get_or ps pair.after d)) (before_is d) (subst (λ (q : Span). start_at xs x <ℤ end_at xs q) (after_is d) l),
    subst (λ (q : Span). start_at xs q <ℤ end_at xs (get_or ps pair.before d)) (after_is d) (subst (λ (q : Span). start_at xs y <ℤ end_at xs q) (before_is d) m),
  )

  pub cites_clash : (s : Trail) (a b c : List Atom) → Cites s (subjects_of_span y ++ subjects_of_span x) a b (λ xs. start_at xs x <ℤ end_at xs y) → Cites s (subjects_of_span x ++ subjects_of_span y) b c (λ xs. start_at xs y <ℤ end_at xs x) → Cites s (span_subjects ps) a c (λ xs. ClashesAt xs ps pair)
  cites_clash s a b c f g = record { facts = λ h. g.facts (f.facts h); kept = λ xs h. f.kept xs (g.kept xs h); about = λ is all before. g.about is (both_xy is all) (f.about is (both_yx is all) before); gives = λ xs h. clashes_at xs (f.gives xs (g.kept xs h)) (g.gives xs h) }

  in_order : (xs : List ℤ) → OrdersAt xs ps pair → IsNoOverlap (span_runs xs ps) → end_at xs x ≤ℤ start_at xs y
  in_order xs o h = subst (λ (q : Span). end_at xs q ≤ℤ start_at xs y) (sym (before_is x)) (subst (λ (q : Span). end_at xs (get_or ps pair.before x) ≤ℤ start_at xs q) (sym (after_is x)) (o x h))

  pub cites_order : (s : Trail) (a b c : List Atom) → Cites s (subjects_of_span x ++ subjects_of_span y) a b (λ xs. (is_present xs x ≡ true) × (is_present xs y ≡ true)) → Cites s (subjects_of_span y ++ subjects_of_span x) b c (λ xs. start_at xs x <ℤ end_at xs y) → Cites s (span_subjects ps) a c (λ xs. OrdersAt xs ps pair)
  cites_order s a b c f g = record { facts = λ h. g.facts (f.facts h); kept = λ xs h. f.kept xs (g.kept xs h); about = λ is all before. g.about is (both_yx is all) (f.about is (both_xy is all) before); gives = λ xs h. (let k = f.gives xs (g.kept xs h) in orders_at xs k.0 k.1 (g.gives xs h)) }

  pub cites_refuted : (s : Trail) (a b c : List Atom) → Cites s (subjects_of_span x ++ subjects_of_span y) a b (λ xs. (is_present xs x ≡ true) × (is_present xs y ≡ true)) → Cites s (span_subjects ps) b c (λ xs. ClashesAt xs ps pair) → Cites s (span_subjects ps) a c (λ xs. IsNoOverlap (span_runs xs ps) → ⊥)
  cites_refuted s a b c f g = record { facts = λ h. g.facts (f.facts h); kept = λ xs h. f.kept xs (g.kept xs h); about = λ is all before. g.about is all (f.about is (both_xy is all) before); gives = λ xs h. (let k = f.gives xs (g.kept xs h) in refutes xs k.0 k.1 (g.gives xs h)) }

  pub cites_start : (s : Trail) (a b c : List Atom) (u target : Atom) (time : ℤ) → u ≡ target → SaysOfTimes y u (λ ys. time ≤ℤ start_at ys y) → Cites s (span_subjects ps) a b (λ xs. OrdersAt xs ps pair) → Cites s (subjects_of_span x) b c (λ xs. time ≤ℤ end_at xs x) → Cites s (span_subjects ps) a c (λ xs. IsNoOverlap (span_runs xs ps) → atom_holds xs target ≡ true)
  cites_start s a b c u target time same says f g = record {
    facts = λ h. g.facts (f.facts h);
    kept = λ xs h. f.kept xs (g.kept xs h);
    about = λ is all before. g.about is (own_x is all) (f.about is all before);
    gives = λ xs h o. (let k = in_order xs (f.gives xs (g.kept xs h)) o in let l = g.gives xs h in subst (λ (v : Atom). atom_holds xs v ≡ true) same (says.said xs (omega (arith, ints))));
  }

  pub cites_end : (s : Trail) (a b c : List Atom) (u target : Atom) (time : ℤ) → u ≡ target → SaysOfTimes x u (λ ys. end_at ys x ≤ℤ time) → Cites s (span_subjects ps) a b (λ xs. OrdersAt xs ps pair) → Cites s (subjects_of_span y) b c (λ xs. start_at xs y ≤ℤ time) → Cites s (span_subjects ps) a c (λ xs. IsNoOverlap (span_runs xs ps) → atom_holds xs target ≡ true)
  cites_end s a b c u target time same says f g = record {
    facts = λ h. g.facts (f.facts h);
    kept = λ xs h. f.kept xs (g.kept xs h);
    about = λ is all before. g.about is (own_y is all) (f.about is all before);
    gives = λ xs h o. (let k = in_order xs (f.gives xs (g.kept xs h)) o in let l = g.gives xs h in subst (λ (v : Atom). atom_holds xs v ≡ true) same (says.said xs (omega (arith, ints))));
  }

  pub cites_absence : (s : Trail) (a b c d e : List Atom) (us vs : List Atom) (k : ℕ) (v target : Atom) → us ≡ (get_or ps pair.before x).presence → vs ≡ (get_or ps pair.after y).presence → k < length us → ((xs : List ℤ) → atom_holds xs target ≡ not (atom_holds xs (get_or us k v)))
      → Cites s (atom_subjects (take k us)) a b (λ xs. list_all (atom_holds xs) (take k us) ≡ true) → Cites s (atom_subjects (take (length us - (k + 1)) (drop (k + 1) us))) b c (λ xs. list_all (atom_holds xs) (take (length us - (k + 1)) (drop (k + 1) us)) ≡ true) → Cites s (atom_subjects vs) c d (λ xs. list_all (atom_holds xs) vs ≡ true) → Cites s (span_subjects ps) d e (λ xs. ClashesAt xs ps pair)
      → Cites s (span_subjects ps) a e (λ xs. IsNoOverlap (span_runs xs ps) → atom_holds xs target ≡ true)
  cites_absence s a b c d e us vs k v target same same' l denied f g h i = record {
    facts = λ q. i.facts (h.facts (g.facts (f.facts q)));
    kept = λ xs q. f.kept xs (g.kept xs (h.kept xs (i.kept xs q)));
    about = λ is all before.
        let own = of_presence (get_or ps pair.before x) us same is (of_span (Contains is) ps pair.before x p.before all) in
        let other = of_presence (get_or ps pair.after y) vs same' is (of_span (Contains is) ps pair.after y p.after all) in
        i.about is all (h.about is other (g.about is (later_atoms (Contains is) us (length us - (k + 1)) (k + 1) own) (f.about is (first_atoms (Contains is) us k own) before)));
    gives = λ xs q o.
        let q3 = i.kept xs q in
        let q2 = h.kept xs q3 in
        let q1 = g.kept xs q2 in
        let back = subst (λ (n : ℕ). list_all (atom_holds xs) (drop n us) ≡ true) (add-one k) (subst (λ (bs : List Atom). list_all (atom_holds xs) bs ≡ true) (rest_whole us (k + 1)) (g.gives xs q2)) in
        denies (atom_holds xs target) (atom_holds xs (get_or us k v)) (denied xs) (λ held.
        clashes xs ps pair x p
        (subst (λ (bs : List Atom). list_all (atom_holds xs) bs ≡ true) same (split_holds xs us k v l (f.gives xs q1) back held))
        (subst (λ (z : Span). is_present xs z ≡ true) (get_or_default ps pair.after y x p.after) (subst (λ (bs : List Atom). list_all (atom_holds xs) bs ≡ true) same' (h.gives xs q3)))
        (i.gives xs q) o);
  }

pub says_within : (first : Domains) (p : Span) (u : Atom) (P : List ℤ → Type 0) → IsSpan first p → SaysOfTimes p u P → u.subject < length first
says_within first p u P h says = elim says.place [
  | inl e ↦ (let i = h.start in omega (arith, e))
  | inr e ↦ (let i = h.end in omega (arith, e))
]

-- where a target is false, one more atom holds
pub others_more : (s : Trail) (a b c us : List Atom) (i : ℕ) (d target : Atom) → i < length us → Cites s (atom_subjects us) a b (λ xs. atom_holds xs target ≡ false → list_all (atom_holds xs) (take i us) ≡ true) → Cites s ((get_or us i d).subject ∷ []) b c (λ xs. atom_holds xs target ≡ false → atom_holds xs (get_or us i d) ≡ true)
    → Cites s (atom_subjects us) a c (λ xs. atom_holds xs target ≡ false → list_all (atom_holds xs) (take (i + 1) us) ≡ true)
others_more s a b c us i d target l f g = record {
  facts = λ h. g.facts (f.facts h);
  kept = λ xs h. f.kept xs (g.kept xs h);
  about = λ is all before. g.about is (at_place us i d l is all) (f.about is all before);
  gives = λ xs h n. list_all_more (atom_holds xs) us i d l ∙ both (list_all (atom_holds xs) (take i us)) (atom_holds xs (get_or us i d)) (f.gives xs (g.kept xs h) n) (g.gives xs h n);
}

pub others_whole : (s : Trail) (a b us : List Atom) (i : ℕ) (target : Atom) → take i us ≡ us → Cites s (atom_subjects us) a b (λ xs. atom_holds xs target ≡ false → list_all (atom_holds xs) (take i us) ≡ true) → Cites s (atom_subjects us) a b (λ xs. atom_holds xs target ≡ false → list_all (atom_holds xs) us ≡ true)
others_whole s a b us i target e f = cites_as s (atom_subjects us) a b (λ xs. atom_holds xs target ≡ false → list_all (atom_holds xs) (take i us) ≡ true) (λ xs. atom_holds xs target ≡ false → list_all (atom_holds xs) us ≡ true) (λ xs h n. subst (λ (vs : List Atom). list_all (atom_holds xs) vs ≡ true) e (h n)) f

unnot : (t : Bool) → not t ≡ false → t ≡ true
unnot true e = refl
unnot false e = sym e

-- an atom is true where its negation is false
pub denied_holds : (u v target : Atom) → v ≡ target → v.subject ≡ u.subject → ((x : ℤ) → meets v.op v.value x ≡ not (meets u.op u.value x)) → (xs : List ℤ) → atom_holds xs target ≡ false → atom_holds xs u ≡ true
denied_holds u v target same about negated xs e =
    let other : atom_holds xs v ≡ not (atom_holds xs u) = ap (λ (i : ℕ). meets v.op v.value (value_at xs i)) about ∙ negated (value_at xs u.subject) in
    unnot (atom_holds xs u) (sym other ∙ subst (λ (w : Atom). atom_holds xs w ≡ false) (sym same) e)
