-- What two boxes give.
use Rattle.std.specs.Prelude.{not, int_lt, IsTrue, IfSome}
use Rattle.std.specs.List.{All, AllZip}
use Rattle.std.proofs.Common.{◌≡◌, ◌≢◌, ℕ, zero, suc, ◌<◌, ◌≤ℤ◌, ◌<ℤ◌, ◌⊎◌, inl, inr, ℤ, true, false, Option, None, List, [], ◌++◌, ◌+◌, length, get_or, refl, sym, ◌∙◌, ap, subst, arith}
use Rattle.std.proofs.lemmas.Int.{ints}
use Rattle.std.proofs.lemmas.List.{get_or_default}
use Rattle.std.proofs.lemmas.List.Elements.{All-nil}
use Rattle.cps_literal.specs.declared.atom.Atom.{Atom}
use Rattle.cps_literal.specs.Truth.{value_at, atom_holds, meets}
use Rattle.cps_instance.specs.declared.task.Span.{Span}
use Rattle.cps_instance.specs.declared.task.Body.{Body}
use Rattle.cps_instance.specs.declared.task.Body.TheVariants.{NoOverlap2d}
use Rattle.cps_instance.specs.Terms.{Domains, AreIntervals, domain_at}
use Rattle.cps_instance.specs.Tasks.{span_subjects}
use Rattle.cps_instance.proofs.Agreeing.{All-append_left, All-append_right}
use Rattle.cps_trail.specs.Trail.{Trail, IsAdmitted}
use Rattle.cps_propagate.specs.Now.{IsOpenTo, IsFixedNow, AreOpen}
use Rattle.cps_rule.specs.declared.rule.Narrowing.{Narrowing}
use Rattle.cps_rule.specs.Rules.{IsGiven, IsImpossible, IsAtRest, IsFittingRule}
use Rattle.cps_p_span.specs.declared.pairs.Pair.{Pair}
use Rattle.cps_p_span.specs.declared.seen.Seen.{Seen}
use Rattle.cps_p_boxes.specs.declared.pairs.Direction.{Direction}
use Rattle.cps_p_span.specs.Hulls.{Proposes}
use Rattle.cps_p_span.specs.Spans.{start_at, end_at, is_present, IsBefore, AreSpans, IsSpanSeen, IsPair, IsSmallAtom, ClashesAt, AddsOrdered, pair_of_places, no_seen}
use Rattle.cps_p_boxes.specs.Boxes.{IsDirection, IsKnown, AreBoxes, ArePresent, AreDisjoint, KeepsApart, AddsGiven, LacksBox, IsLate, IsOpenOrder, Overlap, MayBeApart, IsSureBox, AreBoxesAllowed, AllowsBoxes, AreAllAllowed, MakesPresent, MakesBoxPresent, IsCount, AreAllSettled}
use Rattle.cps_propagate.specs.Strength.{MayBeOrdered, IsPresentBox, HasSeparateBoxes, FollowAlong}
use Rattle.cps_p_span.proofs.Timing.{zip_at}
use Rattle.cps_p_span.proofs.Settling.{le_or_less}
use Rattle.cps_p_span.proofs.Pairing.{all_hold, less_or, below_or_same, are_known, swapped_pair, start_most, end_least, surely, gives_proposed}
use Rattle.cps_p_span.proofs.Ordering.{may_be_ordered, turned_order, sure_at}
use Rattle.cps_p_span.proofs.Citing.{denies, literals_small}
use Rattle.cps_p_span.proofs.Resting.{are_spans, start_fixed, end_fixed, sure}
use Rattle.cps_p_boxes.proofs.Disjoint.{Either, AllDisjoint, disjoint_of, no_overlap_2d}

-- times that are compared
pub lt_holds : (a b : ℤ) → int_lt a b ≡ true → a <ℤ b
lt_holds a b h = grind (arith, ints)

pub lt_fails : (a b : ℤ) → int_lt a b ≡ false → b ≤ℤ a
lt_fails a b h = grind (arith, ints)

turned : (xs : List ℤ) (p q r t : Span) → Either xs p q ⊎ Either xs r t → Either xs q p ⊎ Either xs t r
turned xs p q r t h = elim h [ inl e ↦ inl (elim e [ inl b ↦ inr b | inr b ↦ inl b ]) | inr e ↦ inr (elim e [ inl b ↦ inr b | inr b ↦ inl b ]) ]

-- the body keeps its boxes apart
pub kept_apart : (ps qs : List Span) → KeepsApart (NoOverlap2d ps qs) ps qs
kept_apart ps qs = λ xs h pair d p a b. elim (less_or pair.before pair.after p.along.apart) [
  | inl l ↦ disjoint_of xs ps qs pair.before pair.after d l p.along.after p.across.after a.before b.before a.after b.after h
  | inr l ↦ turned xs (get_or ps pair.after d) (get_or ps pair.before d) (get_or qs pair.after d) (get_or qs pair.before d) (disjoint_of xs ps qs pair.after pair.before d l p.along.before p.across.before a.after b.after a.before b.before h)
]

pub kept_of : (x y ps qs : List Span) → ps ≡ x → qs ≡ y → KeepsApart (NoOverlap2d x y) ps qs
kept_of x y ps qs e f = subst (λ (ts : List Span). KeepsApart (NoOverlap2d x y) ts qs) (sym e) (subst (λ (ts : List Span). KeepsApart (NoOverlap2d x y) x ts) (sym f) (kept_apart x y))

-- so what is added to nothing is given by the body
pub given_of : (s : Trail) (v w : Direction) → IsDirection s v → IsDirection s w → (x y : List Span) → v.spans ≡ x → w.spans ≡ y → (old new : List Narrowing) → old ≡ [] → AddsGiven v w old new → All (λ n. IsGiven (NoOverlap2d x y) s n.target) new
given_of s v w is has x y e f old new none h =
    h s is has (NoOverlap2d x y) (kept_of x y v.spans w.spans e f) (subst (λ (ns : List Narrowing). All (λ n. IsGiven (NoOverlap2d x y) s n.target) ns) (sym none) (All-nil (λ (n : Narrowing). IsGiven (NoOverlap2d x y) s n.target)))

-- so the other way round
pub swapped_disjoint : (xs : List ℤ) (ps qs : List Span) → AreDisjoint xs ps qs → AreDisjoint xs qs ps
swapped_disjoint xs ps qs h = λ pair d p a b. elim (h pair d (record { along = p.across; across = p.along }) b a) [ inl e ↦ inr e | inr e ↦ inl e ]

pub adds_swapped : (v w : Direction) (old new : List Narrowing) → AddsGiven w v old new → AddsGiven v w old new
adds_swapped v w old new h = λ s is has b k. h s has is b (λ xs o. swapped_disjoint xs v.spans w.spans (k xs o))

pub swapped_boxes : (ps qs : List Span) (pair : Pair) → AreBoxes ps qs pair → AreBoxes ps qs (record { before = pair.after; after = pair.before })
swapped_boxes ps qs pair p = record { along = swapped_pair (length ps) pair p.along; across = swapped_pair (length qs) pair p.across }

pub swapped_overlap : (vs : List Seen) (pair : Pair) → Overlap vs pair → Overlap vs (record { before = pair.after; after = pair.before })
swapped_overlap vs pair o = record { forth = o.back; back = o.forth }

-- boxes that overlap in one direction are in order in the other, where one order cannot be
pub first_of : (xs : List ℤ) (ps qs : List Span) (pair : Pair) (d : Span) → AreBoxes ps qs pair → ArePresent xs ps pair d → ArePresent xs qs pair d → ClashesAt xs qs pair
    → start_at xs (get_or ps pair.before d) <ℤ end_at xs (get_or ps pair.after d) → AreDisjoint xs ps qs → IsBefore xs (get_or ps pair.before d) (get_or ps pair.after d)
first_of xs ps qs pair d p a b c late h =
    let m = (c d).0 in
    let n = (c d).1 in
    elim (h pair d p a b) [
      | inl e ↦ elim e [ inl k ↦ k | inr k ↦ absurd (omega (arith, ints)) ]
      | inr e ↦ elim e [ inl k ↦ absurd (omega (arith, ints)) | inr k ↦ absurd (omega (arith, ints)) ]
    ]

-- and they cannot overlap in both
pub none_of : (xs : List ℤ) (ps qs : List Span) (pair : Pair) (d : Span) → AreBoxes ps qs pair → ArePresent xs ps pair d → ArePresent xs qs pair d → ClashesAt xs ps pair → ClashesAt xs qs pair → AreDisjoint xs ps qs → ⊥
none_of xs ps qs pair d p a b c e h =
    let m = (c d).0 in
    let n = (c d).1 in
    let v = (e d).0 in
    let w = (e d).1 in
    elim (h pair d p a b) [
      | inl f ↦ elim f [ inl k ↦ omega (arith, ints) | inr k ↦ omega (arith, ints) ]
      | inr f ↦ elim f [ inl k ↦ omega (arith, ints) | inr k ↦ omega (arith, ints) ]
    ]

-- where boxes are apart, at values that a store leaves, one comes before another in the first direction
abbrev pub BoxComesBefore : Trail → List Span → List Span → Pair → Type 0
BoxComesBefore s ps qs pair = (xs : List ℤ) (d : Span) → IsAdmitted s.first s.entries xs → AreDisjoint xs ps qs → IsBefore xs (get_or ps pair.before d) (get_or ps pair.after d)

pub no_span : Span
no_span = record { start = 0; end = 0; size = 0; presence = []; length = None }

-- what was seen of one direction
module _ (s : Trail) (v : Direction) (is : IsDirection s v) where
  pub clashes_seen : (pair : Pair) → IsPair (length v.spans) pair → Overlap v.seen.items pair → (xs : List ℤ) → IsAdmitted s.first s.entries xs → ClashesAt xs v.spans pair
  clashes_seen pair p o xs a = λ d.
      let m = start_most s v.spans v.seen.items is.spans is.seen xs a pair.before d p.before in
      let n = end_least s v.spans v.seen.items is.spans is.seen xs a pair.after d p.after in
      let k = start_most s v.spans v.seen.items is.spans is.seen xs a pair.after d p.after in
      let l = end_least s v.spans v.seen.items is.spans is.seen xs a pair.before d p.before in
      let f = o.forth in
      let g = o.back in
      (omega (arith, ints), omega (arith, ints))

  late_seen : (pair : Pair) → IsPair (length v.spans) pair → IsLate v.seen.items pair → (xs : List ℤ) (d : Span) → IsAdmitted s.first s.entries xs → start_at xs (get_or v.spans pair.before d) <ℤ end_at xs (get_or v.spans pair.after d)
  late_seen pair p o xs d a =
      let m = start_most s v.spans v.seen.items is.spans is.seen xs a pair.before d p.before in
      let n = end_least s v.spans v.seen.items is.spans is.seen xs a pair.after d p.after in
      omega (arith, ints)

  present_seen : (k : ℕ) → k < length v.spans → IsTrue (get_or v.seen.items k no_seen).presence.sure → (xs : List ℤ) (d : Span) → IsAdmitted s.first s.entries xs → is_present xs (get_or v.spans k d) ≡ true
  present_seen k l t xs d a = surely s v.spans v.seen.items is.spans is.seen xs a k d l t

  -- the one atom of a span that may be false makes it present
  pub last_makes : (k m : ℕ) (d : Span) (e : Atom) (us : List Atom) (u : Atom) → k < length v.spans → us ≡ (get_or v.spans k d).presence → m < length us → m ≡ (get_or v.seen.items k no_seen).presence.last → u ≡ get_or us m e → MakesPresent s v.spans k u
  last_makes k m d e us u l same n last is-u = record {
    subject = subst (λ (w : Atom). w.subject < length s.first) (sym there) ((is.spans k d l).presence m e inside);
    small = subst IsSmallAtom (sym there) (literals_small s.first (get_or v.spans k d).presence (is.spans k d l).literals m e inside);
    present = λ xs f a t. subst (λ (p : Span). is_present xs p ≡ true) (get_or_default v.spans k d f l)
        (all_hold xs (get_or v.spans k d).presence (λ j g q. held xs a j g q (subst (λ (w : Atom). atom_holds xs w ≡ true) there t) (same_place j m)));
  }
    where
      inside : m < length (get_or v.spans k d).presence
      inside = subst (λ (bs : List Atom). m < length bs) same n

      there : u ≡ get_or (get_or v.spans k d).presence m e
      there = is-u ∙ ap (λ (bs : List Atom). get_or bs m e) same

      same_place : (i j : ℕ) → (i ≡ j) ⊎ (i ≢ j)
      same_place zero zero = inl refl
      same_place zero (suc j) = inr (λ g. absurd (omega (arith, g)))
      same_place (suc i) zero = inr (λ g. absurd (omega (arith, g)))
      same_place (suc i) (suc j) = elim (same_place i j) [ inl g ↦ inl (ap (λ (n : ℕ). suc n) g) | inr g ↦ inr (λ q. g (omega (arith, q))) ]

      held : (xs : List ℤ) → IsAdmitted s.first s.entries xs → (j : ℕ) (f : Atom) → j < length (get_or v.spans k d).presence → atom_holds xs (get_or (get_or v.spans k d).presence m e) ≡ true → ((j ≡ m) ⊎ (j ≢ m)) → atom_holds xs (get_or (get_or v.spans k d).presence j f) ≡ true
      held xs a j f q t (inl g) = subst (λ (i : ℕ). atom_holds xs (get_or (get_or v.spans k d).presence i f) ≡ true) (sym g) (subst (λ (w : Atom). atom_holds xs w ≡ true) (get_or_default (get_or v.spans k d).presence m e f inside) t)
      held xs a j f q t (inr g) =
          let p = (zip_at (IsSpanSeen s) v.spans v.seen.items k d no_seen is.seen l).presence.others (omega (arith, last, inside)) j f q (λ i. g (i ∙ sym last)) in
          p (value_at xs (get_or (get_or v.spans k d).presence j f).subject) (a (get_or (get_or v.spans k d).presence j f).subject ((is.spans k d l).presence j f q))

  -- so does any atom where it is surely present
  pub sure_makes : (k : ℕ) (u : Atom) → k < length v.spans → (get_or v.seen.items k no_seen).presence.sure ≡ true → u.subject < length s.first → IsSmallAtom u → MakesPresent s v.spans k u
  sure_makes k u l t i j = record { subject = i; small = j; present = λ xs d a h. present_seen k l t xs d a }

-- what was seen of both
module _ (s : Trail) (v w : Direction) (is : IsDirection s v) (has : IsDirection s w) (pair : Pair) (p : AreBoxes v.spans w.spans pair) where
  present_along : IsSureBox v.seen.items w.seen.items pair.before → IsSureBox v.seen.items w.seen.items pair.after → (xs : List ℤ) (d : Span) → IsAdmitted s.first s.entries xs → ArePresent xs v.spans pair d
  present_along e f xs d a = record { before = present_seen s v is pair.before p.along.before e.along xs d a; after = present_seen s v is pair.after p.along.after f.along xs d a }

  present_across : IsSureBox v.seen.items w.seen.items pair.before → IsSureBox v.seen.items w.seen.items pair.after → (xs : List ℤ) (d : Span) → IsAdmitted s.first s.entries xs → ArePresent xs w.spans pair d
  present_across e f xs d a = record { before = present_seen s w has pair.before p.across.before e.across xs d a; after = present_seen s w has pair.after p.across.after f.across xs d a }

  pub box_comes : Overlap w.seen.items pair → IsSureBox v.seen.items w.seen.items pair.before → IsSureBox v.seen.items w.seen.items pair.after → IsLate v.seen.items pair → BoxComesBefore s v.spans w.spans pair
  box_comes o e f late = λ xs d a h. first_of xs v.spans w.spans pair d p (present_along e f xs d a) (present_across e f xs d a) (clashes_seen s w has pair p.across o xs a) (late_seen s v is pair p.along late xs d a) h

  pub leaves_none : Overlap v.seen.items pair → Overlap w.seen.items pair → IsSureBox v.seen.items w.seen.items pair.before → IsSureBox v.seen.items w.seen.items pair.after → (b : Body) → KeepsApart b v.spans w.spans → IsImpossible b s
  leaves_none m n e f = λ b keeps. record {
    at = λ xs a o. none_of xs v.spans w.spans pair no_span p (present_along e f xs no_span a) (present_across e f xs no_span a) (clashes_seen s v is pair p.along m xs a) (clashes_seen s w has pair p.across n xs a) (keeps xs o);
  }

  pub box_absent : Overlap v.seen.items pair → Overlap w.seen.items pair → IsSureBox v.seen.items w.seen.items pair.after → LacksBox s v.spans w.spans pair.before
  box_absent m n f = λ xs d a h e g.
      none_of xs v.spans w.spans pair d p
      (record { before = e; after = present_seen s v is pair.after p.along.after f.along xs d a })
      (record { before = g; after = present_seen s w has pair.after p.across.after f.across xs d a })
      (clashes_seen s v is pair p.along m xs a) (clashes_seen s w has pair p.across n xs a) h

pub comes_swapped : (s : Trail) (v w : Direction) (is : IsDirection s v) (has : IsDirection s w) (pair turn : Pair) → turn ≡ record { before = pair.after; after = pair.before } → AreBoxes v.spans w.spans pair → Overlap w.seen.items pair
    → IsSureBox v.seen.items w.seen.items pair.before → IsSureBox v.seen.items w.seen.items pair.after → IsLate v.seen.items turn → BoxComesBefore s v.spans w.spans turn
comes_swapped s v w is has pair turn same p o e f late =
    subst (λ (q : Pair). IsLate v.seen.items q → BoxComesBefore s v.spans w.spans q) (sym same)
    (λ l. box_comes s v w is has (record { before = pair.after; after = pair.before }) (swapped_boxes v.spans w.spans pair p) (swapped_overlap w.seen.items pair o) f e l) late

pub absent_swapped : (s : Trail) (v w : Direction) (is : IsDirection s v) (has : IsDirection s w) (pair turn : Pair) → turn ≡ record { before = pair.after; after = pair.before } → AreBoxes v.spans w.spans pair → Overlap v.seen.items pair → Overlap w.seen.items pair
    → IsSureBox v.seen.items w.seen.items pair.before → LacksBox s v.spans w.spans turn.before
absent_swapped s v w is has pair turn same p m n e =
    subst (λ (q : Pair). LacksBox s v.spans w.spans q.before) (sym same)
    (box_absent s v w is has (record { before = pair.after; after = pair.before }) (swapped_boxes v.spans w.spans pair p) (swapped_overlap v.seen.items pair m) (swapped_overlap w.seen.items pair n) e)

-- a box that cannot be present makes the one atom false that may be so
pub box_denied : (s : Trail) (ps qs : List Span) (k : ℕ) (u target : Atom) (b : Body) → MakesBoxPresent s ps qs k u → LacksBox s ps qs k → target.subject ≡ u.subject → ((x : ℤ) → meets target.op target.value x ≡ not (meets u.op u.value x)) → KeepsApart b ps qs → IsGiven b s target
box_denied s ps qs k u target b makes absent about negated keeps = record {
  subject = subst (λ (i : ℕ). i < length s.first) (sym about) makes.along.subject;
  at = λ xs a o. denies (atom_holds xs target) (atom_holds xs u) (ap (λ (i : ℕ). meets target.op target.value (value_at xs i)) about ∙ negated (value_at xs u.subject))
      (λ t. absent xs no_span a (keeps xs o) (makes.along.present xs no_span a t) (makes.across.present xs no_span a t));
}

pub adds_then : (v w : Direction) (old mid new : List Narrowing) → AddsGiven v w old mid → AddsGiven v w mid new → AddsGiven v w old new
adds_then v w old mid new f g = λ s is has b k h. g s is has b k (f s is has b k h)

pub adds_proposed : (v w : Direction) (t : Option Atom) (old new : List Narrowing) → ((s : Trail) → IsDirection s v → IsDirection s w → (b : Body) → KeepsApart b v.spans w.spans → IfSome t (IsGiven b s)) → Proposes t old new → AddsGiven v w old new
adds_proposed v w t old new g e = λ s is has b k. gives_proposed b s t old new (g s is has b k) e

pub adds_ordered : (v w : Direction) (pair : Pair) (old new : List Narrowing) → ((s : Trail) → IsDirection s v → IsDirection s w → BoxComesBefore s v.spans w.spans pair) → AddsOrdered v.spans v.seen.items pair old new → AddsGiven v w old new
adds_ordered v w pair old new order h = λ s is has b keeps. h s is b (λ xs d a o. order s is has xs d a (keeps xs o))

-- what is as it was seen is known
pub direction_known : (s : Trail) (v : Direction) → IsDirection s v → IsKnown v
direction_known s v is = are_known s v.spans v.seen.items is

pub allows_more : (vs ws : List Seen) (j n : ℕ) → AllowsBoxes vs ws j n → AreBoxesAllowed vs ws (pair_of_places j n) → AllowsBoxes vs ws j (n + 1)
allows_more vs ws j n h g = λ i l. elim (below_or_same i n l) [
  | inl k ↦ h i k
  | inr k ↦ subst (λ (m : ℕ). AreBoxesAllowed vs ws (pair_of_places j m)) (sym k) g
]

pub all_more : (vs ws : List Seen) (n : ℕ) → AreAllAllowed vs ws n → AllowsBoxes vs ws n n → AreAllAllowed vs ws (n + 1)
all_more vs ws n h g = λ j l. elim (below_or_same j n l) [
  | inl k ↦ h j k
  | inr k ↦ subst (λ (m : ℕ). AllowsBoxes vs ws m m) (sym k) g
]

-- two of so many boxes
pub boxes_in : (ps qs : List Span) (count : ℕ) (pair : Pair) → IsCount (length ps) (length qs) count → IsPair count pair → AreBoxes ps qs pair
boxes_in ps qs count pair n p = record {
  along = record { before = n.along pair.before p.before; after = n.along pair.after p.after; apart = p.apart };
  across = record { before = n.across pair.before p.before; after = n.across pair.after p.after; apart = p.apart };
}

-- spans of which none may precede the other overlap, as far as their ends tell
must_overlap : (s : Trail) (v : Direction) → IsDirection s v → (j i : ℕ) (d : Span) → j < length v.spans → i < length v.spans → (MayBeOrdered s (get_or v.spans i d) (get_or v.spans j d) → ⊥) → Overlap v.seen.items (pair_of_places j i)
must_overlap s v is j i d l m never = record {
  forth = elim (le_or_less (get_or v.seen.items j no_seen).times.end_low (get_or v.seen.items i no_seen).times.start_high) [
    | inl k ↦ absurd (never (may_be_ordered s v.spans v.seen.items is.seen i j d m l (inr k)))
    | inr less ↦ less
  ];
  back = elim (le_or_less (get_or v.seen.items i no_seen).times.end_low (get_or v.seen.items j no_seen).times.start_high) [
    | inl k ↦ absurd (never (may_be_ordered s v.spans v.seen.items is.seen i j d m l (inl k)))
    | inr less ↦ less
  ];
}

pub turned_sure : {vs ws : List Seen} {k : ℕ} → IsSureBox vs ws k → IsSureBox ws vs k
turned_sure h = record { along = h.across; across = h.along }

-- where all is fixed
module _ (s : Trail) (ps : List Span) (vs : List Seen) (seen : AllZip (IsSpanSeen s) ps vs) (fixed : All (IsFixedNow s) (span_subjects ps)) (xs : List ℤ) (opened : AreOpen s xs (span_subjects ps)) where
  apart_fixed : (i j : ℕ) (d : Span) → i < length ps → j < length ps → MayBeApart vs (pair_of_places j i) → Either xs (get_or ps i d) (get_or ps j d)
  apart_fixed i j d l m h =
      let a = start_fixed s ps vs seen fixed xs opened i d l in
      let b = end_fixed s ps vs seen fixed xs opened i d l in
      let e = start_fixed s ps vs seen fixed xs opened j d m in
      let f = end_fixed s ps vs seen fixed xs opened j d m in
      elim h [ inl q ↦ inr (omega (arith, ints)) | inr q ↦ inl (omega (arith, ints)) ]

module _ (s : Trail) (v w : Direction) (is : IsDirection s v) (has : IsDirection s w) (count : ℕ) (n : IsCount (length v.spans) (length w.spans) count) (allowed : AreAllAllowed v.seen.items w.seen.items count) where
  module _ (fixed : All (IsFixedNow s) (span_subjects v.spans ++ span_subjects w.spans)) (xs : List ℤ) (opened : AreOpen s xs (span_subjects v.spans ++ span_subjects w.spans)) where
    fixed_along : All (IsFixedNow s) (span_subjects v.spans)
    fixed_along = All-append_left (IsFixedNow s) (span_subjects v.spans) (span_subjects w.spans) fixed

    fixed_across : All (IsFixedNow s) (span_subjects w.spans)
    fixed_across = All-append_right (IsFixedNow s) (span_subjects v.spans) (span_subjects w.spans) fixed

    opened_along : AreOpen s xs (span_subjects v.spans)
    opened_along = All-append_left (λ i. IsOpenTo s i (value_at xs i)) (span_subjects v.spans) (span_subjects w.spans) opened

    opened_across : AreOpen s xs (span_subjects w.spans)
    opened_across = All-append_right (λ i. IsOpenTo s i (value_at xs i)) (span_subjects v.spans) (span_subjects w.spans) opened

    sure_box : (k : ℕ) (d : Span) → k < length v.spans → k < length w.spans → is_present xs (get_or v.spans k d) ≡ true → is_present xs (get_or w.spans k d) ≡ true → IsSureBox v.seen.items w.seen.items k
    sure_box k d l m e f = record { along = sure s v.spans v.seen.items is.seen fixed_along xs opened_along k d l e; across = sure s w.spans w.seen.items has.seen fixed_across xs opened_across k d m f }

    all_disjoint : AllDisjoint xs v.spans w.spans
    all_disjoint = λ i j d l m o a b e f.
        let li : i < length v.spans = omega arith in
        let oi : i < length w.spans = omega arith in
        elim (allowed j (n.all j m o) i l (sure_box j d m o e f) (sure_box i d li oi a b)) [
          | inl h ↦ inl (apart_fixed s v.spans v.seen.items is.seen fixed_along xs opened_along i j d li m h)
          | inr h ↦ inr (apart_fixed s w.spans w.seen.items has.seen fixed_across xs opened_across i j d oi o h)
        ]

  sure_of : (k : ℕ) (d : Span) → IsPresentBox s v.spans w.spans k d → IsSureBox v.seen.items w.seen.items k
  sure_of k d h = record { along = sure_at s v.spans v.seen.items is.seen k d h.along; across = sure_at s w.spans w.seen.items has.seen k d h.across }

  separate_at : (i j : ℕ) (d : Span) → i < j → IsPresentBox s v.spans w.spans i d → IsPresentBox s v.spans w.spans j d → MayBeOrdered s (get_or v.spans i d) (get_or v.spans j d) ⊎ MayBeOrdered s (get_or w.spans i d) (get_or w.spans j d)
  separate_at i j d l a b = elim (allowed j (n.all j b.along.within b.across.within) i l (sure_of j d b) (sure_of i d a)) [
    | inl h ↦ inl (turned_order s (get_or v.spans j d) (get_or v.spans i d) (may_be_ordered s v.spans v.seen.items is.seen j i d b.along.within a.along.within h))
    | inr h ↦ inr (turned_order s (get_or w.spans j d) (get_or w.spans i d) (may_be_ordered s w.spans w.seen.items has.seen j i d b.across.within a.across.within h))
  ]

  pub separate : HasSeparateBoxes s v.spans w.spans
  separate = record {
    apart = λ i j d differ a b. elim (less_or i j differ) [
      | inl l ↦ separate_at i j d l a b
      | inr l ↦ elim (separate_at j i d l b a) [
        | inl h ↦ inl (turned_order s (get_or v.spans j d) (get_or v.spans i d) h)
        | inr h ↦ inr (turned_order s (get_or w.spans j d) (get_or w.spans i d) h)
      ]
    ];
  }

  turned_box : (k : ℕ) (d : Span) → IsPresentBox s w.spans v.spans k d → IsPresentBox s v.spans w.spans k d
  turned_box k d h = record { along = h.across; across = h.along }

  module _ (settled : AreAllSettled v w count s) where
    follow_along : FollowAlong s v.spans w.spans
    follow_along = record {
      follow = λ i j d differ a b no. elim (less_or i j differ) [
        | inl l ↦ ((settled j (n.all j b.along.within b.across.within) i l).along (must_overlap s w has j i d b.across.within a.across.within no) (sure_of j d b) (sure_of i d a) (sure_of j d b).along (sure_of i d a).along d).1
        | inr l ↦ ((settled i (n.all i a.along.within a.across.within) j l).along (must_overlap s w has i j d a.across.within b.across.within (λ o. no (turned_order s (get_or w.spans j d) (get_or w.spans i d) o))) (sure_of i d a) (sure_of j d b) (sure_of i d a).along (sure_of j d b).along d).0
      ];
    }

    follow_across : FollowAlong s w.spans v.spans
    follow_across = record {
      follow = λ i j d differ a' b' no.
          let a = turned_box i d a' in
          let b = turned_box j d b' in
          elim (less_or i j differ) [
            | inl l ↦ ((settled j (n.all j b.along.within b.across.within) i l).across (must_overlap s v is j i d b.along.within a.along.within no) (turned_sure (sure_of j d b)) (turned_sure (sure_of i d a)) (sure_of j d b).across (sure_of i d a).across d).1
            | inr l ↦ ((settled i (n.all i a.along.within a.across.within) j l).across (must_overlap s v is i j d a.along.within b.along.within (λ o. no (turned_order s (get_or v.spans j d) (get_or v.spans i d) o))) (turned_sure (sure_of i d a)) (turned_sure (sure_of j d b)) (sure_of i d a).across (sure_of j d b).across d).0
          ];
    }

    pub boxes_at_rest : IsAtRest (NoOverlap2d v.spans w.spans) s
    boxes_at_rest = record { decided = λ fixed xs opened. no_overlap_2d xs v.spans w.spans (all_disjoint fixed xs opened); strong = record { separate = separate; in_x = follow_along; in_y = follow_across } }

-- what fits are two lists of spans
pub are_along : (first : Domains) (ps qs : List Span) → IsFittingRule first (NoOverlap2d ps qs) → AreSpans first ps
are_along first ps qs h = are_spans first ps (record {
  subjects = All-append_left (λ i. i < length first) (span_subjects ps) (span_subjects qs) h.subjects;
  sound = All-append_left (λ i. AreIntervals (domain_at first i)) (span_subjects ps) (span_subjects qs) h.sound;
  body = h.body.x_fit;
})

pub are_across : (first : Domains) (ps qs : List Span) → IsFittingRule first (NoOverlap2d ps qs) → AreSpans first qs
are_across first ps qs h = are_spans first qs (record {
  subjects = All-append_right (λ i. i < length first) (span_subjects ps) (span_subjects qs) h.subjects;
  sound = All-append_right (λ i. AreIntervals (domain_at first i)) (span_subjects ps) (span_subjects qs) h.sound;
  body = h.body.y_fit;
})

-- what is compared of two spans that were seen
module _ (v w : Seen) (vs : List Seen) (pair : Pair) (is : v ≡ get_or vs pair.before no_seen) (has : w ≡ get_or vs pair.after no_seen) where
  pub late_tells : v.times.start_high <ℤ w.times.end_low → IsLate vs pair
  late_tells l = subst (λ (x : Seen). x.times.start_high <ℤ (get_or vs pair.after no_seen).times.end_low) is (subst (λ (y : Seen). v.times.start_high <ℤ y.times.end_low) has l)

  pub open_tells : w.times.end_low ≤ℤ v.times.start_high → IsOpenOrder vs pair
  open_tells l = subst (λ (x : Seen). (get_or vs pair.after no_seen).times.end_low ≤ℤ x.times.start_high) is (subst (λ (y : Seen). y.times.end_low ≤ℤ v.times.start_high) has l)
