-- What bounds say of a demand at a store.
use Rattle.std.proofs.Common.{ℕ, suc, ◌+◌, ◌<◌, ◌^◌, ◌-◌, ℤ, pos, negsuc, ◌≤ℤ◌, ◌<ℤ◌, ◌+ℤ◌, Bool, true, false, true≢false, Option, Some, None, List, [], ◌∷◌, ◌++◌, length, get_or, take, ◌≡◌, ◌⊎◌, inl, inr, refl, sym, ◌∙◌, ap, subst, arith, All, IfSome}
use Rattle.std.specs.Prelude.{int_le, ◌||◌, not, Contains}
use Rattle.std.specs.List.{AllZip, list_any}
use Rattle.std.proofs.lemmas.Int.{ints}
use Rattle.cps_propagate.specs.Reasons.{SpeaksOf}
use Rattle.cps_propagate.proofs.Speaking.{speaks_none, speaks_push}
use Rattle.std.proofs.lemmas.List.{take_more}
use Rattle.std.proofs.lemmas.List.Elements.{All-nil, All-cons, All-head, All-tail, All-push, All-contains_itself}
use Rattle.cps_domain.specs.Window.{is_among, within, RisesFrom}
use Rattle.cps_domain.proofs.Tests.{true_le, first_of_both, second_of_both}
use Rattle.cps_literal.specs.declared.atom.Atom.{Atom}
use Rattle.cps_literal.specs.declared.atom.Op.TheVariants.{Le, Ge}
use Rattle.cps_literal.specs.Truth.{value_at, atom_holds, meets}
use Rattle.cps_instance.specs.Parts.{values_at}
use Rattle.cps_instance.specs.Terms.{AreIntervals, domain_at}
use Rattle.cps_instance.specs.Tasks.{HoldsBody, subjects_of_body}
use Rattle.cps_trail.specs.Trail.{Trail, Domains, IsAdmitted}
use Rattle.cps_propagate.specs.Now.{IsOpenTo, IsFixedNow, AreOpen}
use Rattle.cps_propagate.specs.Strength.{IsStrongBody}
use Rattle.cps_rule.specs.declared.rule.Narrowing.{Narrowing}
use Rattle.cps_rule.specs.Rules.{IsFittingRule, IsGiven, IsImpossible, IsAtRest, IsFact, AreFacts, IsExplained, IsRefuted}
use Rattle.cps_p_arith.specs.declared.ends.Ends.{Ends}
use Rattle.cps_p_arith.specs.declared.bounds.Bounds.{Bounds}
use Rattle.cps_p_arith.specs.declared.bounds.Demand.{Demand}
use Rattle.cps_p_arith.specs.declared.relation.Relation.{Relation}
use Rattle.cps_p_arith.specs.declared.relation.Relation.TheVariants.{Quotient, Remainder, Product, Greatest}
use Rattle.cps_p_arith.specs.Ranges.{IsIn, IsAt}
use Rattle.cps_p_arith.specs.Demands.{Relates, body_by, body_of, AreEndsNow, IsHeldIn, AreHeldEach, HasKnownSubjects, AreMeasured, LieWithinBounds, AreFixedAt, IsDemandMissed, IsComputedBy, IsHeldPlace, IsImplied, AreImplied, Needs, NeedsWithin, SupportsEnds, SupportsEach, RefutesDemand, AreSoundFor, AddsNarrowing}
use Rattle.cps_p_arith.proofs.Zips.{zip_at, zip_both}

met_by : (k : Relation) (t : ℕ) (es : List ℕ) (xs : List ℤ) → Relates k (value_at xs t) (values_at xs es) → HoldsBody (body_by k t es) xs
met_by Quotient t es xs h = h
met_by Remainder t es xs h = h
met_by Product t es xs h = h
met_by Greatest t es xs h = h

holds_by : (k : Relation) (t : ℕ) (es : List ℕ) (xs : List ℤ) → HoldsBody (body_by k t es) xs → Relates k (value_at xs t) (values_at xs es)
holds_by Quotient t es xs h = h
holds_by Remainder t es xs h = h
holds_by Product t es xs h = h
holds_by Greatest t es xs h = h

pub subjects_by : (k : Relation) (t : ℕ) (es : List ℕ) → subjects_of_body (body_by k t es) ≡ t ∷ es
subjects_by Quotient t es = refl
subjects_by Remainder t es = refl
subjects_by Product t es = refl
subjects_by Greatest t es = refl

-- the parts of what a body that fits has
pub known_of : (first : Domains) (d : Demand) → IsFittingRule first (body_of d) → HasKnownSubjects first d
known_of first d h =
    let all : All (λ i. i < length first) (d.target ∷ d.exprs.items) = subst (All (λ i. i < length first)) (subjects_by d.relation d.target d.exprs.items) h.subjects in
    record { target = All-head (λ i. i < length first) d.target d.exprs.items all; exprs = All-tail (λ i. i < length first) d.target d.exprs.items all }

pub sound_of : (first : Domains) (d : Demand) → IsFittingRule first (body_of d) → AreSoundFor first d
sound_of first d h =
    let all : All (λ i. AreIntervals (domain_at first i)) (d.target ∷ d.exprs.items) = subst (All (λ i. AreIntervals (domain_at first i))) (subjects_by d.relation d.target d.exprs.items) h.sound in
    record { target = All-head (λ i. AreIntervals (domain_at first i)) d.target d.exprs.items all; exprs = All-tail (λ i. AreIntervals (domain_at first i)) d.target d.exprs.items all }

all_known : (first : Domains) (d : Demand) → HasKnownSubjects first d → All (λ i. i < length first) (d.target ∷ d.exprs.items)
all_known first d k = All-cons (λ i. i < length first) d.target d.exprs.items k.target k.exprs

-- values that the store leaves lie between the bounds
in_hull : (s : Trail) (i : ℕ) (e : Ends) (x : ℤ) → AreEndsNow s i e → IsOpenTo s i x → IsIn e x
in_hull s i e x h o = record { from = h.least x o; to = h.greatest x o }

at_hull : (s : Trail) (i : ℕ) (e : Ends) (x : ℤ) → AreEndsNow s i e → IsFixedNow s i → IsOpenTo s i x → IsAt e x
at_hull s i e x h f o = record { from = f e.low x h.low o; to = f e.high x h.high o }

each_in : (s : Trail) (xs : List ℤ) (is : List ℕ) (es : List Ends) → AllZip (AreEndsNow s) is es → All (λ i. IsOpenTo s i (value_at xs i)) is → AreHeldEach xs is es
each_in s xs [] [] h o = tt
each_in s xs [] (e ∷ es) h o = absurd h
each_in s xs (i ∷ is) [] h o = absurd h
each_in s xs (i ∷ is) (e ∷ es) h o =
    (in_hull s i e (value_at xs i) h.0 (All-head (λ i. IsOpenTo s i (value_at xs i)) i is o), each_in s xs is es h.1 (All-tail (λ i. IsOpenTo s i (value_at xs i)) i is o))

each_at : (s : Trail) (xs : List ℤ) (is : List ℕ) (es : List Ends) → AllZip (AreEndsNow s) is es → All (IsFixedNow s) is → All (λ i. IsOpenTo s i (value_at xs i)) is → AllZip (λ i e. IsAt e (value_at xs i)) is es
each_at s xs [] [] h f o = tt
each_at s xs [] (e ∷ es) h f o = absurd h
each_at s xs (i ∷ is) [] h f o = absurd h
each_at s xs (i ∷ is) (e ∷ es) h f o = (
  at_hull s i e (value_at xs i) h.0 (All-head (IsFixedNow s) i is f) (All-head (λ i. IsOpenTo s i (value_at xs i)) i is o),
  each_at s xs is es h.1 (All-tail (IsFixedNow s) i is f) (All-tail (λ i. IsOpenTo s i (value_at xs i)) i is o),
)

pub held_at : (s : Trail) (d : Demand) (b : Bounds) (xs : List ℤ) → AreMeasured s d b → AreOpen s xs (d.target ∷ d.exprs.items) → LieWithinBounds b d xs
held_at s d b xs m o = record {
  target = in_hull s d.target b.target (value_at xs d.target) m.target (All-head (λ i. IsOpenTo s i (value_at xs i)) d.target d.exprs.items o);
  members = each_in s xs d.exprs.items b.members.items m.members (All-tail (λ i. IsOpenTo s i (value_at xs i)) d.target d.exprs.items o);
}

fixed_at : (s : Trail) (d : Demand) (b : Bounds) (xs : List ℤ) → AreMeasured s d b → All (IsFixedNow s) (d.target ∷ d.exprs.items) → AreOpen s xs (d.target ∷ d.exprs.items) → AreFixedAt b d xs
fixed_at s d b xs m f o = record {
  target = at_hull s d.target b.target (value_at xs d.target) m.target (All-head (IsFixedNow s) d.target d.exprs.items f) (All-head (λ i. IsOpenTo s i (value_at xs i)) d.target d.exprs.items o);
  members = each_at s xs d.exprs.items b.members.items m.members (All-tail (IsFixedNow s) d.target d.exprs.items f) (All-tail (λ i. IsOpenTo s i (value_at xs i)) d.target d.exprs.items o);
}

open_admitted : (s : Trail) (xs : List ℤ) (is : List ℕ) → All (λ i. i < length s.first) is → IsAdmitted s.first s.entries xs → AreOpen s xs is
open_admitted s xs is k a j e l = a (get_or is j e) (k j e l)

-- what a look says
pub at_rest : (s : Trail) (d : Demand) (b : Bounds) → AreMeasured s d b → IsComputedBy b d → IsStrongBody (body_of d) s → IsAtRest (body_of d) s
at_rest s d b m c strong =
    let e = subjects_by d.relation d.target d.exprs.items in
    record {
      decided = λ fixed xs o. met_by d.relation d.target d.exprs.items xs (c.at xs (fixed_at s d b xs m (subst (All (IsFixedNow s)) e fixed) (subst (AreOpen s xs) e o)));
      strong = strong;
    }

pub impossible : (s : Trail) (d : Demand) (b : Bounds) → AreMeasured s d b → HasKnownSubjects s.first d → IsDemandMissed b d → IsImpossible (body_of d) s
impossible s d b m k h = record {
  at = λ xs a holds. h.at xs (held_at s d b xs m (open_admitted s xs (d.target ∷ d.exprs.items) (all_known s.first d k) a)) (holds_by d.relation d.target d.exprs.items xs holds);
}

pub given : (s : Trail) (d : Demand) (b : Bounds) (ns : List Narrowing) → AreMeasured s d b → HasKnownSubjects s.first d → AreImplied b d ns → All (λ n. IsGiven (body_of d) s n.target) ns
given s d b ns m k h j e l = record {
  subject = (h j e l).named (length s.first) (all_known s.first d k);
  at = λ xs a holds. (h j e l).at xs (held_at s d b xs m (open_admitted s xs (d.target ∷ d.exprs.items) (all_known s.first d k) a)) (holds_by d.relation d.target d.exprs.items xs holds);
}

-- the places of a demand
pub is_member : (b : Bounds) (d : Demand) (k : ℕ) (i : ℕ) (e : Ends) → k < length d.exprs.items → length b.members.items ≡ length d.exprs.items → i ≡ get_or d.exprs.items k i → e ≡ get_or b.members.items k e
    → IsHeldPlace b d (record { subject = i; ends = e })
is_member b d k i e l same is es = record {
  named = λ m a. rw is (a (suc k) i (omega arith));
  held = λ xs h. rw (is, es) (zip_at (IsHeldIn xs) d.exprs.items b.members.items k i e h.members l);
}

-- facts
pub all_but_last : {X : Type 0} (P : X → Type 0) (xs : List X) (x : X) → All P (xs ++ x ∷ []) → All P xs
all_but_last P [] x h = All-nil P
all_but_last P (y ∷ ys) x h = All-cons P y ys (All-head P y (ys ++ x ∷ []) h) (all_but_last P ys x (All-tail P y (ys ++ x ∷ []) h))

pub all_last : {X : Type 0} (P : X → Type 0) (xs : List X) (x : X) → All P (xs ++ x ∷ []) → P x
all_last P [] x h = All-head P x [] h
all_last P (y ∷ ys) x h = all_last P ys x (All-tail P y (ys ++ x ∷ []) h)

pub one_more : (s : Trail) (p : Option Atom) (u : Atom) (fs : List Atom) → AreFacts s fs → IsFact s u → Needs s p u fs (fs ++ u ∷ [])
one_more s p u fs h f = record {
  facts = All-push (IsFact s) fs u h f;
  keeps = λ xs t. all_but_last (λ v. atom_holds xs v ≡ true) fs u t;
  holds = λ xs t o. all_last (λ v. atom_holds xs v ≡ true) fs u t;
  about = λ is mine before. speaks_push is fs u before mine;
}

-- a test is true or false
pub either : (b : Bool) → (b ≡ true) ⊎ (b ≡ false)
either true = inl refl
either false = inr refl

-- values of intervals that rise lie between the least and the greatest that there are
among_inside : (low : ℤ) (ps : List (ℤ × ℤ)) (x : ℤ) → RisesFrom low ps → is_among ps x ≡ true → (low <ℤ x) × (x <ℤ pos (2 ^ 62))
among_inside low [] x r h = absurd (true≢false (sym h))
among_inside low (p ∷ ps) x r h = elim (either (within x p)) [
  | inl y ↦ (
      let a = true_le p.0 x (first_of_both (int_le p.0 x) (int_le x p.1) y) in
      let b = true_le x p.1 (second_of_both (int_le p.0 x) (int_le x p.1) y) in
      let c = r.0 in
      let d = r.2 in
      (omega (arith, ints), omega (arith, ints)))
  | inr n ↦ (
      let rest : list_any (within x) ps ≡ true = ap (λ b. b || list_any (within x) ps) (sym n) ∙ h in
      let z = among_inside (p.1 +ℤ pos 1) ps x r.3 rest in
      let a = z.0 in
      let c = r.0 in
      let d = r.1 in
      (omega (arith, ints), z.1))
]

le_true : (a b : ℤ) → a ≤ℤ b → int_le a b ≡ true
le_true a b h = grind (arith, ints)

pub free_low : (s : Trail) (p : Option Atom) (u : Atom) (fs : List Atom) → AreFacts s fs → u.subject < length s.first → u.op ≡ Ge → AreIntervals (domain_at s.first u.subject) → u.value ≤ℤ negsuc (2 ^ 62 - 1)
    → NeedsWithin s p u fs fs
free_low s p u fs h known op sound low = record {
  facts = h;
  keeps = λ xs t. t;
  holds = λ xs w t o. rw op (le_true u.value (value_at xs u.subject) (let i = (among_inside (negsuc (2 ^ 62 - 1)) (domain_at s.first u.subject) (value_at xs u.subject) sound.rising (w u.subject known)).0 in omega (arith, ints)));
  about = λ is mine before. before;
}

pub free_high : (s : Trail) (p : Option Atom) (u : Atom) (fs : List Atom) → AreFacts s fs → u.subject < length s.first → u.op ≡ Le → AreIntervals (domain_at s.first u.subject) → pos (2 ^ 62) ≤ℤ u.value
    → NeedsWithin s p u fs fs
free_high s p u fs h known op sound high = record {
  facts = h;
  keeps = λ xs t. t;
  holds = λ xs w t o. rw op (le_true (value_at xs u.subject) u.value (let i = (among_inside (negsuc (2 ^ 62 - 1)) (domain_at s.first u.subject) (value_at xs u.subject) sound.rising (w u.subject known)).1 in omega (arith, ints)));
  about = λ is mine before. before;
}

all_before : (P : ℕ → Type 0) (is : List ℕ) (k : ℕ) → k < length is → All P (take (k + 1) is) → All P (take k is)
all_before P is k l h = all_but_last P (take k is) (get_or is k 0) (subst (λ (js : List ℕ). All P js) (take_more is k 0 l) h)

all_here : (P : ℕ → Type 0) (is : List ℕ) (k d : ℕ) → k < length is → All P (take (k + 1) is) → P (get_or is k d)
all_here P is k d l h = all_last P (take k is) (get_or is k d) (subst (λ (js : List ℕ). All P js) (take_more is k d l) h)

pub supports_more : (s : Trail) (p : Option Atom) (is : List ℕ) (es : List Ends) (k : ℕ) (d : Ends) (old middle new : List Atom) → k < length is → length is ≡ length es
    → SupportsEach s p (take k is) (take k es) old middle → SupportsEnds s p (get_or is k 0) (get_or es k d) middle new → SupportsEach s p (take (k + 1) is) (take (k + 1) es) old new
supports_more s p is es k d old middle new l same h g = record {
  facts = g.facts;
  keeps = λ xs t. h.keeps xs (g.keeps xs t);
  holds = λ xs w t o. zip_both (IsHeldIn xs) is es k d l (omega arith) (h.holds xs w (g.keeps xs t) o) (g.holds xs w t o);
  about = λ js mine before. g.about js (all_here (Contains js) is k 0 l mine) (h.about js (all_before (Contains js) is k l mine) before);
}

pub supports_none : (s : Trail) (p : Option Atom) (fs : List Atom) → AreFacts s fs → SupportsEach s p [] [] fs fs
supports_none s p fs h = record { facts = h; keeps = λ xs t. t; holds = λ xs w t o. tt; about = λ js mine before. before }

pub supports_both : (s : Trail) (p : Option Atom) (i : ℕ) (e : Ends) (low high : Atom) (old middle new : List Atom) → low ≡ record { subject = i; op = Ge; value = e.low } → high ≡ record { subject = i; op = Le; value = e.high }
    → NeedsWithin s p low old middle → NeedsWithin s p high middle new → SupportsEnds s p i e old new
supports_both s p i e low high old middle new el eh a b = record {
  facts = b.facts;
  keeps = λ xs t. a.keeps xs (b.keeps xs t);
  holds = λ xs w t o. record {
    from = true_le e.low (value_at xs i) (rw el at a.holds xs w (b.keeps xs t) o);
    to = true_le (value_at xs i) e.high (rw eh at b.holds xs w t o);
  };
  about = λ is mine before. b.about is (subst (λ (u : Atom). Contains is u.subject) (sym eh) mine) (a.about is (subst (λ (u : Atom). Contains is u.subject) (sym el) mine) before);
}

pub refutes : (s : Trail) (p : Option Atom) (d : Demand) (b : Bounds) (old middle new : List Atom) → old ≡ [] → IsDemandMissed b d → SupportsEnds s p d.target b.target old middle
    → SupportsEach s p d.exprs.items b.members.items middle new → RefutesDemand s d p new
refutes s p d b old middle new none h t m = record {
  true_now = m.facts;
  speaks =
      let is = d.target ∷ d.exprs.items in
      let own : All (Contains (d.target ∷ d.exprs.items)) (d.target ∷ d.exprs.items) = All-contains_itself (d.target ∷ d.exprs.items) in
      m.about is (All-tail (Contains is) d.target d.exprs.items own) (t.about is (All-head (Contains is) d.target d.exprs.items own) (subst (λ (fs : List Atom). SpeaksOf (d.target ∷ d.exprs.items) fs) (sym none) (speaks_none is)));
  excludes = λ xs w true_at o met. h.at xs (record { target = t.holds xs w (m.keeps xs true_at) o; members = m.holds xs w true_at o }) met;
}

-- an atom follows where its opposite is refuted
pub explained : (s : Trail) (d : Demand) (u v : Atom) (fs : List Atom) → v.subject ≡ u.subject → ((x : ℤ) → meets v.op v.value x ≡ not (meets u.op u.value x)) → RefutesDemand s d (Some v) fs → IsExplained (body_of d) s u fs
explained s d u v fs same opposite r = record {
  facts = r.true_now;
  speaks = subst (λ (is : List ℕ). SpeaksOf is fs) (sym (subjects_by d.relation d.target d.exprs.items)) r.speaks;
  gives = λ xs w t holds. elim (either (atom_holds xs u)) [
    | inl met ↦ met
    | inr missed ↦ absurd (r.excludes xs w t (rw same (opposite (value_at xs u.subject) ∙ ap not missed)) (holds_by d.relation d.target d.exprs.items xs holds))
  ];
}

pub refuted : (s : Trail) (d : Demand) (fs : List Atom) → RefutesDemand s d None fs → IsRefuted (body_of d) s fs
refuted s d fs r = record {
  facts = r.true_now;
  speaks = subst (λ (is : List ℕ). SpeaksOf is fs) (sym (subjects_by d.relation d.target d.exprs.items)) r.speaks;
  excludes = λ xs w t holds. r.excludes xs w t tt (holds_by d.relation d.target d.exprs.items xs holds);
}

pub implied_more : (b : Bounds) (d : Demand) (best : Option Atom) (old new : List Narrowing) → AddsNarrowing best old new → AreImplied b d old → IfSome best (λ u. IsImplied b d u) → AreImplied b d new
implied_more b d None old new a h i = subst (AreImplied b d) (sym a) h
implied_more b d (Some u) old new a h i = subst (AreImplied b d) (sym a.2) (All-push (λ n. IsImplied b d n.target) old a.0 h (subst (IsImplied b d) (sym a.1) i))
