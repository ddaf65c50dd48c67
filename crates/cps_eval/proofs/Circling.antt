-- A walk along arcs of which no two leave one node: it comes back to its start having come by all exactly where they are a
-- single circuit.
use Rattle.std.specs.Prelude.{not, All, Contains, IsPermutation, ◌↔◌, if◌then◌else◌, MatchOption}
use Rattle.std.specs.List.{list_all}
use Rattle.std.specs.List.Sorted.{IsSortedByKey, IsSearchInRange, IsBinarySearchResult}
use Rattle.std.specs.Result.{result_ok}
use Rattle.std.specs.Ordering.{int_cmp, is_lt}
use Rattle.std.proofs.Common.{◌≡◌, ◌≢◌, ◌⊎◌, inl, inr, ℕ, zero, suc, ◌+◌, ◌<◌, ℤ, pos, ◌<ℤ◌, ◌≤ℤ◌, Bool, true, false, List, [], ◌∷◌, ◌++◌, length, drop, get_or, set, refl, sym, ◌∙◌, ap, subst, arith, append_assoc, Less, Equal, Greater, Result, Ok, Err, Option, get_or-set_same, get_or-set_other, length-set, replicate}
use Rattle.std.proofs.lemmas.Int.{ints, by_lt_z}
use Rattle.std.proofs.lemmas.Bool.{cases_lt, cases_eq}
use Rattle.std.proofs.lemmas.Cmp.{int_cmp_total}
use Rattle.std.proofs.lemmas.List.{drop_more, get_or_default, length-replicate}
use Rattle.std.proofs.lemmas.List.Sorted.{All-permutation}
use Rattle.std.proofs.lemmas.List.Elements.{All-weaker}
use Rattle.std.proofs.lemmas.List.Sorted.{sorted_far, ranks_by, searchable_from_sorted, Contains-permutation}
use Rattle.cps_model.specs.declared.parts.Arc.{Arc}
use Rattle.cps_model.specs.Values.{literal_holds}
use Rattle.cps_model.specs.Circuits.{selected, is_loop, moves, Leads, here, along}
use Rattle.cps_model.proofs.Pairs.{All-from_test, test_from_All}
use Rattle.cps_model.proofs.Permuted.{AllPairs-permuted}
use Rattle.cps_eval.specs.Walks.{no_arc, tail_at, head_at, LeaveApart, AreRising, EnterEach, AreSingle, LeavesAt, NoneLeaves, seen_at, SeenFrom, IsNext}

-- one arc more that is selected, or one that is not
selected-drop : (a ts hs ls : List ℤ) (k : ℕ) → k < length ts → k < length hs → k < length ls → selected a (drop k ts) (drop k hs) (drop k ls) ≡ (if literal_holds a (get_or ls k (pos 0)) then record { tail = get_or ts k (pos 0); head = get_or hs k (pos 0) } ∷ selected a (drop (k + 1) ts) (drop (k + 1) hs) (drop (k + 1) ls) else selected a (drop (k + 1) ts) (drop (k + 1) hs) (drop (k + 1) ls))
selected-drop a ts hs ls k p q r = rw (drop_more ts k (pos 0), drop_more hs k (pos 0), drop_more ls k (pos 0)) refl

pub selected-more : (a ts hs ls : List ℤ) (k : ℕ) (arc : Arc) (done whole : List Arc) → k < length ts → k < length hs → k < length ls → arc ≡ record { tail = get_or ts k (pos 0); head = get_or hs k (pos 0) } → literal_holds a (get_or ls k (pos 0)) ≡ true → done ++ selected a (drop k ts) (drop k hs) (drop k ls) ≡ whole → (done ++ arc ∷ []) ++ selected a (drop (k + 1) ts) (drop (k + 1) hs) (drop (k + 1) ls) ≡ whole
selected-more a ts hs ls k arc done whole p q r is on h =
    let rest = selected a (drop (k + 1) ts) (drop (k + 1) hs) (drop (k + 1) ls) in
    let all = selected-drop a ts hs ls k p q r in
    let this : selected a (drop k ts) (drop k hs) (drop k ls) ≡ arc ∷ rest = all ∙ rw (on, is) refl in
    append_assoc done (arc ∷ []) rest ∙ ap (λ (arcs : List Arc). done ++ arcs) (sym this) ∙ h

pub selected-less : (a ts hs ls : List ℤ) (k : ℕ) (done whole : List Arc) → k < length ts → k < length hs → k < length ls → literal_holds a (get_or ls k (pos 0)) ≡ false → done ++ selected a (drop k ts) (drop k hs) (drop k ls) ≡ whole → done ++ selected a (drop (k + 1) ts) (drop (k + 1) hs) (drop (k + 1) ls) ≡ whole
selected-less a ts hs ls k done whole p q r off h =
    let rest = selected a (drop (k + 1) ts) (drop (k + 1) hs) (drop (k + 1) ls) in
    let this : selected a (drop k ts) (drop k hs) (drop k ls) ≡ rest = selected-drop a ts hs ls k p q r ∙ rw off refl in
    ap (λ (arcs : List Arc). done ++ arcs) (sym this) ∙ h

-- one arc more that is no loop, or one that is
pub moves-more : (arcs done whole : List Arc) (k : ℕ) → k < length arcs → is_loop (get_or arcs k no_arc) ≡ false → done ++ moves (drop k arcs) ≡ whole → (done ++ get_or arcs k no_arc ∷ []) ++ moves (drop (k + 1) arcs) ≡ whole
moves-more arcs done whole k l apart h =
    let arc = get_or arcs k no_arc in
    let rest = moves (drop (k + 1) arcs) in
    let this : moves (drop k arcs) ≡ arc ∷ rest = ap moves (drop_more arcs k no_arc l) ∙ ap (λ (b : Bool). if not b then arc ∷ rest else rest) apart in
    append_assoc done (arc ∷ []) rest ∙ ap (λ (found : List Arc). done ++ found) (sym this) ∙ h

pub moves-less : (arcs done whole : List Arc) (k : ℕ) → k < length arcs → is_loop (get_or arcs k no_arc) ≡ true → done ++ moves (drop k arcs) ≡ whole → done ++ moves (drop (k + 1) arcs) ≡ whole
moves-less arcs done whole k l same h =
    let arc = get_or arcs k no_arc in
    let rest = moves (drop (k + 1) arcs) in
    let this : moves (drop k arcs) ≡ rest = ap moves (drop_more arcs k no_arc l) ∙ ap (λ (b : Bool). if not b then arc ∷ rest else rest) same in
    ap (λ (found : List Arc). done ++ found) (sym this) ∙ h

-- what a sort by tail ensures of arcs of which no two leave one node
pub apart_permuted : (xs ys : List Arc) → IsPermutation xs ys → LeaveApart xs → LeaveApart ys
apart_permuted xs ys moved h = AllPairs-permuted (λ p q. p.tail ≢ q.tail) (λ p q d e. d (sym e)) xs ys moved h

pub rising_from_sort : (arcs : List Arc) → IsSortedByKey (λ (arc : Arc). arc.tail) int_cmp arcs → LeaveApart arcs → AreRising arcs
rising_from_sort arcs sorted apart i j l m =
    let low = not_less (tail_at arcs i) (tail_at arcs j) (sorted_far _ (ranks_by int_cmp_total (λ (arc : Arc). arc.tail)) arcs sorted i j no_arc (omega arith) m) in
    let other = apart i j no_arc l m in
    by_lt_z (tail_at arcs i) (tail_at arcs j) (λ up. up) (λ down. absurd (other (omega (arith, ints))))
  where
    not_less : (x y : ℤ) → is_lt (int_cmp y x) ≡ false → x ≤ℤ y
    not_less x y h = grind (arith, ints)

-- what a binary search for the arc that leaves a node says
rising_sorted : (arcs : List Arc) → AreRising arcs → IsSortedByKey (λ (arc : Arc). arc.tail) int_cmp arcs
rising_sorted arcs h k d p q =
    let up = h k (k + 1) (omega arith) q in
    let one = get_or_default arcs k no_arc d (omega arith) in
    let two = get_or_default arcs (k + 1) no_arc d q in
    subst (λ (y : Arc). is_lt (int_cmp y.tail (get_or arcs k d).tail) ≡ false) two (subst (λ (x : Arc). is_lt (int_cmp (tail_at arcs (k + 1)) x.tail) ≡ false) one (less_not (tail_at arcs k) (tail_at arcs (k + 1)) up))
  where
    less_not : (x y : ℤ) → x <ℤ y → is_lt (int_cmp y x) ≡ false
    less_not x y h = grind (arith, ints)

pub place_found : (arcs : List Arc) (node : ℤ) (r : Result ℕ ℕ) (o : Option ℕ) → AreRising arcs → IsSearchInRange r (length arcs) → IsBinarySearchResult (λ arc. int_cmp arc.tail node) arcs r → o ≡ result_ok r → MatchOption o (NoneLeaves arcs node) (λ k. LeavesAt arcs node k)
place_found arcs node (Ok k) o rising bound found is = rw is (record { inside = bound; tail = equal_is (tail_at arcs k) node (found no_arc) })
  where
    equal_is : (x y : ℤ) → int_cmp x y ≡ Equal → x ≡ y
    equal_is x y e = grind (arith, ints)
place_found arcs node (Err i) o rising bound found is =
    let point = found (searchable_from_sorted int_cmp_total (λ (arc : Arc). arc.tail) arcs node (rising_sorted arcs rising)) in
    rw is (λ k l e. elim (cases_lt k i) [
      | inl before ↦ below (tail_at arcs k) node e (point.0 k no_arc (omega arith) before)
      | inr after ↦ above (tail_at arcs k) node e (point.1 k no_arc after l)
    ])
  where
    below : (x y : ℤ) → x ≡ y → int_cmp x y ≡ Less → ⊥
    below x y e h = grind (arith, ints)

    above : (x y : ℤ) → x ≡ y → int_cmp x y ≡ Greater → ⊥
    above x y e h = grind (arith, ints)

-- no two leave one node
pub same_place : (arcs : List Arc) (i j : ℕ) → AreRising arcs → i < length arcs → j < length arcs → tail_at arcs i ≡ tail_at arcs j → i ≡ j
same_place arcs i j rising l m e = elim (cases_lt i j) [
  | inl less ↦ (let up = rising i j less m in absurd (omega (arith, ints)))
  | inr more ↦ elim (cases_eq i j) [
    | inl at ↦ at
    | inr other ↦ (let up = rising j i (omega arith) l in absurd (omega (arith, ints)))
  ]
]

-- marking the arc at a place
pub seen_more : (seen : List Bool) (k j : ℕ) → k < length seen → seen_at seen j ≡ true → seen_at (set seen k true) j ≡ true
seen_more seen k j l h = elim (cases_eq j k) [
  | inl at ↦ subst (λ (i : ℕ). seen_at (set seen k true) i ≡ true) (sym at) (get_or-set_same seen k true false l)
  | inr other ↦ get_or-set_other seen k j true false other ∙ h
]

seen_before : (seen : List Bool) (k j : ℕ) → j ≢ k → seen_at (set seen k true) j ≡ true → seen_at seen j ≡ true
seen_before seen k j other h = sym (get_or-set_other seen k j true false other) ∙ h

seen_from_more : (arcs : List Arc) (seen : List Bool) (k : ℕ) (node : ℤ) → k < length seen → SeenFrom arcs seen node → SeenFrom arcs (set seen k true) node
seen_from_more arcs seen k node l h j m e = seen_more seen k j l (h j m e)

seen_from_here : (arcs : List Arc) (seen : List Bool) (k : ℕ) (node : ℤ) → AreRising arcs → k < length arcs → k < length seen → tail_at arcs k ≡ node → SeenFrom arcs (set seen k true) node
seen_from_here arcs seen k node rising l m is j n e =
    let at = same_place arcs j k rising n l (e ∙ sym is) in
    subst (λ (i : ℕ). seen_at (set seen k true) i ≡ true) (sym at) (get_or-set_same seen k true false m)

-- how many arcs a walk has not come by
abbrev pub unseen : List Bool → ℕ
unseen [] = 0
unseen (true ∷ bs) = unseen bs
unseen (false ∷ bs) = 1 + unseen bs

pub unseen_less : (seen : List Bool) (k : ℕ) → k < length seen → seen_at seen k ≡ false → unseen (set seen k true) < unseen seen
unseen_less [] k l h = absurd (omega arith)
unseen_less (true ∷ bs) zero l h = cc
unseen_less (false ∷ bs) zero l h = omega arith
unseen_less (true ∷ bs) (suc k) l h = unseen_less bs k (omega arith) h
unseen_less (false ∷ bs) (suc k) l h = let rest = unseen_less bs k (omega arith) h in omega arith

-- one arc more at the end, and one way after another
arc_at : (arcs : List Arc) (k : ℕ) → k < length arcs → Contains arcs (record { tail = tail_at arcs k; head = head_at arcs k })
arc_at arcs k l = (k, l, get_or_default arcs k _ no_arc l)

leads_on : (arcs : List Arc) (x y z : ℤ) → Leads arcs x y → Leads arcs y z → Leads arcs x z
leads_on arcs x y z (here _) two = two
leads_on arcs x y z (along _ w _ arc one) two = along x w z arc (leads_on arcs w y z one two)

step_along : (arcs : List Arc) (k : ℕ) → k < length arcs → Leads arcs (tail_at arcs k) (head_at arcs k)
step_along arcs k l = along (tail_at arcs k) (head_at arcs k) (head_at arcs k) (arc_at arcs k l) (here (head_at arcs k))

-- what a walk from a start keeps
pub record Walked (arcs : List Arc) (seen : List Bool) (start node : ℤ) : Type 0 where
  pub long : length seen ≡ length arcs
  pub come : Leads arcs start node
  pub reached : (k : ℕ) → k < length arcs → seen_at seen k ≡ true → Leads arcs start (tail_at arcs k)
  pub onward : (k : ℕ) → k < length arcs → seen_at seen k ≡ true → Leads arcs (tail_at arcs k) node
  pub closed : (k : ℕ) → k < length arcs → seen_at seen k ≡ true → (head_at arcs k ≡ node) ⊎ SeenFrom arcs seen (head_at arcs k)
  pub fresh : (k : ℕ) → k < length arcs → seen_at seen k ≡ true → (head_at arcs k ≡ node) ⊎ (head_at arcs k ≢ start)
  pub begun : (((k : ℕ) → seen_at seen k ≡ false) × (node ≡ start)) ⊎ SeenFrom arcs seen start

not_both : (b : Bool) → b ≡ true → b ≡ false → ⊥
not_both b p q = cc

all_false : (n k : ℕ) → seen_at (replicate n false) k ≡ false
all_false zero k = refl
all_false (suc n) zero = refl
all_false (suc n) (suc k) = all_false n k

pub walk_begins : (arcs : List Arc) (start : ℤ) → Walked arcs (replicate (length arcs) false) start start
walk_begins arcs start = record {
  long = length-replicate (length arcs) false;
  come = here start;
  reached = λ k l h. absurd (not_both _ h (all_false (length arcs) k));
  onward = λ k l h. absurd (not_both _ h (all_false (length arcs) k));
  closed = λ k l h. absurd (not_both _ h (all_false (length arcs) k));
  fresh = λ k l h. absurd (not_both _ h (all_false (length arcs) k));
  begun = inl (all_false (length arcs), refl);
}

pub walk_goes_on : (arcs : List Arc) (seen : List Bool) (start node : ℤ) (k : ℕ) → AreRising arcs → Walked arcs seen start node → IsNext arcs seen node k → Walked arcs (set seen k true) start (head_at arcs k)
walk_goes_on arcs seen start node k rising w next =
    let l = next.leaves.inside in
    let is = next.leaves.tail in
    let room : k < length seen = let long = w.long in omega arith in
    let step : Leads arcs node (head_at arcs k) = subst (λ (x : ℤ). Leads arcs x (head_at arcs k)) is (step_along arcs k l) in
    let from_here = seen_from_here arcs seen k node rising l room is in
    record {
      long = length-set seen k true ∙ w.long;
      come = leads_on arcs start node (head_at arcs k) w.come step;
      reached = λ j m h. elim (cases_eq j k) [
        | inl at ↦ subst (λ (i : ℕ). Leads arcs start (tail_at arcs i)) (sym at) (subst (λ (x : ℤ). Leads arcs start x) (sym is) w.come)
        | inr other ↦ w.reached j m (seen_before seen k j other h)
      ];
      onward = λ j m h. elim (cases_eq j k) [
        | inl at ↦ subst (λ (i : ℕ). Leads arcs (tail_at arcs i) (head_at arcs k)) (sym at) (step_along arcs k l)
        | inr other ↦ leads_on arcs (tail_at arcs j) node (head_at arcs k) (w.onward j m (seen_before seen k j other h)) step
      ];
      closed = λ j m h. elim (cases_eq j k) [
        | inl at ↦ inl (ap (head_at arcs) at)
        | inr other ↦ inr (elim (w.closed j m (seen_before seen k j other h)) [
          | inl e ↦ subst (SeenFrom arcs (set seen k true)) (sym e) from_here
          | inr s ↦ seen_from_more arcs seen k (head_at arcs j) room s
        ])
      ];
      fresh = λ j m h. elim (cases_eq j k) [
        | inl at ↦ inl (ap (head_at arcs) at)
        | inr other ↦ inr (elim (w.fresh j m (seen_before seen k j other h)) [
          | inl e ↦ (λ back. elim w.begun [
            | inl new ↦ not_both _ (seen_before seen k j other h) (new.0 j)
            | inr s ↦ not_both _ (s k l (is ∙ sym e ∙ back)) next.unseen
          ])
          | inr s ↦ s
        ])
      ];
      begun = inr (elim w.begun [
        | inl new ↦ subst (SeenFrom arcs (set seen k true)) new.1 from_here
        | inr s ↦ seen_from_more arcs seen k start room s
      ]);
    }

-- a walk that has come to its end: each arc from where it is is seen
pub record Ended (arcs : List Arc) (seen : List Bool) (start node : ℤ) : Type 0 where
  pub walked : Walked arcs seen start node
  pub stopped : SeenFrom arcs seen node

closed_at_end : (arcs : List Arc) (seen : List Bool) (start node : ℤ) → Ended arcs seen start node → (k : ℕ) → k < length arcs → seen_at seen k ≡ true → SeenFrom arcs seen (head_at arcs k)
closed_at_end arcs seen start node e k l h = elim (e.walked.closed k l h) [
  | inl back ↦ subst (SeenFrom arcs seen) (sym back) e.stopped
  | inr s ↦ s
]

start_seen : (arcs : List Arc) (seen : List Bool) (start node : ℤ) → Ended arcs seen start node → SeenFrom arcs seen start
start_seen arcs seen start node e = elim e.walked.begun [
  | inl new ↦ subst (SeenFrom arcs seen) new.1 e.stopped
  | inr s ↦ s
]

-- what is led to from seen arcs is seen
seen_along : (arcs : List Arc) (seen : List Bool) → ((k : ℕ) → k < length arcs → seen_at seen k ≡ true → SeenFrom arcs seen (head_at arcs k)) → (x y : ℤ) → Leads arcs x y → SeenFrom arcs seen x → SeenFrom arcs seen y
seen_along arcs seen closed x y (here _) s = s
seen_along arcs seen closed x y (along _ z _ arc rest) s =
    let is : get_or arcs arc.0 no_arc ≡ record { tail = x; head = z } = sym (get_or_default arcs arc.0 _ no_arc arc.1) ∙ arc.2 in
    let this = s arc.0 arc.1 (ap (λ (a : Arc). a.tail) is) in
    let on = subst (SeenFrom arcs seen) (ap (λ (a : Arc). a.head) is) (closed arc.0 arc.1 this) in
    seen_along arcs seen closed z y rest on

pub closed_by_walk : (arcs : List Arc) (seen : List Bool) (node : ℤ) → 0 < length arcs → EnterEach arcs → Ended arcs seen (tail_at arcs 0) node → ((node ≡ tail_at arcs 0) × ((k : ℕ) → k < length arcs → seen_at seen k ≡ true)) ↔ AreSingle arcs
closed_by_walk arcs seen node some enters e = (
  λ h i d l j f m.
      (let there = subst (λ (x : ℤ). Leads arcs (tail_at arcs i) x) h.0 (e.walked.onward i l (h.1 i l)) in
      let on = leads_on arcs (tail_at arcs i) (tail_at arcs 0) (tail_at arcs j) there (e.walked.reached j m (h.1 j m)) in
      subst (λ (q : Arc). Leads arcs (get_or arcs i d).tail q.tail) (get_or_default arcs j no_arc f m) (subst (λ (p : Arc). Leads arcs p.tail (tail_at arcs j)) (get_or_default arcs i no_arc d l) on)),
  λ single.
      (let all = λ (k : ℕ) (l : k < length arcs). seen_along arcs seen (closed_at_end arcs seen (tail_at arcs 0) node e) (tail_at arcs 0) (tail_at arcs k) (single 0 no_arc some k no_arc l) (start_seen arcs seen (tail_at arcs 0) node e) k l refl in
      let entering = enters 0 no_arc some in
      let m = entering.1.0 in
      let in_m = entering.1.1 in
      let back : head_at arcs m ≡ tail_at arcs 0 = ap (λ (a : Arc). a.head) (get_or_default arcs m no_arc entering.0 in_m ∙ entering.1.2) ∙ entering.2 in (
        elim (e.walked.fresh m in_m (all m in_m)) [
          | inl at ↦ sym at ∙ back
          | inr far ↦ absurd (far back)
        ],
        all,
      )),
)

-- the order of the arcs does not matter
leads_permuted : (xs ys : List Arc) → IsPermutation xs ys → (x y : ℤ) → Leads xs x y → Leads ys x y
leads_permuted xs ys moved x y (here _) = here x
leads_permuted xs ys moved x y (along _ z _ arc rest) = along x z y (Contains-permutation xs ys _ moved arc) (leads_permuted xs ys moved z y rest)

pub single_permuted : (xs ys : List Arc) → IsPermutation xs ys → AreSingle xs → AreSingle ys
single_permuted xs ys moved h =
    All-weaker (λ p. All (λ q. Leads xs p.tail q.tail) xs) (λ p. All (λ q. Leads ys p.tail q.tail) ys)
    (λ p each. All-permutation (λ q. Leads ys p.tail q.tail) xs ys moved (All-weaker (λ q. Leads xs p.tail q.tail) (λ q. Leads ys p.tail q.tail) (λ q leads. leads_permuted xs ys moved p.tail q.tail leads) xs each))
    ys (All-permutation (λ p. All (λ q. Leads xs p.tail q.tail) xs) xs ys moved h)

pub enter_permuted : (xs ys : List Arc) → IsPermutation xs ys → EnterEach xs → EnterEach ys
enter_permuted xs ys moved h =
    All-weaker (λ p. (q : Arc) × Contains xs q × (q.head ≡ p.tail)) (λ p. (q : Arc) × Contains ys q × (q.head ≡ p.tail))
    (λ p found. (found.0, Contains-permutation xs ys found.0 moved found.1, found.2)) ys
    (All-permutation (λ p. (q : Arc) × Contains xs q × (q.head ≡ p.tail)) xs ys moved h)

pub all_seen : (seen : List Bool) → list_all (λ b. b) seen ≡ true → (k : ℕ) → k < length seen → seen_at seen k ≡ true
all_seen seen h k l = All-from_test (λ b. b) seen h k false l

pub all_seen_test : (seen : List Bool) → ((k : ℕ) → k < length seen → seen_at seen k ≡ true) → list_all (λ b. b) seen ≡ true
all_seen_test seen h = test_from_All (λ b. b) seen (λ k d l. get_or_default seen k d false l ∙ h k l)

pub none_single : (arcs : List Arc) → length arcs ≡ 0 → AreSingle arcs
none_single arcs e i d l = absurd (omega arith)
