-- Runs of an automaton over its transitions, sorted by state and label.
use Rattle.std.specs.Prelude.{Contains, IsPermutation, ◌↔◌, int_le, int_lt, ◌&&◌, ◌||◌, map}
use Rattle.std.specs.List.Sorted.{IsSortedBy, IsPartitionedBy}
use Rattle.std.specs.Ordering.{int_cmp, int_eq, is_lt, ordering_then}
use Rattle.std.proofs.Common.{◌≡◌, ◌⊎◌, inl, inr, ℕ, zero, suc, ◌+◌, ◌-◌, ◌<◌, ◌≤◌, ℤ, pos, ◌<ℤ◌, ◌≤ℤ◌, Bool, true, false, List, [], ◌∷◌, ◌++◌, length, take, drop, get_or, refl, sym, ◌∙◌, ap, subst, arith, Less, Equal, append_assoc, get_or-take, get_or-drop, length-drop}
use Rattle.std.proofs.lemmas.Int.{ints, by_lt_z}
use Rattle.std.proofs.lemmas.Bool.{cases_lt}
use Rattle.std.proofs.lemmas.List.{drop_more, take_more, get_or_default, get_or-map, length-take-le, length-map}
use Rattle.std.proofs.lemmas.List.Elements.{Contains-append_left, Contains-append_right, Contains-append_cases}
use Rattle.std.proofs.lemmas.List.Sorted.{Contains-permutation}
use Rattle.cps_model.specs.declared.parts.Transition.{Transition}
use Rattle.cps_model.specs.Sequences.{transitions, Accepts}
use Rattle.cps_model.proofs.Tests.{and_true, or_true}
use Rattle.cps_eval.specs.Runs.{comes_before, comes_up_to, AreGrouped, BeginAt, EndBefore, LeadsBy, LeadsFromSome, SomeAccepts, part}

abbrev pub no_step : Transition
no_step = record { tail = pos 0; head = pos 0; label = pos 0 }

-- one transition more
pub transitions-more : (ts hs ls : List ℤ) (k : ℕ) (step : Transition) (done whole : List Transition) → k < length ts → k < length hs → k < length ls → step ≡ record { tail = get_or ts k (pos 0); head = get_or hs k (pos 0); label = get_or ls k (pos 0) } → done ++ transitions (drop k ts) (drop k hs) (drop k ls) ≡ whole → (done ++ step ∷ []) ++ transitions (drop (k + 1) ts) (drop (k + 1) hs) (drop (k + 1) ls) ≡ whole
transitions-more ts hs ls k step done whole p q r is h =
    let rest = transitions (drop (k + 1) ts) (drop (k + 1) hs) (drop (k + 1) ls) in
    let this : transitions (drop k ts) (drop k hs) (drop k ls) ≡ step ∷ rest = rw (drop_more ts k (pos 0), drop_more hs k (pos 0), drop_more ls k (pos 0), is) refl in
    append_assoc done (step ∷ []) rest ∙ ap (λ (ss : List Transition). done ++ ss) (sym this) ∙ h

-- the order by state and label
abbrev up_to : ℤ → ℤ → ℤ → ℤ → Bool
up_to tail label state by = int_lt tail state || (int_eq tail state && int_le label by)

abbrev before : ℤ → ℤ → ℤ → ℤ → Bool
before tail label state by = int_lt tail state || (int_eq tail state && int_lt label by)

less : (x y : ℤ) → int_lt x y ≡ true → x <ℤ y
less x y e = grind (arith, ints)

less_from : (x y : ℤ) → x <ℤ y → int_lt x y ≡ true
less_from x y h = grind (arith, ints)

equal : (x y : ℤ) → int_eq x y ≡ true → x ≡ y
equal x y e = grind (arith, ints)

equal_from : (x y : ℤ) → x ≡ y → int_eq x y ≡ true
equal_from x y h = grind (arith, ints)

at_most : (x y : ℤ) → int_le x y ≡ true → x ≤ℤ y
at_most x y e = grind (arith, ints)

at_most_from : (x y : ℤ) → x ≤ℤ y → int_le x y ≡ true
at_most_from x y h = grind (arith, ints)

or_last : (b : Bool) → (b || true) ≡ true
or_last true = refl
or_last false = refl

IsUpTo : ℤ → ℤ → ℤ → ℤ → Type 0
IsUpTo tail label state by = (tail <ℤ state) ⊎ ((tail ≡ state) × (label ≤ℤ by))

IsBefore : ℤ → ℤ → ℤ → ℤ → Type 0
IsBefore tail label state by = (tail <ℤ state) ⊎ ((tail ≡ state) × (label <ℤ by))

up_to_is : (t l s b : ℤ) → up_to t l s b ≡ true → IsUpTo t l s b
unfolding IsUpTo
up_to_is t l s b e = elim (or_true (int_lt t s) (int_eq t s && int_le l b) e) [
  | inl p ↦ inl (less t s p)
  | inr p ↦ (let both = and_true (int_eq t s) (int_le l b) p in inr (equal t s both.0, at_most l b both.1))
]

up_to_from : (t l s b : ℤ) → IsUpTo t l s b → up_to t l s b ≡ true
unfolding IsUpTo
up_to_from t l s b (inl p) = let e : int_lt t s ≡ true = less_from t s p in rw e refl
up_to_from t l s b (inr (p, q)) = let e : int_eq t s ≡ true = equal_from t s p in let f : int_le l b ≡ true = at_most_from l b q in rw (e, f) (or_last (int_lt t s))

before_is : (t l s b : ℤ) → before t l s b ≡ true → IsBefore t l s b
unfolding IsBefore
before_is t l s b e = elim (or_true (int_lt t s) (int_eq t s && int_lt l b) e) [
  | inl p ↦ inl (less t s p)
  | inr p ↦ (let both = and_true (int_eq t s) (int_lt l b) p in inr (equal t s both.0, less l b both.1))
]

before_from : (t l s b : ℤ) → IsBefore t l s b → before t l s b ≡ true
unfolding IsBefore
before_from t l s b (inl p) = let e : int_lt t s ≡ true = less_from t s p in rw e refl
before_from t l s b (inr (p, q)) = let e : int_eq t s ≡ true = equal_from t s p in let f : int_lt l b ≡ true = less_from l b q in rw (e, f) (or_last (int_lt t s))

up_to_up_to : (t l u m s b : ℤ) → IsUpTo t l u m → IsUpTo u m s b → IsUpTo t l s b
unfolding IsUpTo
up_to_up_to t l u m s b (inl p) (inl q) = inl (omega (arith, ints))
up_to_up_to t l u m s b (inl p) (inr (q, r)) = inl (omega (arith, ints))
up_to_up_to t l u m s b (inr (p, q)) (inl r) = inl (omega (arith, ints))
up_to_up_to t l u m s b (inr (p, q)) (inr (r, w)) = inr (p ∙ r, omega (arith, ints))

up_to_before : (t l u m s b : ℤ) → IsUpTo t l u m → IsBefore u m s b → IsBefore t l s b
unfolding IsUpTo IsBefore
up_to_before t l u m s b (inl p) (inl q) = inl (omega (arith, ints))
up_to_before t l u m s b (inl p) (inr (q, r)) = inl (omega (arith, ints))
up_to_before t l u m s b (inr (p, q)) (inl r) = inl (omega (arith, ints))
up_to_before t l u m s b (inr (p, q)) (inr (r, w)) = inr (p ∙ r, omega (arith, ints))

-- one that is up to a state and a label and not before them is at them
at_both : (t l s b : ℤ) → up_to t l s b ≡ true → before t l s b ≡ false → (t ≡ s) × (l ≡ b)
unfolding IsUpTo IsBefore
at_both t l s b e f = go (up_to_is t l s b e)
  where
    refuted : IsBefore t l s b → ⊥
    refuted h = let g = before_from t l s b h in cc

    go : IsUpTo t l s b → (t ≡ s) × (l ≡ b)
    go (inl p) = absurd (refuted (inl p))
    go (inr (p, q)) = (p, by_lt_z l b (λ m. absurd (refuted (inr (p, m)))) (λ m. omega (arith, ints)))

before_itself : (s b : ℤ) → before s b s b ≡ true → ⊥
unfolding IsBefore
before_itself s b e = elim (before_is s b s b e) [
  | inl p ↦ absurd (omega (arith, ints))
  | inr p ↦ (let m = p.1 in absurd (omega (arith, ints)))
]

up_to_itself : (s b : ℤ) → up_to s b s b ≡ true
unfolding IsUpTo
up_to_itself s b = up_to_from s b s b (inr (refl, omega (arith, ints)))

-- what a sort by state and label ensures
abbrev SortedByOrigin : List Transition → Type 0
SortedByOrigin steps = IsSortedBy (λ x y. is_lt (ordering_then (int_cmp x.tail y.tail) (int_cmp x.label y.label))) steps

neighbours : (t l u m : ℤ) → is_lt (ordering_then (int_cmp u t) (int_cmp m l)) ≡ false → IsUpTo t l u m
unfolding IsUpTo
neighbours t l u m e = by_lt_z t u (λ p. inl p) (λ p. by_lt_z u t (λ q. absurd (later q)) (λ q. inr (omega (arith, ints), by_lt_z m l (λ r. absurd (beside (omega (arith, ints)) r)) (λ r. r))))
  where
    later : u <ℤ t → ⊥
    later q = let f : int_cmp u t ≡ Less = grind (arith, ints) in let g : is_lt (ordering_then (int_cmp u t) (int_cmp m l)) ≡ true = rw f refl in cc

    beside : u ≡ t → m <ℤ l → ⊥
    beside q r = let f : int_cmp u t ≡ Equal = grind (arith, ints) in let g : int_cmp m l ≡ Less = grind (arith, ints) in let h : is_lt (ordering_then (int_cmp u t) (int_cmp m l)) ≡ true = rw (f, g) refl in cc

abbrev tail_at : List Transition → ℕ → ℤ
tail_at steps k = (get_or steps k no_step).tail

abbrev label_at : List Transition → ℕ → ℤ
label_at steps k = (get_or steps k no_step).label

grouped_far : (steps : List Transition) (i n : ℕ) → SortedByOrigin steps → i + n < length steps → IsUpTo (tail_at steps i) (label_at steps i) (tail_at steps (i + n)) (label_at steps (i + n))
unfolding IsUpTo
grouped_far steps i zero h l = subst (λ (k : ℕ). IsUpTo (tail_at steps i) (label_at steps i) (tail_at steps k) (label_at steps k)) (plus_zero i) (inr (refl, omega (arith, ints)))
  where
    plus_zero : (i : ℕ) → i ≡ i + 0
    plus_zero i = omega arith
grouped_far steps i (suc n) h l =
    let nearer = grouped_far steps i n h (omega arith) in
    let next : IsUpTo (tail_at steps (i + n)) (label_at steps (i + n)) (tail_at steps (i + n + 1)) (label_at steps (i + n + 1)) = neighbours _ _ _ _ (h (i + n) no_step (omega arith) (omega arith)) in
    let e : i + n + 1 ≡ i + suc n = omega arith in
    subst (λ (k : ℕ). IsUpTo (tail_at steps i) (label_at steps i) (tail_at steps k) (label_at steps k)) e (up_to_up_to _ _ _ _ _ _ nearer next)

pub grouped_from_sort : (steps : List Transition) → SortedByOrigin steps → AreGrouped steps
grouped_from_sort steps h i j d l m =
    let far = grouped_far steps i (j - i) h (omega arith) in
    let e : i + (j - i) ≡ j = omega arith in
    let here = subst (λ (k : ℕ). IsUpTo (tail_at steps i) (label_at steps i) (tail_at steps k) (label_at steps k)) e far in
    let test = up_to_from _ _ _ _ here in
    subst (λ (y : Transition). comes_up_to y.tail y.label (get_or steps i d) ≡ true) (get_or_default steps j no_step d m)
    (subst (λ (x : Transition). comes_up_to (tail_at steps j) (label_at steps j) x ≡ true) (get_or_default steps i no_step d (omega arith)) test)

-- a state and a label divide such a list
pub divided_before : (steps : List Transition) (s b : ℤ) → AreGrouped steps → IsPartitionedBy (comes_before s b) steps
divided_before steps s b h i j d l m e =
    let x = get_or steps i d in
    let y = get_or steps j d in
    before_from _ _ _ _ (up_to_before _ _ _ _ _ _ (up_to_is x.tail x.label y.tail y.label (h i j d l m)) (before_is y.tail y.label s b e))

pub divided_up_to : (steps : List Transition) (s b : ℤ) → AreGrouped steps → IsPartitionedBy (comes_up_to s b) steps
divided_up_to steps s b h i j d l m e =
    let x = get_or steps i d in
    let y = get_or steps j d in
    up_to_from _ _ _ _ (up_to_up_to _ _ _ _ _ _ (up_to_is x.tail x.label y.tail y.label (h i j d l m)) (up_to_is y.tail y.label s b e))

-- where those of a state and a label begin and end
pub first_to_end : (steps : List Transition) (s b : ℤ) (first end : ℕ) → BeginAt steps s b first → EndBefore steps s b end → first ≤ length steps → first ≤ end
unfolding IsBefore IsUpTo
first_to_end steps s b first end begin stop inside = elim (cases_lt end first) [
  | inl over ↦
      (let x = get_or steps end no_step in
      let early = before_is x.tail x.label s b (begin.0 end no_step (omega arith) over) in
      let late = stop.1 end no_step (omega arith) (omega arith) in
      let yet = up_to_from x.tail x.label s b (weaker x.tail x.label s b early) in
      absurd (false_true _ yet late))
  | inr fine ↦ fine
]
  where
    weaker : (t l s b : ℤ) → IsBefore t l s b → IsUpTo t l s b
    weaker t l s b (inl p) = inl p
    weaker t l s b (inr (p, q)) = inr (p, omega (arith, ints))

    false_true : (b : Bool) → b ≡ true → b ≡ false → ⊥
    false_true b p q = cc

part_length : (steps : List Transition) (first end : ℕ) → first ≤ end → end ≤ length steps → length (part steps first end) ≡ end - first
part_length steps first end p q = let room = length-drop first steps in length-take-le (end - first) (drop first steps) (omega arith)

part_item : (steps : List Transition) (first end k : ℕ) (d : Transition) → first + k < end → get_or (part steps first end) k d ≡ get_or steps (first + k) d
part_item steps first end k d l = get_or-take (end - first) (drop first steps) k d (omega arith) ∙ get_or-drop first steps k d

same_step : (t : Transition) (s n b : ℤ) → t.tail ≡ s → t.head ≡ n → t.label ≡ b → t ≡ record { tail = s; head = n; label = b }
same_step t s n b p q r = rw (← p, ← q, ← r) refl

head_in_part : (steps : List Transition) (first end k : ℕ) (d : Transition) (n : ℤ) → first ≤ end → end ≤ length steps → first + k < end → get_or (map (λ (step : Transition). step.head) (part steps first end)) k n ≡ (get_or steps (first + k) d).head
head_in_part steps first end k d n p q l =
    let size = part_length steps first end p q in
    get_or-map (λ (step : Transition). step.head) (part steps first end) k d n (omega arith) ∙ ap (λ (t : Transition). t.head) (part_item steps first end k d l)

-- the heads of the transitions between the two places are the states that follow
pub leads_in_part : (steps : List Transition) (s b : ℤ) (first end : ℕ) → BeginAt steps s b first → EndBefore steps s b end → first ≤ end → end ≤ length steps → (next : ℤ) → LeadsBy steps b s next ↔ Contains (map (λ step. step.head) (part steps first end)) next
leads_in_part steps s b first end begin stop p q next = (λ h. there h.0 h.1 h.2, λ h. back h.0 h.1 h.2)
  where
    this : Transition
    this = record { tail = s; head = next; label = b }

    false_true : (b : Bool) → b ≡ true → b ≡ false → ⊥
    false_true b p q = cc

    there : (k : ℕ) → k < length steps → get_or steps k this ≡ this → Contains (map (λ step. step.head) (part steps first end)) next
    there k l e =
        let late : k < end = elim (cases_lt k end) [
          | inl fine ↦ fine
          | inr over ↦ absurd (false_true _ (up_to_itself s b) (subst (λ (t : Transition). comes_up_to s b t ≡ false) e (stop.1 k this over l)))
        ] in
        let early : first ≤ k = elim (cases_lt k first) [
          | inl under ↦ absurd (before_itself s b (subst (λ (t : Transition). comes_before s b t ≡ true) e (begin.0 k this (omega arith) under)))
          | inr fine ↦ fine
        ] in
        let size = part_length steps first end p q in
        let long = length-map (part steps first end) (λ (step : Transition). step.head) in
        let at : first + (k - first) ≡ k = omega arith in
        (k - first, omega arith, head_in_part steps first end (k - first) this next p q (omega arith) ∙ ap (λ (i : ℕ). (get_or steps i this).head) at ∙ ap (λ (t : Transition). t.head) e)

    back : (k : ℕ) → k < length (map (λ (step : Transition). step.head) (part steps first end)) → get_or (map (λ (step : Transition). step.head) (part steps first end)) k next ≡ next → LeadsBy steps b s next
    back k l e =
        let size = part_length steps first end p q in
        let long = length-map (part steps first end) (λ (step : Transition). step.head) in
        let here : first + k < end = omega arith in
        let t = get_or steps (first + k) this in
        let both = at_both t.tail t.label s b (stop.0 (first + k) this (omega arith) here) (begin.1 (first + k) this (omega arith) (omega arith)) in
        (first + k, omega arith, same_step t s next b both.0 (sym (head_in_part steps first end k this next p q here) ∙ e) both.1)

-- the states after a label, where those from the first so many states are known
abbrev pub AreAfter : List Transition → ℤ → List ℤ → List ℤ → Type 0
AreAfter steps label states after = (next : ℤ) → LeadsFromSome steps label states next ↔ Contains after next

nothing : {n : ℤ} → Contains [] n → ⊥
nothing h = let l = h.1 in absurd (omega arith)

pub after_none : (steps : List Transition) (label : ℤ) → AreAfter steps label [] []
after_none steps label next = (λ h. absurd (nothing h.1), λ h. absurd (nothing h))

one_listed : (x n : ℤ) → Contains (x ∷ []) n → n ≡ x
one_listed x n h = same h.0 h.1 h.2
  where
    same : (k : ℕ) → k < 1 → get_or (x ∷ []) k n ≡ n → n ≡ x
    same zero l e = sym e
    same (suc k) l e = absurd (omega arith)

pub after_more : (steps : List Transition) (label : ℤ) (states : List ℤ) (k : ℕ) (after heads : List ℤ) → k < length states → AreAfter steps label (take k states) after → ((next : ℤ) → LeadsBy steps label (get_or states k (pos 0)) next ↔ Contains heads next) → AreAfter steps label (take (k + 1) states) (after ++ heads)
after_more steps label states k after heads l h this next = (
  λ found.
      (let where_from = subst (λ (xs : List ℤ). Contains xs found.0) (take_more states k (pos 0) l) found.1 in
      elim (Contains-append_cases (take k states) (get_or states k (pos 0) ∷ []) found.0 where_from) [
        | inl before ↦ Contains-append_left after heads next ((h next).0 (found.0, before, found.2))
        | inr here ↦ Contains-append_right after heads next ((this next).0 (subst (λ (s : ℤ). LeadsBy steps label s next) (one_listed _ _ here) found.2))
      ]),
  λ listed. elim (Contains-append_cases after heads next listed) [
    | inl before ↦ (let found = (h next).1 before in (found.0, wider found.0 (Contains-append_left (take k states) (get_or states k (pos 0) ∷ []) found.0 found.1), found.2))
    | inr here ↦ (get_or states k (pos 0), wider _ (Contains-append_right (take k states) (get_or states k (pos 0) ∷ []) _ (0, omega arith, refl)), (this next).1 here)
  ],
)
  where
    wider : (s : ℤ) → Contains (take k states ++ get_or states k (pos 0) ∷ []) s → Contains (take (k + 1) states) s
    wider s c = subst (λ (xs : List ℤ). Contains xs s) (sym (take_more states k (pos 0) l)) c

-- the states that are left after all labels say whether the start accepts them
pub accepts_start : (steps : List Transition) (finals : List ℤ) (start : ℤ) (labels : List ℤ) → SomeAccepts steps finals (start ∷ []) labels ↔ Accepts steps finals start labels
accepts_start steps finals start labels = (
  λ h. subst (λ (s : ℤ). Accepts steps finals s labels) (one_listed start h.0 h.1) h.2,
  λ h. (start, (0, omega arith, refl), h),
)

pub accepts_more : (steps : List Transition) (finals states after labels : List ℤ) (k : ℕ) → k < length labels → AreAfter steps (get_or labels k (pos 0)) states after → SomeAccepts steps finals after (drop (k + 1) labels) ↔ SomeAccepts steps finals states (drop k labels)
accepts_more steps finals states after labels k l h = (
  λ some.
      (let from = (h some.0).1 some.1 in
      (from.0, from.1, subst (λ (ls : List ℤ). Accepts steps finals from.0 ls) (sym (drop_more labels k (pos 0) l)) (some.0, from.2, some.2))),
  λ some.
      (let run = subst (λ (ls : List ℤ). Accepts steps finals some.0 ls) (drop_more labels k (pos 0) l) some.2 in
      (run.0, (h run.0).0 (some.0, some.1, run.1), run.2)),
)

-- the order of the transitions does not matter
pub accepts_permuted : (xs ys : List Transition) (finals : List ℤ) (state : ℤ) (labels : List ℤ) → IsPermutation xs ys → Accepts xs finals state labels → Accepts ys finals state labels
accepts_permuted xs ys finals state [] moved h = h
accepts_permuted xs ys finals state (l ∷ ls) moved h = (h.0, Contains-permutation xs ys _ moved h.1, accepts_permuted xs ys finals h.0 ls moved h.2)
