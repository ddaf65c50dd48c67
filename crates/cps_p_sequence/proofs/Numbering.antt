-- Steps by the numbers of their states.
use Rattle.std.specs.Prelude.{All, Contains, IsPermutation}
use Rattle.std.proofs.Common.{◌≡◌, ◌⊎◌, inl, inr, ℕ, zero, suc, ◌+◌, ◌<◌, ◌≤◌, ℤ, pos, Bool, true, false, List, [], ◌∷◌, ◌++◌, length, map, take, drop, get_or, set, replicate, refl, sym, ◌∙◌, ap, subst, arith, append_assoc, get_or-set_same, get_or-set_other}
use Rattle.std.proofs.lemmas.Bool.{cases_lt, cases_eq}
use Rattle.std.proofs.lemmas.List.{drop_more, drop_all, take_all, take_more, get_or_default, get_or-map, length-map, map-append, length-set, length-replicate, get_or-replicate}
use Rattle.std.proofs.lemmas.List.Elements.{All-nil, All-push, All-contains, Contains-append_left, Contains-push}
use Rattle.std.proofs.lemmas.List.Sorted.{Contains-permutation, IsPermutation-sym}
use Rattle.cps_model.specs.declared.parts.Transition.{Transition}
use Rattle.cps_model.specs.Sequences.{transitions}
use Rattle.cps_p_sequence.specs.declared.states.Step.{Step}
use Rattle.cps_p_sequence.specs.Networks.{IsNumberOf, IsMarked, AreFinals, IsNetwork, IsStepWithin, named, state_at}
use Rattle.cps_model.specs.Rising.{IsRising}
use Rattle.cps_p_sequence.specs.Runs.{HasLabelsOf}
use Rattle.cps_p_sequence.proofs.Sorting.{rising_differ}

no_heads : (ts ls : List ℤ) → transitions ts [] ls ≡ []
no_heads [] ls = refl
no_heads (t ∷ ts) ls = refl

no_labels : (ts hs : List ℤ) → transitions ts hs [] ≡ []
no_labels [] hs = refl
no_labels (t ∷ ts) [] = refl
no_labels (t ∷ ts) (h ∷ hs) = refl

-- no transition is left where one of the lists ends
pub transitions-none : (ts hs ls : List ℤ) (k : ℕ) → (k < length ts → k < length hs → k < length ls → ⊥) → transitions (drop k ts) (drop k hs) (drop k ls) ≡ []
transitions-none ts hs ls k over = elim (cases_lt k (length ts)) [
  | inr p ↦ ap (λ (xs : List ℤ). transitions xs (drop k hs) (drop k ls)) (drop_all k ts p)
  | inl p ↦ elim (cases_lt k (length hs)) [
    | inr q ↦ ap (λ (xs : List ℤ). transitions (drop k ts) xs (drop k ls)) (drop_all k hs q) ∙ no_heads (drop k ts) (drop k ls)
    | inl q ↦ elim (cases_lt k (length ls)) [
      | inr r ↦ ap (λ (xs : List ℤ). transitions (drop k ts) (drop k hs) xs) (drop_all k ls r) ∙ no_labels (drop k ts) (drop k hs)
      | inl r ↦ absurd (over p q r)
    ]
  ]
]

-- one transition more
pub transitions-more : (ts hs ls : List ℤ) (k : ℕ) (step : Transition) (done whole : List Transition) → k < length ts → k < length hs → k < length ls → step ≡ record { tail = get_or ts k (pos 0); head = get_or hs k (pos 0); label = get_or ls k (pos 0) } → done ++ transitions (drop k ts) (drop k hs) (drop k ls) ≡ whole → (done ++ step ∷ []) ++ transitions (drop (k + 1) ts) (drop (k + 1) hs) (drop (k + 1) ls) ≡ whole
transitions-more ts hs ls k step done whole p q r is h =
    let rest = transitions (drop (k + 1) ts) (drop (k + 1) hs) (drop (k + 1) ls) in
    let this : transitions (drop k ts) (drop k hs) (drop k ls) ≡ step ∷ rest = rw (drop_more ts k (pos 0), drop_more hs k (pos 0), drop_more ls k (pos 0), is) refl in
    append_assoc done (step ∷ []) rest ∙ ap (λ (ss : List Transition). done ++ ss) (sym this) ∙ h

-- the states of the transitions so far
pub record AreStates (origin : ℤ) (raw : List Transition) (n : ℕ) (states : List ℤ) : Type 0 where
  pub start : Contains states origin
  pub tails : (k : ℕ) (d : Transition) → k < n → k < length raw → Contains states (get_or raw k d).tail
  pub heads : (k : ℕ) (d : Transition) → k < n → k < length raw → Contains states (get_or raw k d).head

pub states_begun : (start : ℤ) (raw : List Transition) (states : List ℤ) → states ≡ start ∷ [] → AreStates start raw 0 states
states_begun start raw states e = record {
  start = subst (λ (xs : List ℤ). Contains xs start) (sym e) (0, omega arith, refl);
  tails = λ k d l m. absurd (omega arith);
  heads = λ k d l m. absurd (omega arith);
}

last_or : (k n : ℕ) → k < n + 1 → (k < n) ⊎ (k ≡ n)
last_or k n l = grind arith

pub states_more : (start : ℤ) (raw : List Transition) (n : ℕ) (old mid new : List ℤ) (r : Transition) → n < length raw → r ≡ get_or raw n r → mid ≡ old ++ r.tail ∷ [] → new ≡ mid ++ r.head ∷ [] → AreStates start raw n old → AreStates start raw (n + 1) new
states_more start raw n old mid new r l is e f p = record {
  start = wider start p.start;
  tails = λ k d m o. elim (last_or k n m) [
    | inl q ↦ wider _ (p.tails k d q o)
    | inr q ↦ subst (λ (x : Transition). Contains new x.tail) (at k d q) tail
  ];
  heads = λ k d m o. elim (last_or k n m) [
    | inl q ↦ wider _ (p.heads k d q o)
    | inr q ↦ subst (λ (x : Transition). Contains new x.head) (at k d q) head
  ];
}
  where
    wider : (x : ℤ) → Contains old x → Contains new x
    wider x h = subst (λ (xs : List ℤ). Contains xs x) (sym f) (Contains-append_left mid (r.head ∷ []) x (subst (λ (xs : List ℤ). Contains xs x) (sym e) (Contains-append_left old (r.tail ∷ []) x h)))

    tail : Contains new r.tail
    tail = subst (λ (xs : List ℤ). Contains xs r.tail) (sym f) (Contains-append_left mid (r.head ∷ []) r.tail (subst (λ (xs : List ℤ). Contains xs r.tail) (sym e) (Contains-push old r.tail)))

    head : Contains new r.head
    head = subst (λ (xs : List ℤ). Contains xs r.head) (sym f) (Contains-push mid r.head)

    at : (k : ℕ) (d : Transition) → k ≡ n → r ≡ get_or raw k d
    at k d q = is ∙ get_or_default raw n r d l ∙ ap (λ (j : ℕ). get_or raw j d) (sym q)

-- one step more
pub named_more : (states : List ℤ) (raw : List Transition) (n : ℕ) (old new : List Step) (t : Step) (r : Transition) → n < length raw → r ≡ get_or raw n r → new ≡ old ++ t ∷ [] → named states t ≡ r → map (named states) old ≡ take n raw → map (named states) new ≡ take (n + 1) raw
named_more states raw n old new t r l is e same h =
    ap (λ (xs : List Step). map (named states) xs) e
    ∙ map-append (named states) old (t ∷ [])
    ∙ ap (λ (xs : List Transition). xs ++ named states t ∷ []) h
    ∙ ap (λ (x : Transition). take n raw ++ x ∷ []) (same ∙ is)
    ∙ sym (take_more raw n r l)

-- marks
pub unmarked : (row : List Bool) → ((q : ℕ) → q < length row → get_or row q false ≡ false) → (q : ℕ) → IsMarked row q → ⊥
unmarked row blank q h = elim (cases_lt q (length row)) [
  | inl l ↦ (let e = blank q l in let f : true ≡ false = sym h ∙ e in cc f)
  | inr l ↦ (let e = beyond row q l in let f : true ≡ false = sym h ∙ e in cc f)
]
  where
    beyond : (row : List Bool) (q : ℕ) → length row ≤ q → get_or row q false ≡ false
    beyond [] q l = refl
    beyond (x ∷ xs) zero l = absurd (omega arith)
    beyond (x ∷ xs) (suc q) l = beyond xs q (omega arith)

pub marked_within : (row : List Bool) (q : ℕ) → IsMarked row q → q < length row
marked_within [] q h = absurd (let e : false ≡ true = h in cc e)
marked_within (x ∷ xs) zero h = omega arith
marked_within (x ∷ xs) (suc q) h = let l = marked_within xs q h in omega arith

pub marked_here : (row : List Bool) (q : ℕ) → q < length row → IsMarked (set row q true) q
marked_here row q l = get_or-set_same row q true false l

pub marked_still : (row : List Bool) (i q : ℕ) → i < length row → IsMarked row q → IsMarked (set row i true) q
marked_still row i q l h = elim (cases_eq q i) [
  | inl e ↦ subst (λ (j : ℕ). IsMarked (set row i true) j) (sym e) (marked_here row i l)
  | inr n ↦ get_or-set_other row i q true false n ∙ h
]

pub marked_before : (row : List Bool) (i q : ℕ) → IsMarked (set row i true) q → (q ≡ i) ⊎ IsMarked row q
marked_before row i q h = elim (cases_eq q i) [
  | inl e ↦ inl e
  | inr n ↦ inr (sym (get_or-set_other row i q true false n) ∙ h)
]

-- the final states so far
pub finals_begun : (finals states : List ℤ) (last : List Bool) → length last ≡ length states → ((q : ℕ) → q < length last → get_or last q false ≡ false) → AreFinals finals states 0 last
finals_begun finals states last size blank = record {
  size = size;
  listed = λ q h. absurd (unmarked last blank q h);
  marked = λ k q l m o e. absurd (omega arith);
}

pub finals_found : (finals states : List ℤ) (n : ℕ) (old new : List Bool) (x : ℤ) (i : ℕ) → IsRising states → n < length finals → x ≡ get_or finals n (pos 0) → IsNumberOf states x i → new ≡ set old i true → AreFinals finals states n old → AreFinals finals states (n + 1) new
finals_found finals states n old new x i rising l is number e p = record {
  size = ap length e ∙ length-set old i true ∙ p.size;
  listed = λ q h. elim (marked_before old i q (subst (λ (row : List Bool). IsMarked row q) e h)) [
    | inl same ↦ (n, l, get_or_default finals n (state_at states q) (pos 0) l ∙ sym is ∙ sym number.is ∙ ap (λ (j : ℕ). state_at states j) (sym same))
    | inr before ↦ p.listed q before
  ];
  marked = λ k q m o r f. subst (λ (row : List Bool). IsMarked row q) (sym e) (elim (last_or k n m) [
    | inl before ↦ marked_still old i q room (p.marked k q before o r f)
    | inr here ↦
        let same : q ≡ i = rising_differ states rising q i r number.inside (f ∙ ap (λ (j : ℕ). get_or finals j (pos 0)) here ∙ sym is ∙ sym number.is) in
        subst (λ (j : ℕ). IsMarked (set old i true) j) (sym same) (marked_here old i room)
  ]);
}
  where
    room : i < length old
    room = let a = p.size in let b = number.inside in omega arith

pub finals_passed : (finals states : List ℤ) (n : ℕ) (last : List Bool) (x : ℤ) → n < length finals → x ≡ get_or finals n (pos 0) → (Contains states x → ⊥) → AreFinals finals states n last → AreFinals finals states (n + 1) last
finals_passed finals states n last x l is none p = record {
  size = p.size;
  listed = p.listed;
  marked = λ k q m o r f. elim (last_or k n m) [
    | inl before ↦ p.marked k q before o r f
    | inr here ↦
        let same : state_at states q ≡ x = f ∙ ap (λ (j : ℕ). get_or finals j (pos 0)) here ∙ sym is in
        absurd (none (q, r, get_or_default states q x (pos 0) r ∙ same))
  ];
}

-- all of it
pub network_from : (raw : List Transition) (finals : List ℤ) (start : ℤ) (states : List ℤ) (first : ℕ) (last : List Bool) (steps : List Step) → IsRising states → IsNumberOf states start first → AreFinals finals states (length finals) last → All (IsStepWithin (length states)) steps → map (named states) steps ≡ raw → IsNetwork raw finals start states first last steps
network_from raw finals start states first last steps rising number ends within same = record {
  within = λ k d l. subst (λ (n : ℕ). IsStepWithin n (get_or steps k d)) (sym ends.size) (within k d l);
  given = λ t c. subst (λ (rs : List Transition). Contains rs (named states t)) same (c.0, (let long = length-map steps (named states) in let l = c.1 in omega arith), get_or-map (named states) steps c.0 t (named states t) c.1 ∙ ap (named states) c.2);
  numbered = λ r c. numbered r (subst (λ (rs : List Transition). Contains rs r) (sym same) c);
  distinct = λ i j l m e. (let a = ends.size in rising_differ states rising i j (omega arith) (omega arith) e);
  begin = (let a = ends.size in let b = number.inside in omega arith);
  start_is = number.is;
  listed = ends.listed;
  marked = λ q l c. ends.marked c.0 q c.1 c.1 (let a = ends.size in omega arith) (sym c.2 ∙ get_or_default finals c.0 (state_at states q) (pos 0) c.1);
}
  where
    no_step : Step
    no_step = record { tail = 0; head = 0; label = pos 0 }

    numbered : (r : Transition) → Contains (map (named states) steps) r → (t : Step) × Contains steps t × (named states t ≡ r)
    numbered r c =
        let long = length-map steps (named states) in
        let l' = c.1 in
        let l : c.0 < length steps = omega arith in
        let t = get_or steps c.0 no_step in
        (t, (c.0, l, get_or_default steps c.0 t no_step l), sym (get_or-map (named states) steps c.0 no_step r l) ∙ c.2)

-- the same steps in another order
pub network_sorted : (raw : List Transition) (finals : List ℤ) (start : ℤ) (states : List ℤ) (first : ℕ) (last : List Bool) (steps sorted : List Step) → IsPermutation steps sorted → IsNetwork raw finals start states first last steps → IsNetwork raw finals start states first last sorted
network_sorted raw finals start states first last steps sorted moved net = record {
  within = λ k d l. (let t = get_or sorted k d in All-contains (IsStepWithin (length last)) steps t net.within (back t (k, l, get_or_default sorted k t d l)));
  given = λ t c. net.given t (back t c);
  numbered = λ r c. (let n = net.numbered r c in (n.0, Contains-permutation steps sorted n.0 moved n.1, n.2));
  distinct = net.distinct;
  begin = net.begin;
  start_is = net.start_is;
  listed = net.listed;
  marked = net.marked;
}
  where
    back : (t : Step) → Contains sorted t → Contains steps t
    back t c = Contains-permutation sorted steps t (IsPermutation-sym steps sorted moved) c

-- a row none of whose states is marked, and one with one that is
pub none_marked : (row old : List Bool) (n m : ℕ) → old ≡ [] → row ≡ take n old ++ replicate m false → (q : ℕ) → q < length row → get_or row q false ≡ false
none_marked row old n m none is q l =
    let e : row ≡ replicate m false = is ∙ ap (λ (xs : List Bool). take n xs ++ replicate m false) none ∙ ap (λ (xs : List Bool). xs ++ replicate m false) (take_all n [] (omega arith)) in
    let size : length row ≡ m = ap (λ (xs : List Bool). length xs) e ∙ length-replicate m false in
    ap (λ (xs : List Bool). get_or xs q false) e ∙ get_or-replicate m q false false (omega arith)

pub one_marked : (row : List Bool) (i : ℕ) → i < length row → ((q : ℕ) → q < length row → get_or row q false ≡ false) → (q : ℕ) → (IsMarked (set row i true) q → q ≡ i) × (q ≡ i → IsMarked (set row i true) q)
one_marked row i l blank q = (
  λ h. elim (marked_before row i q h) [ inl e ↦ e | inr m ↦ absurd (unmarked row blank q m) ],
  λ e. subst (λ (j : ℕ). IsMarked (set row i true) j) (sym e) (marked_here row i l),
)

abbrev transition_of : ℤ → ℤ → ℤ → Transition
transition_of t h l = record { tail = t; head = h; label = l }

-- one step more, within the states and named
pub record AreNamed (states : List ℤ) (raw : List Transition) (n : ℕ) (steps : List Step) : Type 0 where
  pub within : All (IsStepWithin (length states)) steps
  pub same : map (named states) steps ≡ take n raw

pub named_begun : (states : List ℤ) (raw : List Transition) (steps : List Step) → steps ≡ [] → AreNamed states raw 0 steps
named_begun states raw steps e = subst (λ (ts : List Step). AreNamed states raw 0 ts) (sym e) (record { within = All-nil (IsStepWithin (length states)); same = refl })

pub named_by : (states : List ℤ) (raw : List Transition) (n : ℕ) (old new : List Step) (i j : ℕ) (r : Transition) → n < length raw → r ≡ get_or raw n r → new ≡ old ++ record { tail = i; head = j; label = r.label } ∷ [] → IsNumberOf states r.tail i → IsNumberOf states r.head j
    → AreNamed states raw n old → AreNamed states raw (n + 1) new
named_by states raw n old new i j r l is e a b p =
    let t : Step = record { tail = i; head = j; label = r.label } in
    let same : named states t ≡ r = ap (λ (x : ℤ). transition_of x (state_at states j) r.label) a.is ∙ ap (λ (x : ℤ). transition_of r.tail x r.label) b.is in
    record {
      within = subst (λ (ts : List Step). All (IsStepWithin (length states)) ts) (sym e) (All-push (IsStepWithin (length states)) old t p.within (record { tail = a.inside; head = b.inside }));
      same = named_more states raw n old new t r l is e same p.same;
    }

-- the labels of the steps
label_in : (ts hs ls : List ℤ) (r : Transition) → Contains (transitions ts hs ls) r → Contains ls r.label
label_in [] hs ls r c = absurd (let l = c.1 in omega arith)
label_in (t ∷ ts) [] ls r c = absurd (let l = c.1 in omega arith)
label_in (t ∷ ts) (h ∷ hs) [] r c = absurd (let l = c.1 in omega arith)
label_in (t ∷ ts) (h ∷ hs) (l ∷ ls) r (zero, m, e) = (0, omega arith, ap (λ (x : Transition). x.label) e)
label_in (t ∷ ts) (h ∷ hs) (l ∷ ls) r (suc k, m, e) =
    let rest = label_in ts hs ls r (k, omega arith, e) in
    (suc rest.0, (let n = rest.1 in omega arith), rest.2)

pub labels_covered : (ts hs ls finals : List ℤ) (start : ℤ) (states : List ℤ) (first : ℕ) (last : List Bool) (steps : List Step) (alphabet : List ℤ) → ((n : ℤ) → Contains ls n → Contains alphabet n) → IsNetwork (transitions ts hs ls) finals start states first last steps → HasLabelsOf steps alphabet
labels_covered ts hs ls finals start states first last steps alphabet kept net k d l =
    let t = get_or steps k d in
    kept t.label (label_in ts hs ls (named states t) (net.given t (k, l, get_or_default steps k t d l)))
