-- The order of a plan, and what it says of strategies and variables.
use Rattle.std.specs.Prelude.{All, Some}
use Rattle.std.specs.List.{range_with_len}
use Rattle.std.proofs.Common.{◌≡◌, ℕ, ◌+◌, ◌-◌, ◌≤◌, ◌<◌, List, [], ◌∷◌, ◌++◌, length, length-append, take, drop, get_or, refl, sym, ◌∙◌, ap, subst, inr, arith}
use Rattle.std.proofs.Math.Seq.{take-append-add}
use Rattle.std.proofs.lemmas.List.{append_assoc, drop_more, flat_map_more, get_or_append_left, get_or-append_right, get_or-take, length-take, map-id, take-append-le, take_more}
use Rattle.std.proofs.lemmas.List.Elements.{All-nil, All-append, All-get_or, All-from_get_or}
use Rattle.std.proofs.lemmas.List.FromFn.{get_or-range_with_len, length-range_with_len, map-range_with_len_more}
use Rattle.cps_literal.specs.declared.atom.Atom.{Atom}
use Rattle.cps_instance.specs.declared.steering.Steering.{Steering}
use Rattle.cps_instance.proofs.Agreeing.{All-append_left, All-append_right}
use Rattle.cps_trail.specs.Trail.{Trail}
use Rattle.cps_branch.specs.Fixed.{IsFixed, AreFixed}
use Rattle.cps_branch.specs.Choice.{TakesLeast, IsFirstOpen}
use Rattle.cps_branch.specs.Strategies.{AreWithin, ChoosesSteered, IsDone, IsOpenPlace, listed, order_of}

-- what is listed from a strategy on
pub listed_from : (gs : List Steering) (k : ℕ) (g : Steering) → k < length gs → g ≡ get_or gs k g → listed (drop k gs) ≡ g.subjects ++ listed (drop (k + 1) gs)
listed_from gs k g l at = ap (λ (hs : List Steering). listed hs) (drop_more gs k g l ∙ ap (λ (h : Steering). h ∷ drop (k + 1) gs) (sym at))

-- what the items before a place have, those of the first part before it have
pub first_part : (P : ℕ → Type 0) (xs ys zs : List ℕ) (n : ℕ) → zs ≡ xs ++ ys → n ≤ length xs → All P (take n zs) → All P (take n xs)
first_part P xs ys zs n e l h = subst (All P) (ap (take n) e ∙ take-append-le n xs ys l) h

-- and where the place is past the first part, all of that, and those of the second part before it
pub both_parts : (P : ℕ → Type 0) (xs ys zs : List ℕ) (n : ℕ) → zs ≡ xs ++ ys → length xs ≤ n → All P (take n zs) → All P xs × All P (take (n - length xs) ys)
both_parts P xs ys zs n e l h =
    let m : ℕ = n - length xs in
    let split : n ≡ length xs + m = omega arith in
    let longer : take n zs ≡ xs ++ take m ys = ap (take n) e ∙ ap (λ (k : ℕ). take k (xs ++ ys)) split ∙ take-append-add xs ys m in
    let all = subst (All P) longer h in
    (All-append_left P xs (take m ys) all, All-append_right P xs (take m ys) all)

listed_within : (n : ℕ) (gs : List Steering) → AreWithin n gs → All (λ i. i < n) (listed gs)
listed_within n [] h = All-nil (λ (i : ℕ). i < n)
listed_within n (g ∷ gs) h =
    let here : All (λ i. i < n) g.subjects = All-get_or (λ (f : Steering). All (λ i. i < n) f.subjects) (g ∷ gs) 0 g (omega arith) h in
    All-append (λ (i : ℕ). i < n) g.subjects (listed gs) here (listed_within n gs (All-append_right (λ (f : Steering). All (λ i. i < n) f.subjects) (g ∷ []) gs h))

-- all subjects of the order are among the first so many
pub order_within : (n m : ℕ) (gs : List Steering) → AreWithin n gs → m ≤ n → All (λ i. i < n) (order_of gs m)
order_within n m gs h l =
    All-append (λ (i : ℕ). i < n) (listed gs) (range_with_len 0 m) (listed_within n gs h)
    (All-from_get_or (λ (i : ℕ). i < n) (range_with_len 0 m) 0 (λ i k. let b : i < m = omega (arith, k, length-range_with_len 0 m) in omega (arith, get_or-range_with_len 0 m i 0 b, b, l)))

pub order_length : (gs : List Steering) (m : ℕ) → length (order_of gs m) ≡ length (listed gs) + m
order_length gs m = omega (arith, length-append (listed gs) (range_with_len 0 m), length-range_with_len 0 m)

-- what stands at a place of the order
listed_at : (gs : List Steering) (m i : ℕ) → i < length (listed gs) → get_or (order_of gs m) i 0 ≡ get_or (listed gs) i 0
listed_at gs m i l = get_or_append_left (listed gs) (range_with_len 0 m) 0 i l

variable_at : (gs : List Steering) (m i p : ℕ) → p ≡ length (listed gs) + i → i < m → get_or (order_of gs m) p 0 ≡ i
variable_at gs m i p e l =
    get_or-append_right (listed gs) (range_with_len 0 m) (length (listed gs)) p 0 refl (omega arith) ∙ ap (λ (k : ℕ). get_or (range_with_len 0 m) k 0) place ∙ get_or-range_with_len 0 m i 0 l ∙ none
  where
    none : 0 + i ≡ i
    none = omega arith

    place : p - length (listed gs) ≡ i
    place = omega arith

-- at an open place the listed subjects before it are fixed, and that at the place is not
pub listed_before : (s : Trail) (gs : List Steering) (m place : ℕ) → IsOpenPlace s (order_of gs m) place → All (IsFixed s) (take place (listed gs))
listed_before s gs m place o = All-from_get_or (IsFixed s) (take place (listed gs)) 0 (λ i k. at i (omega (arith, k, length-take place (listed gs))) (omega (arith, k, length-take place (listed gs))))
  where
    at : (i : ℕ) → i < place → i < length (listed gs) → IsFixed s (get_or (take place (listed gs)) i 0)
    at i a b = subst (IsFixed s) (listed_at gs m i b ∙ sym (get_or-take place (listed gs) i 0 a)) (o.before i a)

pub listed_open : (s : Trail) (gs : List Steering) (m place : ℕ) → IsOpenPlace s (order_of gs m) place → place < length (listed gs) → IsFixed s (get_or (listed gs) place 0) → ⊥
listed_open s gs m place o l f = o.open_now (subst (IsFixed s) (sym (listed_at gs m place l)) f)

-- past the listed subjects stands the first variable that is not fixed
pub chooses_variable : (s : Trail) (gs : List Steering) (m place : ℕ) (t : Atom) → IsOpenPlace s (order_of gs m) place → length (listed gs) ≤ place → All (IsDone s) gs → t.subject ≡ get_or (order_of gs m) place 0 → TakesLeast s t
    → ChoosesSteered gs m s (Some t)
chooses_variable s gs m place t o past done is least = inr (done, (least, subst (IsFirstOpen m s) (sym (is ∙ here)) first))
  where
    v : ℕ
    v = place - length (listed gs)

    low : v < m
    low = omega (arith, past, o.within, order_length gs m)

    here : get_or (order_of gs m) place 0 ≡ v
    here = variable_at gs m v place (omega (arith, past)) low

    first : IsFirstOpen m s v
    first = record {
      within = low;
      before = λ i l. subst (IsFixed s) (variable_at gs m i (length (listed gs) + i) refl (omega (arith, l, low))) (o.before (length (listed gs) + i) (omega (arith, l, past)));
      open_now = λ f. o.open_now (subst (IsFixed s) (sym here) f);
    }

-- where the subjects at all places are fixed, so are the variables
pub all_variables : (s : Trail) (gs : List Steering) (m : ℕ) → ((i : ℕ) → i < length (order_of gs m) → IsFixed s (get_or (order_of gs m) i 0)) → AreFixed s m
all_variables s gs m fixed i l = subst (IsFixed s) (variable_at gs m i (length (listed gs) + i) refl l) (fixed (length (listed gs) + i) (omega (arith, l, order_length gs m)))

-- one more variable, and one more strategy
range_more : (n : ℕ) → range_with_len 0 (n + 1) ≡ range_with_len 0 n ++ n ∷ []
range_more n = sym (map-id (range_with_len 0 (n + 1))) ∙ map-range_with_len_more (λ (i : ℕ). i) 0 n n (omega arith) ∙ ap (λ (xs : List ℕ). xs ++ n ∷ []) (map-id (range_with_len 0 n))

pub order_more : (gs : List Steering) (n : ℕ) (items : List ℕ) → items ≡ listed gs ++ range_with_len 0 n → items ++ n ∷ [] ≡ listed gs ++ range_with_len 0 (n + 1)
order_more gs n items e =
    ap (λ (xs : List ℕ). xs ++ n ∷ []) e ∙ append_assoc (listed gs) (range_with_len 0 n) (n ∷ []) ∙ ap (λ (xs : List ℕ). listed gs ++ xs) (sym (range_more n))

pub listed_more : (gs : List Steering) (k : ℕ) (g : Steering) → k < length gs → g ≡ get_or gs k g → listed (take k gs) ++ g.subjects ≡ listed (take (k + 1) gs)
listed_more gs k g l at =
    flat_map_more (λ (h : Steering). h.subjects) [] (take k gs) g
    ∙ ap (λ (hs : List Steering). listed hs) (ap (λ (h : Steering). take k gs ++ h ∷ []) at ∙ sym (take_more gs k g l))

-- one more copy
pub copied_more : (gs copies news : List Steering) (k : ℕ) (g copy : Steering) → k < length gs → g ≡ get_or gs k g → copy ≡ g → copies ≡ take k gs → news ≡ copies ++ copy ∷ [] → news ≡ take (k + 1) gs
copied_more gs copies news k g copy l at same e pushed =
    pushed ∙ ap (λ (hs : List Steering). hs ++ copy ∷ []) e ∙ ap (λ (h : Steering). take k gs ++ h ∷ []) (same ∙ at) ∙ sym (take_more gs k g l)
