-- The taken arcs by their indices.
use Rattle.std.specs.Prelude.{Contains, count_by, slice_index}
use Rattle.std.specs.List.{filter}
use Rattle.std.specs.Ordering.{int_eq}
use Rattle.std.proofs.Common.{◌≡◌, ◌≢◌, inl, inr, ℕ, zero, suc, ◌+◌, ◌<◌, ◌≤◌, ℤ, Bool, true, false, cond, List, [], ◌∷◌, ◌++◌, map, length, get_or, refl, sym, ◌∙◌, ap, subst, arith}
use Rattle.std.proofs.lemmas.List.Elements.{All-contains, Contains-append_left, Contains-append_right}
use Rattle.std.proofs.lemmas.List.{get_or-map}
use Rattle.std.proofs.lemmas.Bool.{cases_lt}
use Rattle.std.proofs.lemmas.List.Sums.{sum_by-cons}
use Rattle.std.proofs.Math.ListN.{length-map}
use Rattle.std.proofs.lemmas.Bool.Decides.{Decides-int_eq}
use Rattle.cps_model.specs.declared.parts.Arc.{Arc}
use Rattle.cps_model.specs.Circuits.{IsCircuit, leaves, enters}
use Rattle.cps_p_circuit.specs.Graphs.{number, arc_at, arcs_by}

pub not_both : (b : Bool) → b ≡ true → b ≡ false → ⊥
not_both b p q = cc

pub Contains-more : {X : Type 0} (y : X) (xs : List X) (x : X) → Contains xs x → Contains (y ∷ xs) x
Contains-more y xs x (k, l, e) = (suc k, omega arith, e)

-- a taken arc is among them
pub member : (nodes : List ℤ) (from to : List ℕ) (taken : List Bool) (k : ℕ) → k < length from → k < length to → get_or taken k false ≡ true → Contains (arcs_by nodes from to taken) (arc_at nodes from to k)
member nodes [] to ts k p q t = absurd (omega arith)
member nodes (a ∷ fs) [] ts k p q t = absurd (omega arith)
member nodes (a ∷ fs) (b ∷ hs) [] k p q t = absurd (cc)
member nodes (a ∷ fs) (b ∷ hs) (true ∷ ts) zero p q t = (0, omega arith, refl)
member nodes (a ∷ fs) (b ∷ hs) (false ∷ ts) zero p q t = absurd (cc)
member nodes (a ∷ fs) (b ∷ hs) (true ∷ ts) (suc k) p q t = Contains-more _ _ _ (member nodes fs hs ts k (omega arith) (omega arith) t)
member nodes (a ∷ fs) (b ∷ hs) (false ∷ ts) (suc k) p q t = member nodes fs hs ts k (omega arith) (omega arith) t

-- where an arc among them stands
pub record StandsAt (nodes : List ℤ) (from to : List ℕ) (taken : List Bool) (arc : Arc) (k : ℕ) : Type 0 where
  pub tail_within : k < length from
  pub head_within : k < length to
  pub on : get_or taken k false ≡ true
  pub is : arc_at nodes from to k ≡ arc

stands_more : (nodes : List ℤ) (a b : ℕ) (t : Bool) (from to : List ℕ) (taken : List Bool) (arc : Arc) (k : ℕ) → StandsAt nodes from to taken arc k → StandsAt nodes (a ∷ from) (b ∷ to) (t ∷ taken) arc (suc k)
stands_more nodes a b t from to taken arc k h = record {
  tail_within = let l = h.tail_within in omega arith;
  head_within = let l = h.head_within in omega arith;
  on = h.on;
  is = h.is;
}

pub found : (nodes : List ℤ) (from to : List ℕ) (taken : List Bool) (arc : Arc) → Contains (arcs_by nodes from to taken) arc → (k : ℕ) × StandsAt nodes from to taken arc k
found nodes [] to ts arc (k, l, e) = absurd (omega arith)
found nodes (a ∷ fs) [] ts arc (k, l, e) = absurd (omega arith)
found nodes (a ∷ fs) (b ∷ hs) [] arc (k, l, e) = absurd (omega arith)
found nodes (a ∷ fs) (b ∷ hs) (true ∷ ts) arc (zero, l, e) = (0, record { tail_within = omega arith; head_within = omega arith; on = refl; is = e })
found nodes (a ∷ fs) (b ∷ hs) (true ∷ ts) arc (suc k, l, e) =
    let rest = found nodes fs hs ts arc (k, omega arith, e) in (suc rest.0, stands_more nodes a b true fs hs ts arc rest.0 rest.1)
found nodes (a ∷ fs) (b ∷ hs) (false ∷ ts) arc (k, l, e) =
    let rest = found nodes fs hs ts arc (k, l, e) in (suc rest.0, stands_more nodes a b false fs hs ts arc rest.0 rest.1)

count_more : (test : Arc → Bool) (x : Arc) (xs : List Arc) → count_by test (x ∷ xs) ≡ cond (test x) 1 0 + count_by test xs
count_more test x xs = sum_by-cons (λ (y : Arc). cond (test y) 1 0) x xs

-- one that passes a test, two, none, and some
hit : (b : Bool) (m n : ℕ) → b ≡ true → m ≤ n → m + 1 ≤ cond b 1 0 + n
hit true m n e l = omega arith
hit false m n e l = absurd (cc)

hit_more : (test : Arc → Bool) (x : Arc) (xs : List Arc) (m : ℕ) → test x ≡ true → m ≤ count_by test xs → m + 1 ≤ count_by test (x ∷ xs)
hit_more test x xs m e l = subst (λ (n : ℕ). m + 1 ≤ n) (sym (count_more test x xs)) (hit (test x) m (count_by test xs) e l)

any_more : (test : Arc → Bool) (x : Arc) (xs : List Arc) (m : ℕ) → m ≤ count_by test xs → m ≤ count_by test (x ∷ xs)
any_more test x xs m l = let e = count_more test x xs in omega arith

pub one_of : (test : Arc → Bool) (nodes : List ℤ) (from to : List ℕ) (taken : List Bool) (k : ℕ) → k < length from → k < length to → get_or taken k false ≡ true → test (arc_at nodes from to k) ≡ true → 1 ≤ count_by test (arcs_by nodes from to taken)
one_of test nodes [] to ts k p q t e = absurd (omega arith)
one_of test nodes (a ∷ fs) [] ts k p q t e = absurd (omega arith)
one_of test nodes (a ∷ fs) (b ∷ hs) [] k p q t e = absurd (cc)
one_of test nodes (a ∷ fs) (b ∷ hs) (true ∷ ts) zero p q t e = hit_more test (record { tail = number nodes a; head = number nodes b }) (arcs_by nodes fs hs ts) 0 e (omega arith)
one_of test nodes (a ∷ fs) (b ∷ hs) (false ∷ ts) zero p q t e = absurd (cc)
one_of test nodes (a ∷ fs) (b ∷ hs) (true ∷ ts) (suc k) p q t e = any_more test _ (arcs_by nodes fs hs ts) 1 (one_of test nodes fs hs ts k (omega arith) (omega arith) t e)
one_of test nodes (a ∷ fs) (b ∷ hs) (false ∷ ts) (suc k) p q t e = one_of test nodes fs hs ts k (omega arith) (omega arith) t e

two_in_order : (test : Arc → Bool) (nodes : List ℤ) (from to : List ℕ) (taken : List Bool) (i j : ℕ) → i < j → j < length from → j < length to → get_or taken i false ≡ true → get_or taken j false ≡ true → test (arc_at nodes from to i) ≡ true → test (arc_at nodes from to j) ≡ true → 2 ≤ count_by test (arcs_by nodes from to taken)
two_in_order test nodes [] to ts i j o p q s t e f = absurd (omega arith)
two_in_order test nodes (a ∷ fs) [] ts i j o p q s t e f = absurd (omega arith)
two_in_order test nodes (a ∷ fs) (b ∷ hs) [] i j o p q s t e f = absurd (cc)
two_in_order test nodes (a ∷ fs) (b ∷ hs) (u ∷ ts) i zero o p q s t e f = absurd (omega arith)
two_in_order test nodes (a ∷ fs) (b ∷ hs) (true ∷ ts) zero (suc j) o p q s t e f =
    let rest = one_of test nodes fs hs ts j (omega arith) (omega arith) t f in hit_more test (record { tail = number nodes a; head = number nodes b }) (arcs_by nodes fs hs ts) 1 e rest
two_in_order test nodes (a ∷ fs) (b ∷ hs) (false ∷ ts) zero (suc j) o p q s t e f = absurd (cc)
two_in_order test nodes (a ∷ fs) (b ∷ hs) (true ∷ ts) (suc i) (suc j) o p q s t e f =
    any_more test _ (arcs_by nodes fs hs ts) 2 (two_in_order test nodes fs hs ts i j (omega arith) (omega arith) (omega arith) s t e f)
two_in_order test nodes (a ∷ fs) (b ∷ hs) (false ∷ ts) (suc i) (suc j) o p q s t e f = two_in_order test nodes fs hs ts i j (omega arith) (omega arith) (omega arith) s t e f

pub two_of : (test : Arc → Bool) (nodes : List ℤ) (from to : List ℕ) (taken : List Bool) (i j : ℕ) → i ≢ j → i < length from → i < length to → j < length from → j < length to → get_or taken i false ≡ true → get_or taken j false ≡ true → test (arc_at nodes from to i) ≡ true → test (arc_at nodes from to j) ≡ true → 2 ≤ count_by test (arcs_by nodes from to taken)
two_of test nodes from to taken i j ne p q r l s t e f = elim (cases_lt i j) [
  | inl up ↦ two_in_order test nodes from to taken i j up r l s t e f
  | inr down ↦ two_in_order test nodes from to taken j i (omega arith) p q t s f e
]

-- one that passes a test stands somewhere
some_list : (test : Arc → Bool) (arcs : List Arc) → 1 ≤ count_by test arcs → (arc : Arc) × Contains arcs arc × (test arc ≡ true)
some_list test [] h = absurd (omega arith)
some_list test (x ∷ xs) h = by (test x) refl (subst (λ (n : ℕ). 1 ≤ n) (count_more test x xs) h) (λ less. some_list test xs less)
  where
    by : (b : Bool) → test x ≡ b → 1 ≤ cond b 1 0 + count_by test xs → (1 ≤ count_by test xs → (arc : Arc) × Contains xs arc × (test arc ≡ true)) → (arc : Arc) × Contains (x ∷ xs) arc × (test arc ≡ true)
    by true e h rest = (x, (0, omega arith, refl), e)
    by false e h rest = let one = rest (omega arith) in (one.0, Contains-more x xs one.0 one.1, one.2)

pub some_of : (test : Arc → Bool) (nodes : List ℤ) (from to : List ℕ) (taken : List Bool) → 1 ≤ count_by test (arcs_by nodes from to taken) → (arc : Arc) × (k : ℕ) × StandsAt nodes from to taken arc k × (test arc ≡ true)
some_of test nodes from to taken h =
    let one = some_list test (arcs_by nodes from to taken) h in
    let at = found nodes from to taken one.0 one.1 in
    (one.0, at.0, at.1, one.2)

-- what a filter keeps
pub kept_in : {X : Type 0} (test : X → Bool) (xs : List X) (x : X) → Contains xs x → test x ≡ true → Contains (filter test xs) x
kept_in test [] x (k, l, e) t = absurd (omega arith)
kept_in test (y ∷ ys) x (zero, l, e) t = rw (ap test e ∙ t) (0, omega arith, e)
kept_in {X} test (y ∷ ys) x (suc k, l, e) t = by (test y) (kept_in test ys x (k, omega arith, e) t)
  where
    by : (b : Bool) → Contains (filter test ys) x → Contains (cond b (y ∷ filter test ys) (filter test ys)) x
    by true h = Contains-more y (filter test ys) x h
    by false h = h

pub kept_from : {X : Type 0} (test : X → Bool) (xs : List X) (x : X) → Contains (filter test xs) x → Contains xs x × (test x ≡ true)
kept_from test [] x (k, l, e) = absurd (omega arith)
kept_from {X} test (y ∷ ys) x h = by (test y) refl h (λ g. kept_from test ys x g)
  where
    by : (b : Bool) → test y ≡ b → Contains (cond b (y ∷ filter test ys) (filter test ys)) x → (Contains (filter test ys) x → Contains ys x × (test x ≡ true)) → Contains (y ∷ ys) x × (test x ≡ true)
    by true e (zero, l, f) rest = ((0, omega arith, f), subst (λ (z : X). test z ≡ true) f e)
    by true e (suc k, l, f) rest = let one = rest (k, omega arith, f) in (Contains-more y ys x one.0, one.1)
    by false e g rest = let one = rest g in (Contains-more y ys x one.0, one.1)

-- each end of an arc is a node
pub mapped : (nodes : List ℤ) (ends : List ℕ) (k : ℕ) → k < length ends → Contains (map (number nodes) ends) (number nodes (slice_index ends k))
mapped nodes ends k l = (k, rw length-map l, get_or-map (number nodes) ends k 0 _ l)

pub tail_once : (nodes : List ℤ) (from to : List ℕ) (arcs : List Arc) (k : ℕ) → k < length from → IsCircuit (map (number nodes) from ++ map (number nodes) to) arcs → count_by (leaves (number nodes (slice_index from k))) arcs ≡ 1
tail_once nodes from to arcs k l h =
    All-contains (λ node. count_by (leaves node) arcs ≡ 1) (map (number nodes) from ++ map (number nodes) to) (number nodes (slice_index from k)) h.one_out
    (Contains-append_left (map (number nodes) from) (map (number nodes) to) _ (mapped nodes from k l))

pub head_once : (nodes : List ℤ) (from to : List ℕ) (arcs : List Arc) (k : ℕ) → k < length to → IsCircuit (map (number nodes) from ++ map (number nodes) to) arcs → count_by (enters (number nodes (slice_index to k))) arcs ≡ 1
head_once nodes from to arcs k l h =
    All-contains (λ node. count_by (enters node) arcs ≡ 1) (map (number nodes) from ++ map (number nodes) to) (number nodes (slice_index to k)) h.one_in
    (Contains-append_right (map (number nodes) from) (map (number nodes) to) _ (mapped nodes to k l))

pub eq_itself : (x : ℤ) → int_eq x x ≡ true
eq_itself x = (Decides-int_eq x x).1 refl

pub eq_is : (x y : ℤ) → int_eq x y ≡ true → x ≡ y
eq_is x y h = (Decides-int_eq x y).0 h

pub eq_at : (x y : ℤ) → x ≡ y → int_eq x y ≡ true
eq_at x y h = (Decides-int_eq x y).1 h

pub ne_at : (x y : ℤ) → x ≢ y → int_eq x y ≡ false
ne_at x y h = by (int_eq x y) refl
  where
    by : (b : Bool) → int_eq x y ≡ b → int_eq x y ≡ false
    by true e = absurd (h (eq_is x y e))
    by false e = e
