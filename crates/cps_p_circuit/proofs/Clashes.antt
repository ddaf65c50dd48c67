-- Signs that leave no circuit.
use Rattle.std.specs.Prelude.{All, Contains, count_by, slice_index, min}
use Rattle.std.proofs.Common.{◌≡◌, ◌≢◌, inl, inr, ℕ, ◌+◌, ◌-◌, ◌<◌, ◌≤◌, ℤ, Bool, true, false, not, List, [], ◌∷◌, ◌++◌, map, length, get_or, refl, sym, ◌∙◌, ap, subst, arith}
use Rattle.std.proofs.lemmas.List.Elements.{All-contains, Contains-append_left, Contains-push}
use Rattle.std.proofs.lemmas.Bool.{cases_lt, cases_eq}
use Rattle.cps_model.specs.declared.parts.Arc.{Arc}
use Rattle.cps_model.specs.Circuits.{IsCircuit, Leads, here, along, leaves, enters, is_loop, moves}
use Rattle.cps_p_circuit.specs.declared.clash.Sign.{Sign}
use Rattle.cps_p_circuit.specs.Graphs.{number, arc_at, arcs_by, IsRound, IsNumbering}
use Rattle.cps_p_circuit.specs.Clashes.{taking, leaving, IsSignMet, IsClash, IsClashingPair, IsDeserted, IsOnTour, IsArcChosen, AreChosen, NoneLeadsOut, GrowsSigns}
use Rattle.cps_p_circuit.proofs.Arcs.{not_both, member, found, two_of, some_of, kept_in, kept_from, tail_once, head_once, eq_itself, eq_is, eq_at, ne_at}

abbrev pub least : List ℕ → List ℕ → ℕ
least from to = min (length from) (length to)

-- one sign more
pub lifted : (old new : List Sign) (x p : Sign) → new ≡ old ++ x ∷ [] → Contains old p → Contains new p
lifted old new x p e h = rw e (Contains-append_left old (x ∷ []) p h)

pub pushed : (old new : List Sign) (x : Sign) → new ≡ old ++ x ∷ [] → Contains new x
pushed old new x e = rw e (Contains-push old x)

pub stay_more : (from to : List ℕ) (old new : List Sign) (node j : ℕ) → new ≡ old ++ leaving j ∷ []
    → ((m : ℕ) → m < j → slice_index from m ≡ node → slice_index to m ≡ node → Contains old (leaving m))
    → (m : ℕ) → m < j + 1 → slice_index from m ≡ node → slice_index to m ≡ node → Contains new (leaving m)
stay_more from to old new node j e h m l p q = elim (cases_lt m j) [
  | inl less ↦ lifted old new (leaving j) (leaving m) e (h m less p q)
  | inr more ↦ (let at : j ≡ m = omega arith in subst (λ (i : ℕ). Contains new (leaving i)) at (pushed old new (leaving j) e))
]

pub left_more : (from to via : List ℕ) (old new : List Sign) (k : ℕ) → new ≡ old ++ leaving k ∷ [] → NoneLeadsOut from to via old k → NoneLeadsOut from to via new (k + 1)
left_more from to via old new k e h m l p q = elim (cases_lt m k) [
  | inl less ↦ lifted old new (leaving k) (leaving m) e (h m less p q)
  | inr more ↦ (let at : k ≡ m = omega arith in subst (λ (i : ℕ). Contains new (leaving i)) at (pushed old new (leaving k) e))
]

pub chosen_more : (from to : List ℕ) (arcs : ℕ) (via : List ℕ) (old new : List Sign) (v k : ℕ) → new ≡ old ++ taking k ∷ [] → AreChosen from to arcs via old v
    → k ≡ slice_index via v - 2 → k < arcs → slice_index from k ≡ v → 1 ≤ slice_index via (slice_index to k) → AreChosen from to arcs via new (v + 1)
chosen_more from to arcs via old new v k e h is within origin target w l high = elim (cases_lt w v) [
  | inl less ↦
      (let was = h w less high in
      record { within = was.within; origin = was.origin; goal = was.goal; taken = lifted old new (taking k) _ e was.taken })
  | inr more ↦
      (let at : v ≡ w = omega arith in
      let here : IsArcChosen from to arcs via new v (slice_index via v - 2) = subst (λ (i : ℕ). IsArcChosen from to arcs via new v i) is (record { within = within; origin = origin; goal = target; taken = pushed old new (taking k) e }) in
      subst (λ (i : ℕ). IsArcChosen from to arcs via new i (slice_index via i - 2)) at here)
]

met : (taken : List Bool) (used : List Sign) (p : Sign) → All (IsSignMet taken) used → Contains used p → get_or taken p.arc false ≡ p.holds
met taken used p h c = All-contains (IsSignMet taken) used p h c

-- two taken arcs with one tail, or one head
pub pair_out : (nodes : List ℤ) (from to : List ℕ) (used : List Sign) (i j : ℕ) → IsClashingPair from (least from to) i j used → IsClash nodes from to used
pair_out nodes from to used i j h = record {
  none = λ taken signs round.
      (let a = h.first in
      let b = h.second in
      let one = tail_once nodes from to (arcs_by nodes from to taken) i (omega arith) round in
      let two = two_of (leaves (number nodes (slice_index from i))) nodes from to taken i j h.apart (omega arith) (omega arith) (omega arith) (omega arith)
      (met taken used (taking i) signs h.one) (met taken used (taking j) signs h.other) (eq_itself (number nodes (slice_index from i))) (eq_at (number nodes (slice_index from j)) (number nodes (slice_index from i)) (ap (number nodes) (sym h.same))) in
      omega arith);
}

pub pair_in : (nodes : List ℤ) (from to : List ℕ) (used : List Sign) (i j : ℕ) → IsClashingPair to (least from to) i j used → IsClash nodes from to used
pair_in nodes from to used i j h = record {
  none = λ taken signs round.
      (let a = h.first in
      let b = h.second in
      let one = head_once nodes from to (arcs_by nodes from to taken) i (omega arith) round in
      let two = two_of (enters (number nodes (slice_index to i))) nodes from to taken i j h.apart (omega arith) (omega arith) (omega arith) (omega arith)
      (met taken used (taking i) signs h.one) (met taken used (taking j) signs h.other) (eq_itself (number nodes (slice_index to i))) (eq_at (number nodes (slice_index to j)) (number nodes (slice_index to i)) (ap (number nodes) (sym h.same))) in
      omega arith);
}

once : (n : ℕ) → ((n ≡ 1 → ⊥) → ⊥) → n ≡ 1
once n h = elim (cases_eq n 1) [ inl e ↦ e | inr ne ↦ absurd (h ne) ]

-- no arc is taken at a node
pub node_out : (nodes : List ℤ) (from to : List ℕ) (v : ℕ) (taken : List Bool) → IsNumbering nodes from to → v < length nodes → IsRound nodes from to taken
    → (k : ℕ) × (k < length from) × (k < length to) × (get_or taken k false ≡ true) × (slice_index from k ≡ v)
node_out nodes from to v taken numbered l round =
    let one = once (count_by (leaves (number nodes v)) (arcs_by nodes from to taken)) (λ other. numbered.listed v l (λ h. other (All-contains (λ node. count_by (leaves node) (arcs_by nodes from to taken) ≡ 1) (map (number nodes) from ++ map (number nodes) to) (number nodes v) round.one_out h))) in
    let some = some_of (leaves (number nodes v)) nodes from to taken (omega arith) in
    let j = some.1 in
    let at = some.2 in
    let same : number nodes (slice_index from j) ≡ number nodes v = ap (λ (x : Arc). x.tail) at.is ∙ eq_is some.0.tail (number nodes v) some.3 in
    (j, at.tail_within, at.head_within, at.on, numbered.apart _ _ (numbered.tails j at.tail_within) l same)

pub node_in : (nodes : List ℤ) (from to : List ℕ) (v : ℕ) (taken : List Bool) → IsNumbering nodes from to → v < length nodes → IsRound nodes from to taken
    → (k : ℕ) × (k < length from) × (k < length to) × (get_or taken k false ≡ true) × (slice_index to k ≡ v)
node_in nodes from to v taken numbered l round =
    let one = once (count_by (enters (number nodes v)) (arcs_by nodes from to taken)) (λ other. numbered.listed v l (λ h. other (All-contains (λ node. count_by (enters node) (arcs_by nodes from to taken) ≡ 1) (map (number nodes) from ++ map (number nodes) to) (number nodes v) round.one_in h))) in
    let some = some_of (enters (number nodes v)) nodes from to taken (omega arith) in
    let j = some.1 in
    let at = some.2 in
    let same : number nodes (slice_index to j) ≡ number nodes v = ap (λ (x : Arc). x.head) at.is ∙ eq_is some.0.head (number nodes v) some.3 in
    (j, at.tail_within, at.head_within, at.on, numbered.apart _ _ (numbered.heads j at.head_within) l same)

pub none_out : (nodes : List ℤ) (from to : List ℕ) (used : List Sign) (v : ℕ) → IsNumbering nodes from to → v < length nodes → IsDeserted from (least from to) v used → IsClash nodes from to used
none_out nodes from to used v numbered l h = record {
  none = λ taken signs round.
      (let one = node_out nodes from to v taken numbered l round in
      let p = one.1 in
      let q = one.2 in
      not_both _ one.3 (met taken used (leaving one.0) signs (h.each one.0 (omega arith) one.4)));
}

pub none_in : (nodes : List ℤ) (from to : List ℕ) (used : List Sign) (v : ℕ) → IsNumbering nodes from to → v < length nodes → IsDeserted to (least from to) v used → IsClash nodes from to used
none_in nodes from to used v numbered l h = record {
  none = λ taken signs round.
      (let one = node_in nodes from to v taken numbered l round in
      let p = one.1 in
      let q = one.2 in
      not_both _ one.3 (met taken used (leaving one.0) signs (h.each one.0 (omega arith) one.4)));
}

-- a taken arc that is no loop is a move
pub is_move : (nodes : List ℤ) (from to : List ℕ) (taken : List Bool) (k : ℕ) → IsNumbering nodes from to → k < length from → k < length to → get_or taken k false ≡ true → slice_index from k ≢ slice_index to k → Contains (moves (arcs_by nodes from to taken)) (arc_at nodes from to k)
is_move nodes from to taken k numbered p q t ne =
    let apart = ne_at (number nodes (slice_index from k)) (number nodes (slice_index to k)) (λ e. ne (numbered.apart _ _ (numbered.tails k p) (numbered.heads k q) e)) in
    kept_in (λ (arc : Arc). not (is_loop arc)) (arcs_by nodes from to taken) (arc_at nodes from to k) (member nodes from to taken k p q t) (ap not apart)

-- a node that is on the circuit is left by a move
pub leaves_on_tour : (nodes : List ℤ) (from to : List ℕ) (used : List Sign) (k : ℕ) (taken : List Bool) → IsNumbering nodes from to → IsOnTour from to (least from to) k used → All (IsSignMet taken) used → IsRound nodes from to taken → (arc : Arc) × Contains (moves (arcs_by nodes from to taken)) arc × (arc.tail ≡ number nodes (slice_index from k))
leaves_on_tour nodes from to used k taken numbered h signs round = let a = h.within in elim h.sure [
  | inl moving ↦ (arc_at nodes from to k, is_move nodes from to taken k numbered (omega arith) (omega arith) (met taken used (taking k) signs moving.1) moving.0, refl)
  | inr staying ↦
      (let one = tail_once nodes from to (arcs_by nodes from to taken) k (omega arith) round in
      let some = some_of (leaves (number nodes (slice_index from k))) nodes from to taken (omega arith) in
      let j = some.1 in
      let at = some.2 in
      let p = at.tail_within in
      let q = at.head_within in
      let same : number nodes (slice_index from j) ≡ number nodes (slice_index from k) = ap (λ (x : Arc). x.tail) at.is ∙ eq_is some.0.tail (number nodes (slice_index from k)) some.3 in
      let place = numbered.apart _ _ (numbered.tails j p) (numbered.tails k (omega arith)) same in
      let ne : slice_index from j ≢ slice_index to j = λ e. not_both _ at.on (met taken used (leaving j) signs (staying j (omega arith) place (sym e ∙ place))) in
      (arc_at nodes from to j, is_move nodes from to taken j numbered p q at.on ne, same))
]

-- what is led to from a closed set of nodes is in it
pub closed_along : (In : ℤ → Type 0) (arcs : List Arc) → ((x y : ℤ) → Contains arcs (record { tail = x; head = y }) → In x → In y) → (x y : ℤ) → Leads arcs x y → In x → In y
closed_along In arcs closed x y (here _) s = s
closed_along In arcs closed x y (along _ z _ arc rest) s = closed_along In arcs closed z y rest (closed x z arc s)

-- a circuit has no arc out of some of its nodes' number to others
pub no_cut : (In : ℤ → Type 0) (nodes : List ℤ) (arcs : List Arc) → IsCircuit nodes arcs → ((x y : ℤ) → Contains (moves arcs) (record { tail = x; head = y }) → In x → In y) → (p q : Arc) → Contains (moves arcs) p → Contains (moves arcs) q → In p.tail → In q.tail
no_cut In nodes arcs round closed p q pin qin s =
    let leads = All-contains (λ (b : Arc). Leads (moves arcs) p.tail b.tail) (moves arcs) q (All-contains (λ (a : Arc). All (λ b. Leads (moves arcs) a.tail b.tail) (moves arcs)) (moves arcs) p round.single pin) qin in
    closed_along In (moves arcs) closed p.tail q.tail leads s

-- the nodes that are marked, by their numbers
abbrev pub Marked : List ℤ → List ℕ → ℤ → Type 0
Marked nodes via x = (v : ℕ) → v < length nodes → number nodes v ≡ x → 1 ≤ slice_index via v

pub record IsCut (nodes : List ℤ) (from to via : List ℕ) (i o : ℕ) (used : List Sign) : Type 0 where
  pub inner : IsOnTour from to (least from to) i used
  pub outer : IsOnTour from to (least from to) o used
  pub inside : slice_index via (slice_index from i) ≢ 0
  pub outside : slice_index via (slice_index from o) ≡ 0
  pub chosen : AreChosen from to (least from to) via used (length nodes)
  pub left : NoneLeadsOut from to via used (least from to)

-- an arc that is taken from a marked node leads to a marked node
stays_marked : (nodes : List ℤ) (from to via : List ℕ) (used : List Sign) (taken : List Bool) (k : ℕ) → IsNumbering nodes from to → AreChosen from to (least from to) via used (length nodes) → NoneLeadsOut from to via used (least from to) → All (IsSignMet taken) used → IsRound nodes from to taken → k < length from → k < length to → get_or taken k false ≡ true → 1 ≤ slice_index via (slice_index from k) → 1 ≤ slice_index via (slice_index to k)
stays_marked nodes from to via used taken k numbered chosen left signs round p q t s = elim (cases_lt 0 (slice_index via (slice_index to k))) [
  | inl some ↦ omega arith
  | inr none ↦ elim (cases_lt (slice_index via (slice_index from k)) 2) [
    | inl one ↦ absurd (not_both _ t (met taken used (leaving k) signs (left k (omega arith) (omega arith) (omega arith))))
    | inr more ↦
        (let by = chosen (slice_index from k) (numbered.tails k p) (omega arith) in
        let j = slice_index via (slice_index from k) - 2 in
        let l = by.within in
        let there = by.goal in
        let ne : k ≢ j = λ e. (let same : slice_index via (slice_index to k) ≡ slice_index via (slice_index to j) = ap (λ (i : ℕ). slice_index via (slice_index to i)) e in omega arith) in
        let once = tail_once nodes from to (arcs_by nodes from to taken) k p round in
        let two = two_of (leaves (number nodes (slice_index from k))) nodes from to taken k j ne p q (omega arith) (omega arith) t (met taken used (taking j) signs by.taken) (eq_itself (number nodes (slice_index from k))) (eq_at (number nodes (slice_index from j)) (number nodes (slice_index from k)) (ap (number nodes) by.origin)) in
        absurd (omega arith))
  ]
]

pub cut_clash : (nodes : List ℤ) (from to via : List ℕ) (inner outer : ℕ) (used : List Sign) → IsNumbering nodes from to → IsCut nodes from to via inner outer used → IsClash nodes from to used
cut_clash nodes from to via inner outer used numbered h = record {
  none = λ taken signs round.
      (let a = h.inner.within in
      let b = h.outer.within in
      let s = h.inside in
      let e = h.outside in
      let p = leaves_on_tour nodes from to used inner taken numbered h.inner signs round in
      let q = leaves_on_tour nodes from to used outer taken numbered h.outer signs round in
      let at_inner : Marked nodes via p.0.tail = λ v l is.
      (let same : v ≡ slice_index from inner = numbered.apart _ _ l (numbered.tails inner (omega arith)) (is ∙ p.2) in subst (λ (i : ℕ). 1 ≤ slice_index via i) (sym same) (omega arith)) in
      let closed : (x y : ℤ) → Contains (moves (arcs_by nodes from to taken)) (record { tail = x; head = y }) → Marked nodes via x → Marked nodes via y = λ x y arc s v l is.
      (let kept = kept_from (λ (arc : Arc). not (is_loop arc)) (arcs_by nodes from to taken) (record { tail = x; head = y }) arc in
      let at = found nodes from to taken (record { tail = x; head = y }) kept.0 in
      let k = at.0 in
      let m = at.1.tail_within in
      let n = at.1.head_within in
      let on = stays_marked nodes from to via used taken k numbered h.chosen h.left signs round m n at.1.on (s (slice_index from k) (numbered.tails k m) (ap (λ (x : Arc). x.tail) at.1.is)) in
      let same : v ≡ slice_index to k = numbered.apart _ _ l (numbered.heads k n) (is ∙ sym (ap (λ (x : Arc). x.head) at.1.is)) in
      subst (λ (i : ℕ). 1 ≤ slice_index via i) (sym same) on) in
      let there = no_cut (Marked nodes via) _ (arcs_by nodes from to taken) round closed p.0 q.0 p.1 q.1 at_inner in
      let here = there (slice_index from outer) (numbered.tails outer (omega arith)) (sym q.2) in
      omega arith);
}

-- what was shown by fewer signs
pub tour_grows : (from to : List ℕ) (arcs k : ℕ) (old new : List Sign) → GrowsSigns old new → IsOnTour from to arcs k old → IsOnTour from to arcs k new
tour_grows from to arcs k old new g h = record {
  within = h.within;
  sure = elim h.sure [
    | inl moving ↦ inl (moving.0, g (taking k) moving.1)
    | inr staying ↦ inr (λ j l p q. g (leaving j) (staying j l p q))
  ];
}

pub chosen_grows : (from to : List ℕ) (arcs : ℕ) (via : List ℕ) (old new : List Sign) (n : ℕ) → GrowsSigns old new → AreChosen from to arcs via old n → AreChosen from to arcs via new n
chosen_grows from to arcs via old new n g h v l high =
    let was = h v l high in
    record { within = was.within; origin = was.origin; goal = was.goal; taken = g _ was.taken }
