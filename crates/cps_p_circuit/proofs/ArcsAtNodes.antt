-- What degrees give, and what is left where they give nothing.
use Rattle.std.specs.Prelude.{All, Contains, IfSome, Option, slice_index, min, not}
use Rattle.std.proofs.Common.{◌≡◌, ◌≢◌, ◌⊎◌, inl, inr, ℕ, zero, suc, ◌+◌, ◌-◌, ◌<◌, ◌≤◌, ℤ, pos, Bool, true, false, true≢false, List, [], ◌∷◌, ◌++◌, map, length, get_or, refl, sym, ◌∙◌, ap, subst, arith, length-append}
use Rattle.std.proofs.lemmas.Bool.{cases_lt, cases_eq}
use Rattle.std.proofs.lemmas.Int.{ints}
use Rattle.std.proofs.Math.ListN.{length-map}
use Rattle.std.proofs.lemmas.List.{get_or-map, get_or_append_left, length-map as mapped_length}
use Rattle.std.proofs.lemmas.List.Elements.{All-nil, All-cons, All-push, All-append, All-contains, Contains-push}
use Rattle.cps_literal.specs.declared.atom.Atom.{Atom}
use Rattle.cps_literal.specs.declared.atom.Op.TheVariants.{Le}
use Rattle.cps_literal.specs.declared.atom.Truth.{Truth}
use Rattle.cps_literal.specs.declared.atom.Truth.TheVariants.{Yes, No, Undecided}
use Rattle.cps_literal.specs.Truth.{value_at, atom_holds, meets}
use Rattle.cps_instance.specs.declared.task.Body.{Body}
use Rattle.cps_instance.specs.declared.task.Body.TheVariants.{Circuit}
use Rattle.cps_instance.specs.Terms.{Domains}
use Rattle.cps_instance.specs.Fitting.{IsFittingBody}
use Rattle.cps_instance.specs.Tasks.{HoldsBody, atom_subjects}
use Rattle.cps_trail.specs.Trail.{Trail, admits, IsTrueNow, IsFalseNow, IsAdmitted}
use Rattle.cps_propagate.specs.Degrees.{IsArcAt, IsTaken, IsUntaken, HasTwoArcs, HasNoArc, IsNodeLost, HasLostNode, HasOneArcEach, HasDegrees}
use Rattle.cps_rule.specs.declared.rule.Narrowing.{Narrowing}
use Rattle.cps_rule.specs.Rules.{IsGiven, IsImpossible}
use Rattle.cps_p_circuit.specs.declared.clash.Sign.{Sign}
use Rattle.cps_p_circuit.specs.declared.degrees.Degree.{Degree}
use Rattle.cps_p_circuit.specs.declared.degrees.Degrees.{Degrees}
use Rattle.cps_p_circuit.specs.declared.graph.Graph.{Graph}
use Rattle.cps_p_circuit.specs.Graphs.{number, IsRound, IsNumbering}
use Rattle.cps_p_circuit.specs.Clashes.{taking, IsSignMet, IsClash, IsClashingPair}
use Rattle.cps_p_circuit.specs.Showing.{body_by, body_of, taken_at}
use Rattle.cps_p_circuit.specs.Counts.{IsState, AreStates, IsSeenAt, IsCounted, nothing, degree_at, AreCounted, AreAllCounted, IsLost, IsKept, AreKept, HasLost, AreAllKept, HasLostOn, AreNarrow, AddsGiven, AreTrue, IsBeside, IsOpenBeside, IsFalseArc, IsTrueArc, LeavesArc, LeavesOthers, LeavesLast, IsLastOf, IsLastOpen, AddsArc}
use Rattle.cps_p_circuit.proofs.Clashes.{least, pair_out, pair_in, node_out, node_in}
use Rattle.cps_p_circuit.proofs.TakenArcs.{round_from_body, subject_holds}
use Rattle.cps_p_circuit.proofs.Counting.{some_number, not_yes, not_no, no_yes}

no_atom : Atom
no_atom = record { subject = 0; op = Le; value = pos 0 }

-- what is read of an arc's literal
taken_holds : (xs : List ℤ) (literals : List Atom) (k : ℕ) (d : Atom) → k < length literals → get_or (taken_at xs literals) k false ≡ true → atom_holds xs (get_or literals k d) ≡ true
taken_holds xs literals k d l e = sym (get_or-map (atom_holds xs) literals k d false l) ∙ e

holds_taken : (xs : List ℤ) (literals : List Atom) (k : ℕ) (d : Atom) → k < length literals → atom_holds xs (get_or literals k d) ≡ true → get_or (taken_at xs literals) k false ≡ true
holds_taken xs literals k d l e = get_or-map (atom_holds xs) literals k d false l ∙ e

-- an atom that is known is so wherever the store leaves values
module _ (s : Trail) (literals : List Atom) (inside : All (λ i. i < length s.first) (atom_subjects literals)) (k : ℕ) (d : Atom) (l : k < length literals) (xs : List ℤ) (w : IsAdmitted s.first s.entries xs) where
  there : (get_or literals k d).subject < length s.first
  there = subject_holds (λ i. i < length s.first) literals k d l inside

  pub true_at : IsTrueNow s (get_or literals k d) → atom_holds xs (get_or literals k d) ≡ true
  true_at t = t (value_at xs (get_or literals k d).subject) (w (get_or literals k d).subject there)

  pub false_at : IsFalseNow s (get_or literals k d) → atom_holds xs (get_or literals k d) ≡ false
  false_at t = t (value_at xs (get_or literals k d).subject) (w (get_or literals k d).subject there)

state_is : (x : Truth) → (x ≡ Yes) ⊎ ((x ≡ No) ⊎ (x ≡ Undecided))
state_is Yes = inl refl
state_is No = inr (inl refl)
state_is Undecided = inr (inr refl)

-- one side of a circuit: two taken arcs at a node clash, and at each node one is taken
module _ (nodes : List ℤ) (from to ends : List ℕ) (literals : List Atom)
    (pair : (used : List Sign) (i j : ℕ) → IsClashingPair ends (least from to) i j used → IsClash nodes from to used)
    (node : (v : ℕ) (taken : List Bool) → v < length nodes → IsRound nodes from to taken → (k : ℕ) × (k < length from) × (k < length to) × (get_or taken k false ≡ true) × (slice_index ends k ≡ v))
    (fl : length from ≡ length literals) (tl : length to ≡ length literals) where
  abbrev b : Body
  b = body_by nodes from to literals

  two_taken : (xs : List ℤ) (i j : ℕ) (d e : Atom) → i ≢ j → i < length literals → j < length literals → slice_index ends i ≡ slice_index ends j
      → HoldsBody b xs → atom_holds xs (get_or literals i d) ≡ true → atom_holds xs (get_or literals j e) ≡ true → ⊥
  two_taken xs i j d e apart p q same holds one two =
      let used : List Sign = taking i ∷ taking j ∷ [] in
      (pair used i j (record { apart = apart; first = omega arith; second = omega arith; same = same; one = (0, omega arith, refl); other = (1, omega arith, refl) })).none
      (taken_at xs literals)
      (All-cons (IsSignMet (taken_at xs literals)) (taking i) (taking j ∷ []) (holds_taken xs literals i d p one)
      (All-cons (IsSignMet (taken_at xs literals)) (taking j) [] (holds_taken xs literals j e q two) (All-nil (IsSignMet (taken_at xs literals)))))
      (round_from_body xs nodes from to literals holds)

  one_taken : (xs : List ℤ) (v : ℕ) → v < length nodes → HoldsBody b xs → (k : ℕ) × (k < length literals) × ((d : Atom) → atom_holds xs (get_or literals k d) ≡ true) × (slice_index ends k ≡ v)
  one_taken xs v l holds =
      let one = node v (taken_at xs literals) l (round_from_body xs nodes from to literals holds) in
      let p = one.1 in
      let m : one.0 < length literals = omega arith in
      (one.0, m, (λ d. taken_holds xs literals one.0 d m one.3), one.4)

  module _ (s : Trail) (states : List Truth) (known : AreStates s literals states) (inside : All (λ i. i < length s.first) (atom_subjects literals)) where
    in_state : (state : Truth) (k : ℕ) (d : Atom) → k < length literals → get_or states k No ≡ state → IsState s (get_or literals k d) state
    in_state state k d l e = subst (IsState s (get_or literals k d)) e (known.at k d l)

    pub is_taken : (k : ℕ) → k < length literals → get_or states k No ≡ Yes → IsTaken s literals k
    is_taken k l e d = (in_state Yes k d l e).0

    pub is_untaken : (k : ℕ) → k < length literals → get_or states k No ≡ No → IsUntaken s literals k
    is_untaken k l e d = (in_state No k d l e).0

    -- an arc that is not taken is in that state, and one that is is in the other
    no_state : (k : ℕ) → k < length literals → IsUntaken s literals k → get_or states k No ≡ No
    no_state k l off = elim (state_is (get_or states k No)) [
      | inl yes' ↦ absurd ((in_state Yes k no_atom l yes').1 (off no_atom))
      | inr rest ↦ elim rest [ inl e ↦ e | inr e ↦ absurd ((in_state Undecided k no_atom l e).1 (off no_atom)) ]
    ]

    yes_state : (k : ℕ) → k < length literals → IsTaken s literals k → get_or states k No ≡ Yes
    yes_state k l on = elim (state_is (get_or states k No)) [
      | inl e ↦ e
      | inr rest ↦ elim rest [ inl e ↦ absurd ((in_state No k no_atom l e).1 (on no_atom)) | inr e ↦ absurd ((in_state Undecided k no_atom l e).0 (on no_atom)) ]
    ]

    module _ (v : ℕ) (g : Degree) (h : IsCounted ends states v (length states) g) where
      size : length states ≡ length literals
      size = known.same_length

      seen : (k : ℕ) → k < length literals → slice_index ends k ≡ v → (state : Truth) → get_or states k No ≡ state → IsSeenAt ends states v (length states) state k
      seen k l at state is = record { within = (let e = size in omega arith); at = at; is = is }

      short : (state : Truth) (k : ℕ) → IsSeenAt ends states v (length states) state k → k < length literals
      short state k m = let e = size in let l = m.within in omega arith

      -- beside an arc that is taken an open one is not
      beside_false : g.taken ≢ 0 → (k : ℕ) → k < length literals → slice_index ends k ≡ v → get_or states k No ≡ Undecided → (xs : List ℤ) → IsAdmitted s.first s.entries xs → HoldsBody b xs → (d : Atom) → atom_holds xs (get_or literals k d) ≡ true → ⊥
      beside_false some k l at is xs w holds d on =
          let t = some_number g.taken some in
          let one = h.taken t.0 t.1 in
          let m = short Yes t.0 one in
          two_taken xs t.0 k no_atom d (λ e. not_yes (get_or states k No) (subst (λ (i : ℕ). get_or states i No ≡ Yes) e one.is) is) m l (one.at ∙ sym at) holds
          (true_at s literals inside t.0 no_atom m xs w (is_taken t.0 m one.is no_atom)) on

      -- where none is taken, the last open one is
      last_true : (t : ℕ) → v < length nodes → IsLastOf g t → (xs : List ℤ) → IsAdmitted s.first s.entries xs → HoldsBody b xs → (d : Atom) → atom_holds xs (get_or literals t d) ≡ true
      last_true t l last xs w holds d =
          let one = one_taken xs v l holds in
          let k = one.0 in
          let m = one.1 in
          elim (state_is (get_or states k No)) [
            | inl e ↦ elim (h.each_taken k (seen k m one.3 Yes e)) [
              | inl number ↦ absurd (let z = last.none in omega arith)
              | inr two ↦ (let u = some_number g.second two in absurd ((h.second u.0 u.1).1 last.none))
            ]
            | inr rest ↦ elim rest [
              | inl e ↦ absurd (true≢false (sym (one.2 no_atom) ∙ false_at s literals inside k no_atom m xs w (is_untaken k m e no_atom)))
              | inr e ↦ elim (h.each_undecided k (seen k m one.3 Undecided e)) [
                | inl number ↦ (let z = last.is in let same : k ≡ t = omega arith in subst (λ (i : ℕ). atom_holds xs (get_or literals i d) ≡ true) same (one.2 d))
                | inr two ↦ absurd (two last.alone)
              ]
            ]
          ]

      -- a node that is lost
      pub lost_impossible : v < length nodes → IsLost g → IsImpossible b s
      lost_impossible l lost = record {
        at = λ xs w holds. elim lost [
          | inl two ↦
              (let u = some_number g.second two in
              let second = h.second u.0 u.1 in
              let t = some_number g.taken second.1 in
              let first = h.taken t.0 t.1 in
              let p = short Yes t.0 first in
              let q = short Yes u.0 second.0 in
              two_taken xs t.0 u.0 no_atom no_atom (λ e. second.2 (t.1 ∙ ap (λ (n : ℕ). n + 1) e)) p q (first.at ∙ sym second.0.at) holds
              (true_at s literals inside t.0 no_atom p xs w (is_taken t.0 p first.is no_atom))
              (true_at s literals inside u.0 no_atom q xs w (is_taken u.0 q second.0.is no_atom)))
          | inr none ↦
              (let one = one_taken xs v l holds in
              let k = one.0 in
              let m = one.1 in
              elim (state_is (get_or states k No)) [
                | inl e ↦ elim (h.each_taken k (seen k m one.3 Yes e)) [
                  | inl number ↦ (let z = none.0 in let bad : ⊥ = omega arith in bad)
                  | inr two ↦ (let u = some_number g.second two in (h.second u.0 u.1).1 none.0)
                ]
                | inr rest ↦ elim rest [
                  | inl e ↦ true≢false (sym (one.2 no_atom) ∙ false_at s literals inside k no_atom m xs w (is_untaken k m e no_atom))
                  | inr e ↦ elim (h.each_undecided k (seen k m one.3 Undecided e)) [
                    | inl number ↦ (let z = none.1 in let bad : ⊥ = omega arith in bad)
                    | inr two ↦ (let u = some_number g.other two in (h.other u.0 u.1).1 none.1)
                  ]
                ]
              ])
        ];
      }

      -- what a node that is kept has
      module _ (kept : IsKept g) where
        -- arcs there that are taken are one
        first_taken : (k : ℕ) → k < length literals → slice_index ends k ≡ v → IsTaken s literals k → g.taken ≡ k + 1
        first_taken k l at on = elim (h.each_taken k (seen k l at Yes (yes_state k l on))) [ inl e ↦ e | inr two ↦ absurd (two kept.once) ]

        pub not_two : (i j : ℕ) → i ≢ j → i < length literals → j < length literals → slice_index ends i ≡ v → slice_index ends j ≡ v → IsTaken s literals i → IsTaken s literals j → ⊥
        not_two i j apart p q a c one two = let e = first_taken i p a one in let f = first_taken j q c two in apart (omega arith)

        pub some_arc : ((k : ℕ) → k < length literals → slice_index ends k ≡ v → IsUntaken s literals k) → ⊥
        some_arc none = elim (cases_eq g.taken 0) [
          | inl e ↦
              (let t = some_number g.undecided (kept.some e) in
              let one = h.undecided t.0 t.1 in
              let l = short Undecided t.0 one in
              not_no (get_or states t.0 No) (no_state t.0 l (none t.0 l one.at)) one.is)
          | inr ne ↦
              (let t = some_number g.taken ne in
              let one = h.taken t.0 t.1 in
              let l = short Yes t.0 one in
              no_yes (get_or states t.0 No) (no_state t.0 l (none t.0 l one.at)) one.is)
        ]

        pub others_untaken : (i j : ℕ) → ((k : ℕ) → k < length literals → get_or states k No ≡ Undecided → slice_index ends k ≡ v → g.taken ≢ 0 → IsUntaken s literals k)
            → i ≢ j → i < length literals → j < length literals → slice_index ends i ≡ v → slice_index ends j ≡ v → IsTaken s literals i → IsUntaken s literals j
        others_untaken i j left apart p q a c on = elim (state_is (get_or states j No)) [
          | inl e ↦ absurd (not_two i j apart p q a c on (is_taken j q e))
          | inr rest ↦ elim rest [
            | inl e ↦ is_untaken j q e
            | inr e ↦ left j q e c (λ none. (let f = first_taken i p a on in let bad : ⊥ = omega arith in bad))
          ]
        ]

        pub last_taken : (k : ℕ) → ((t : ℕ) → IsLastOf g t → IsTaken s literals t) → k < length literals → slice_index ends k ≡ v → ((j : ℕ) → j ≢ k → j < length literals → slice_index ends j ≡ v → IsUntaken s literals j) → IsTaken s literals k
        last_taken k left l at off = elim (cases_eq g.taken 0) [
          | inl none ↦
              (let t = some_number g.undecided (kept.some none) in
              let one = h.undecided t.0 t.1 in
              let m = short Undecided t.0 one in
              elim (cases_eq t.0 k) [
                | inl same ↦ elim (cases_eq g.other 0) [
                  | inl alone ↦ subst (λ (i : ℕ). IsTaken s literals i) same (left t.0 (record { none = none; alone = alone; is = t.1 }))
                  | inr two ↦
                      (let u = some_number g.other two in
                      let other = h.other u.0 u.1 in
                      let n = short Undecided u.0 other.0 in
                      absurd (not_no (get_or states u.0 No) (no_state u.0 n (off u.0 (λ e. other.2 (t.1 ∙ ap (λ (i : ℕ). i + 1) (same ∙ sym e))) n other.0.at)) other.0.is))
                ]
                | inr differ ↦ absurd (not_no (get_or states t.0 No) (no_state t.0 m (off t.0 differ m one.at)) one.is)
              ])
          | inr some ↦
              (let t = some_number g.taken some in
              let one = h.taken t.0 t.1 in
              let m = short Yes t.0 one in
              elim (cases_eq t.0 k) [
                | inl same ↦ subst (λ (i : ℕ). IsTaken s literals i) same (is_taken t.0 m one.is)
                | inr differ ↦ absurd (no_yes (get_or states t.0 No) (no_state t.0 m (off t.0 differ m one.at)) one.is)
              ])
        ]

-- by nodes' numbers
node_of : (nodes : List ℤ) (from to : List ℕ) → IsNumbering nodes from to → (node : ℤ) → Contains (map (number nodes) from ++ map (number nodes) to) node → (v : ℕ) × (v < length nodes) × (number nodes v ≡ node)
node_of nodes from to numbered node listed =
    All-contains (λ (z : ℤ). (v : ℕ) × (v < length nodes) × (number nodes v ≡ z)) (map (number nodes) from ++ map (number nodes) to) node
    (All-append (λ (z : ℤ). (v : ℕ) × (v < length nodes) × (number nodes v ≡ z)) (map (number nodes) from) (map (number nodes) to) (each from numbered.tails) (each to numbered.heads)) listed
  where
    each : (ends : List ℕ) → ((k : ℕ) → k < length ends → slice_index ends k < length nodes) → All (λ (z : ℤ). (v : ℕ) × (v < length nodes) × (number nodes v ≡ z)) (map (number nodes) ends)
    each ends within k d l = let m : k < length ends = rw length-map at l in (slice_index ends k, within k m, sym (get_or-map (number nodes) ends k 0 d m))

arc_at_node : (nodes : List ℤ) (ends : List ℕ) (literals : List Atom) (node : ℤ) (v k : ℕ) → length ends ≡ length literals → number nodes v ≡ node → k < length literals → slice_index ends k ≡ v → IsArcAt (map (number nodes) ends) literals node k
arc_at_node nodes ends literals node v k len is l at = record { within = l; is = λ d. get_or-map (number nodes) ends k 0 d (omega arith) ∙ ap (number nodes) at ∙ is }

arc_end : (nodes : List ℤ) (ends : List ℕ) (literals : List Atom) (node : ℤ) (k : ℕ) → length ends ≡ length literals → IsArcAt (map (number nodes) ends) literals node k → number nodes (slice_index ends k) ≡ node
arc_end nodes ends literals node k len h = let l = h.within in sym (get_or-map (number nodes) ends k 0 (pos 0) (omega arith)) ∙ h.is (pos 0)

module _ (nodes : List ℤ) (from to ends : List ℕ) (literals : List Atom)
    (pair : (used : List Sign) (i j : ℕ) → IsClashingPair ends (least from to) i j used → IsClash nodes from to used)
    (node : (v : ℕ) (taken : List Bool) → v < length nodes → IsRound nodes from to taken → (k : ℕ) × (k < length from) × (k < length to) × (get_or taken k false ≡ true) × (slice_index ends k ≡ v))
    (fl : length from ≡ length literals) (tl : length to ≡ length literals) (el : length ends ≡ length literals)
    (numbered : IsNumbering nodes from to) (within : (k : ℕ) → k < length ends → slice_index ends k < length nodes)
    (s : Trail) (states : List Truth) (known : AreStates s literals states) (inside : All (λ i. i < length s.first) (atom_subjects literals))
    (degrees : List Degree) (counted : AreCounted ends states (length nodes) (length states) degrees) where
  side_lost : (v : ℕ) → HasLost degrees v → IsImpossible (body_by nodes from to literals) s
  side_lost v h =
      let r = counted.room in
      let l = h.0 in
      let m : v < length nodes = omega arith in
      lost_impossible nodes from to ends literals pair node fl tl s states known inside v (degree_at degrees v) (counted.each v m) m h.1

  module _ (kept : AreKept degrees) where
    kept_at : (v : ℕ) → v < length nodes → IsKept (degree_at degrees v)
    kept_at v l = kept v (let r = counted.room in omega arith)

    same_end : (z : ℤ) (i j : ℕ) → IsArcAt (map (number nodes) ends) literals z i → IsArcAt (map (number nodes) ends) literals z j → slice_index ends j ≡ slice_index ends i
    same_end z i j p q =
        let a = p.within in
        let c = q.within in
        numbered.apart _ _ (within j (omega arith)) (within i (omega arith)) (arc_end nodes ends literals z j el q ∙ sym (arc_end nodes ends literals z i el p))

    end_in : (z : ℤ) (i : ℕ) → IsArcAt (map (number nodes) ends) literals z i → slice_index ends i < length nodes
    end_in z i p = within i (let a = p.within in omega arith)

    none_lost : (z : ℤ) → Contains (map (number nodes) from ++ map (number nodes) to) z → HasNoArc s (map (number nodes) ends) literals z → ⊥
    none_lost z listed none =
        let at = node_of nodes from to numbered z listed in
        some_arc nodes from to ends literals pair node fl tl s states known inside at.0 (degree_at degrees at.0) (counted.each at.0 at.1) (kept_at at.0 at.1)
        (λ k l e. none k (arc_at_node nodes ends literals z at.0 k el at.2 l e))

    pub side_seen : IsNodeLost s (map (number nodes) ends) (map (number nodes) from ++ map (number nodes) to) literals → ⊥
    side_seen h = elim h.lost [
      | inl two ↦
          (let v = slice_index ends two.i in
          let l = end_in h.node two.i two.first in
          not_two nodes from to ends literals pair node fl tl s states known inside v (degree_at degrees v) (counted.each v l) (kept_at v l)
          two.i two.j two.apart two.first.within two.second.within refl (same_end h.node two.i two.j two.first two.second) two.one two.other)
      | inr none ↦ none_lost h.node h.listed none
    ]

    pub side_strong : ((k : ℕ) → k < length literals → get_or states k No ≡ Undecided → (degree_at degrees (slice_index ends k)).taken ≢ 0 → IsUntaken s literals k)
        → ((v t : ℕ) → v < length nodes → IsLastOf (degree_at degrees v) t → IsTaken s literals t)
        → HasOneArcEach s (map (number nodes) ends) (map (number nodes) from ++ map (number nodes) to) literals
    side_strong others last = record {
      some = none_lost;
      at_most = λ z i j apart p q on.
          (let v = slice_index ends i in
          let l = end_in z i p in
          others_untaken nodes from to ends literals pair node fl tl s states known inside v (degree_at degrees v) (counted.each v l) (kept_at v l) i j
          (λ k m e at some. others k m e (subst (λ (w : ℕ). (degree_at degrees w).taken ≢ 0) (sym at) some))
          apart p.within q.within refl (same_end z i j p q) on);
      at_least = λ z k p off.
          (let v = slice_index ends k in
          let l = end_in z k p in
          last_taken nodes from to ends literals pair node fl tl s states known inside v (degree_at degrees v) (counted.each v l) (kept_at v l) k
          (λ t is. last v t l is) p.within refl
          (λ j differ m at. off j differ (arc_at_node nodes ends literals z v j el (arc_end nodes ends literals z k el p) m at)));
    }

-- both sides of a graph
module _ (graph : Graph) (literals : List Atom) (fl : length graph.from.items ≡ length literals) (tl : length graph.to.items ≡ length literals)
    (s : Trail) (d : Degrees) (known : AreStates s literals d.states.items) (inside : All (λ i. i < length s.first) (atom_subjects literals)) (counted : AreAllCounted graph d) where
  abbrev ns : List ℤ
  ns = graph.nodes.items

  abbrev fs : List ℕ
  fs = graph.from.items

  abbrev ts : List ℕ
  ts = graph.to.items

  pub all_lost : HasLostOn d → IsImpossible (body_of graph literals) s
  all_lost (inl h) = side_lost ns fs ts fs literals (λ used i j. pair_out ns fs ts used i j) (λ v taken l round. node_out ns fs ts v taken graph.numbered l round) fl tl fl graph.numbered graph.numbered.tails s d.states.items known inside d.out.items counted.out h.0 h.1
  all_lost (inr h) = side_lost ns fs ts ts literals (λ used i j. pair_in ns fs ts used i j) (λ v taken l round. node_in ns fs ts v taken graph.numbered l round) fl tl tl graph.numbered graph.numbered.heads s d.states.items known inside d.into.items counted.into h.0 h.1

  module _ (kept : AreAllKept d) where
    pub all_seen : HasLostNode s (map (number ns) fs) (map (number ns) ts) literals → ⊥
    all_seen (inl h) = side_seen ns fs ts fs literals (λ used i j. pair_out ns fs ts used i j) (λ v taken l round. node_out ns fs ts v taken graph.numbered l round) fl tl fl graph.numbered graph.numbered.tails s d.states.items known inside d.out.items counted.out kept.out h
    all_seen (inr h) = side_seen ns fs ts ts literals (λ used i j. pair_in ns fs ts used i j) (λ v taken l round. node_in ns fs ts v taken graph.numbered l round) fl tl tl graph.numbered graph.numbered.heads s d.states.items known inside d.into.items counted.into kept.into h

    pub all_strong : (old middle new : List Narrowing) → LeavesOthers graph literals d (length literals) old middle → LeavesLast literals d (length ns) middle new → AreTrue s new → HasDegrees s (map (number ns) fs) (map (number ns) ts) literals
    all_strong old middle new others last trues = record {
      out = side_strong ns fs ts fs literals (λ used i j. pair_out ns fs ts used i j) (λ v taken l round. node_out ns fs ts v taken graph.numbered l round) fl tl fl graph.numbered graph.numbered.tails s d.states.items known inside d.out.items counted.out kept.out
          (λ k l e some. others.left s (last.before s trues) k l (e, inl some)) (λ v t l is. last.out s trues v t l is);
      into = side_strong ns fs ts ts literals (λ used i j. pair_in ns fs ts used i j) (λ v taken l round. node_in ns fs ts v taken graph.numbered l round) fl tl tl graph.numbered graph.numbered.heads s d.states.items known inside d.into.items counted.into kept.into
          (λ k l e some. others.left s (last.before s trues) k l (e, inr some)) (λ v t l is. last.into s trues v t l is);
    }

  -- an open arc beside a taken one is not taken, and the last open one is
  open_end : (ends : List ℕ) (k : ℕ) → ((j : ℕ) → j < length ends → slice_index ends j < length ns) → length ends ≡ length literals → k < length literals → slice_index ends k < length ns
  open_end ends k within len l = within k (omega arith)

  beside_off : (k : ℕ) → k < length literals → get_or d.states.items k No ≡ Undecided → IsBeside graph d k → (xs : List ℤ) → IsAdmitted s.first s.entries xs → HoldsBody (body_of graph literals) xs → (e : Atom) → atom_holds xs (get_or literals k e) ≡ true → ⊥
  beside_off k l is (inl some) xs w holds e on =
      beside_false ns fs ts fs literals (λ used i j. pair_out ns fs ts used i j) (λ v taken m round. node_out ns fs ts v taken graph.numbered m round) fl tl s d.states.items known inside (slice_index fs k) (degree_at d.out.items (slice_index fs k))
      (counted.out.each (slice_index fs k) (open_end fs k graph.numbered.tails fl l)) some k l refl is xs w holds e on
  beside_off k l is (inr some) xs w holds e on =
      beside_false ns fs ts ts literals (λ used i j. pair_in ns fs ts used i j) (λ v taken m round. node_in ns fs ts v taken graph.numbered m round) fl tl s d.states.items known inside (slice_index ts k) (degree_at d.into.items (slice_index ts k))
      (counted.into.each (slice_index ts k) (open_end ts k graph.numbered.heads tl l)) some k l refl is xs w holds e on

  pub untaken_given : (k : ℕ) (e u : Atom) → k < length literals → get_or d.states.items k No ≡ Undecided → IsBeside graph d k → u.subject ≡ (get_or literals k e).subject
      → ((x : ℤ) → meets u.op u.value x ≡ not (meets (get_or literals k e).op (get_or literals k e).value x)) → IsGiven (body_of graph literals) s u
  untaken_given k e u l is beside same negated = record {
    subject = subst (λ (i : ℕ). i < length s.first) (sym same) (subject_holds (λ i. i < length s.first) literals k e l inside);
    at = λ xs w holds. opposite xs (λ on. beside_off k l is beside xs w holds e on);
  }
    where
      opposite : (xs : List ℤ) → (atom_holds xs (get_or literals k e) ≡ true → ⊥) → atom_holds xs u ≡ true
      opposite xs off = by (atom_holds xs (get_or literals k e)) refl
        where
          by : (c : Bool) → atom_holds xs (get_or literals k e) ≡ c → atom_holds xs u ≡ true
          by true f = absurd (off f)
          by false f =
              let at : meets u.op u.value (value_at xs u.subject) ≡ not (meets (get_or literals k e).op (get_or literals k e).value (value_at xs (get_or literals k e).subject)) = subst (λ (i : ℕ). meets u.op u.value (value_at xs u.subject) ≡ not (meets (get_or literals k e).op (get_or literals k e).value (value_at xs i))) same (negated (value_at xs u.subject)) in
              at ∙ ap not f

  pub last_out_given : (v t : ℕ) (e : Atom) → v < length ns → t < length literals → IsLastOf (degree_at d.out.items v) t → IsGiven (body_of graph literals) s (get_or literals t e)
  last_out_given v t e l m is = record {
    subject = subject_holds (λ i. i < length s.first) literals t e m inside;
    at = λ xs w holds. last_true ns fs ts fs literals (λ used i j. pair_out ns fs ts used i j) (λ x taken n round. node_out ns fs ts x taken graph.numbered n round) fl tl s d.states.items known inside v (degree_at d.out.items v) (counted.out.each v l) t l is xs w holds e;
  }

  pub last_into_given : (v t : ℕ) (e : Atom) → v < length ns → t < length literals → IsLastOf (degree_at d.into.items v) t → IsGiven (body_of graph literals) s (get_or literals t e)
  last_into_given v t e l m is = record {
    subject = subject_holds (λ i. i < length s.first) literals t e m inside;
    at = λ xs w holds. last_true ns fs ts ts literals (λ used i j. pair_in ns fs ts used i j) (λ x taken n round. node_in ns fs ts x taken graph.numbered n round) fl tl s d.states.items known inside v (degree_at d.into.items v) (counted.into.each v l) t l is xs w holds e;
  }

-- one narrowing more
all_kept : (P : Narrowing → Type 0) (old new : List Narrowing) (n : Narrowing) → new ≡ old ++ n ∷ [] → All P new → All P old
all_kept P old new n e h k d l = subst P (get_or_append_left old (n ∷ []) d k l) (subst (All P) e h k d (omega (arith, length-append old (n ∷ []))))

all_added : (P : Narrowing → Type 0) (old new : List Narrowing) (n : Narrowing) → new ≡ old ++ n ∷ [] → All P new → P n
all_added P old new n e h = All-contains P (old ++ n ∷ []) n (subst (All P) e h) (Contains-push old n)

pub true_before : (s : Trail) (old new : List Narrowing) (n : Narrowing) → new ≡ old ++ n ∷ [] → AreTrue s new → AreTrue s old
true_before s old new n e h = all_kept (λ m. IsTrueNow s m.target) old new n e h

pub true_added : (s : Trail) (old new : List Narrowing) (n : Narrowing) → new ≡ old ++ n ∷ [] → AreTrue s new → IsTrueNow s n.target
true_added s old new n e h = all_added (λ m. IsTrueNow s m.target) old new n e h

pub give_none : (graph : Graph) (literals : List Atom) (states : List Truth) (ns : List Narrowing) → AddsGiven graph literals states ns ns
give_none graph literals states ns s known inside h = h

pub give_more : (graph : Graph) (literals : List Atom) (states : List Truth) (old middle new : List Narrowing) (n : Narrowing) → new ≡ middle ++ n ∷ []
    → ((s : Trail) → AreStates s literals states → All (λ i. i < length s.first) (atom_subjects literals) → IsGiven (body_of graph literals) s n.target)
    → AddsGiven graph literals states old middle → AddsGiven graph literals states old new
give_more graph literals states old middle new n e this h s known inside all = rw e (All-push (λ m. IsGiven (body_of graph literals) s m.target) middle n (h s known inside all) (this s known inside))

-- one arc more: an open one beside a taken one is found not to be taken, or it is passed over
pub leaves_pass : (graph : Graph) (literals : List Atom) (d : Degrees) (k : ℕ) (ns : List Narrowing) → (IsOpenBeside graph d k → ⊥) → LeavesArc graph literals d k ns ns
leaves_pass graph literals d k ns other = record { before = λ s t. t; left = λ s t h. absurd (other h) }

pub leaves_more : (graph : Graph) (literals : List Atom) (d : Degrees) (n : ℕ) (old middle new : List Narrowing) → LeavesArc graph literals d n middle new → LeavesOthers graph literals d n old middle → LeavesOthers graph literals d (n + 1) old new
leaves_more graph literals d n old middle new arc h = record {
  before = λ s t. h.before s (arc.before s t);
  left = λ s t k l beside. elim (cases_lt k n) [
    | inl less ↦ h.left s (arc.before s t) k less beside
    | inr more ↦ (let same : n ≡ k = omega arith in subst (λ (i : ℕ). IsFalseArc s literals i) same (arc.left s t (subst (λ (i : ℕ). IsOpenBeside graph d i) (sym same) beside)))
  ];
}

pub give_both : (graph : Graph) (literals : List Atom) (states : List Truth) (old middle new : List Narrowing) → AddsGiven graph literals states old middle → AddsGiven graph literals states middle new → AddsGiven graph literals states old new
give_both graph literals states old middle new one two s known inside all = two s known inside (one s known inside all)

any_atom : (literals : List Atom) (k : ℕ) (a c : Atom) → k < length literals → get_or literals k a ≡ get_or literals k c
any_atom [] k a c l = absurd (omega arith)
any_atom (u ∷ us) zero a c l = refl
any_atom (u ∷ us) (suc k) a c l = any_atom us k a c (omega arith)

false_by : (s : Trail) (u t : Atom) → t.subject ≡ u.subject → ((x : ℤ) → meets t.op t.value x ≡ not (meets u.op u.value x)) → IsTrueNow s t → IsFalseNow s u
false_by s u t same negated h x o = by (meets u.op u.value x) refl
  where
    by : (c : Bool) → meets u.op u.value x ≡ c → meets u.op u.value x ≡ false
    by false e = e
    by true e =
        let on : meets t.op t.value x ≡ true = h x (subst (λ (i : ℕ). admits s.first s.entries i x ≡ true) (sym same) o) in
        absurd (true≢false (sym on ∙ negated x ∙ ap not e))

pub leaves_found : (graph : Graph) (literals : List Atom) (d : Degrees) (k : ℕ) (e : Atom) (old new : List Narrowing) (m : Narrowing) → k < length literals → m.target.subject ≡ (get_or literals k e).subject
    → ((x : ℤ) → meets m.target.op m.target.value x ≡ not (meets (get_or literals k e).op (get_or literals k e).value x)) → new ≡ old ++ m ∷ [] → LeavesArc graph literals d k old new
leaves_found graph literals d k e old new m l same negated is = record {
  before = λ s t. true_before s old new m is t;
  left = λ s t beside c. subst (λ (u : Atom). IsFalseNow s u) (any_atom literals k e c l) (false_by s (get_or literals k e) m.target same negated (true_added s old new m is t));
}

-- the literal of an arc that is numbered from 1
pub arc_is : (literals : List Atom) (by k : ℕ) (a c : Atom) → by ≡ k + 1 → by ≤ length literals → get_or literals (by - 1) a ≡ get_or literals k c
arc_is literals by k a c e l = let same : by - 1 ≡ k = omega arith in ap (λ (i : ℕ). get_or literals i a) same ∙ any_atom literals k a c (omega arith)

pub last_short : (ends : List ℕ) (states : List Truth) (nodes n v by : ℕ) (degrees : List Degree) → AreCounted ends states nodes n degrees → v < nodes → IsLastOpen (degree_at degrees v) by → by ≤ n
last_short ends states nodes n v by degrees h l last = elim (cases_eq by 0) [
  | inl none ↦ omega arith
  | inr some ↦ (let t = some_number by some in let one = (h.each v l).undecided t.0 (last.is t.0 t.1).is in let w = one.within in let e = t.1 in omega arith)
]

-- one node more: its last open arcs on both sides are found to be taken
pub last_none : (literals : List Atom) (d : Degrees) (ns : List Narrowing) → LeavesLast literals d 0 ns ns
last_none literals d ns = record { before = λ s t. t; out = λ s t v k l. absurd (omega arith); into = λ s t v k l. absurd (omega arith) }

adds_before : (literals : List Atom) (by : ℕ) (old new : List Narrowing) → AddsArc literals by old new → (s : Trail) → AreTrue s new → AreTrue s old
adds_before literals by old new h s t = elim (cases_eq by 0) [
  | inl none ↦ subst (AreTrue s) (h.none none) t
  | inr some ↦ (let k = some_number by some in let n = h.some k.0 k.1 in true_before s old new n.0 n.2 t)
]

adds_true : (literals : List Atom) (by : ℕ) (old new : List Narrowing) → AddsArc literals by old new → (s : Trail) → AreTrue s new → (k : ℕ) → by ≡ k + 1 → IsTrueArc s literals k
adds_true literals by old new h s t k e d = let n = h.some k e in subst (IsTrueNow s) (n.1 d) (true_added s old new n.0 n.2 t)

pub last_more : (literals : List Atom) (d : Degrees) (n p q : ℕ) (old one two new : List Narrowing) → IsLastOpen (degree_at d.out.items n) p → IsLastOpen (degree_at d.into.items n) q → AddsArc literals p one two → AddsArc literals q two new
    → LeavesLast literals d n old one → LeavesLast literals d (n + 1) old new
last_more literals d n p q old one two new lp lq ap' aq h = record {
  before = λ s t. h.before s (first s (second s t));
  out = λ s t v k l is. elim (cases_lt v n) [
    | inl less ↦ h.out s (first s (second s t)) v k less is
    | inr more ↦ (let same : v ≡ n = omega arith in adds_true literals p one two ap' s (second s t) k (lp.every k (subst (λ (w : ℕ). IsLastOf (degree_at d.out.items w) k) same is)))
  ];
  into = λ s t v k l is. elim (cases_lt v n) [
    | inl less ↦ h.into s (first s (second s t)) v k less is
    | inr more ↦ (let same : v ≡ n = omega arith in adds_true literals q two new aq s t k (lq.every k (subst (λ (w : ℕ). IsLastOf (degree_at d.into.items w) k) same is)))
  ];
}
  where
    first : (s : Trail) → AreTrue s two → AreTrue s one
    first s t = adds_before literals p one two ap' s t

    second : (s : Trail) → AreTrue s new → AreTrue s two
    second s t = adds_before literals q two new aq s t

-- an added arc's literal is given where it is wherever there is one
pub give_arc : (graph : Graph) (literals : List Atom) (states : List Truth) (by : ℕ) (old middle new : List Narrowing) → AddsArc literals by middle new
    → ((s : Trail) → AreStates s literals states → All (λ i. i < length s.first) (atom_subjects literals) → (k : ℕ) (e : Atom) → by ≡ k + 1 → IsGiven (body_of graph literals) s (get_or literals k e))
    → AddsGiven graph literals states old middle → AddsGiven graph literals states old new
give_arc graph literals states by old middle new adds this h = elim (cases_eq by 0) [
  | inl none ↦ subst (AddsGiven graph literals states old) (sym (adds.none none)) h
  | inr some ↦
      (let k = some_number by some in
      let n = adds.some k.0 k.1 in
      give_more graph literals states old middle new n.0 n.2 (λ s known inside. subst (IsGiven (body_of graph literals) s) (sym (n.1 n.0.target)) (this s known inside k.0 n.0.target k.1)) h)
]

-- what a fitting circuit has
pub fit_tails : (domains : Domains) (nodes : List ℤ) (from to : List ℕ) (literals : List Atom) → IsFittingBody domains (body_by nodes from to literals) → length from ≡ length literals
fit_tails domains nodes from to literals h = sym (mapped_length from (number nodes)) ∙ h.named

pub fit_heads : (domains : Domains) (nodes : List ℤ) (from to : List ℕ) (literals : List Atom) → IsFittingBody domains (body_by nodes from to literals) → length to ≡ length literals
fit_heads domains nodes from to literals h = sym (mapped_length to (number nodes)) ∙ (sym h.headed ∙ h.named)

pub fit_narrow : (domains : Domains) (nodes : List ℤ) (from to : List ℕ) (literals : List Atom) → IsFittingBody domains (body_by nodes from to literals) → AreNarrow literals
fit_narrow domains nodes from to literals h k d l = let one = h.literals_fit k d l in (one.low, one.high)
