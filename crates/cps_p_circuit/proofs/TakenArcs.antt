-- Reading which arcs are taken.
use Rattle.std.specs.Prelude.{All, Contains, slice_index, min, if◌then◌else◌}
use Rattle.std.proofs.Common.{◌≡◌, inl, inr, ℕ, zero, suc, ◌+◌, ◌<◌, ◌≤◌, ℤ, pos, Bool, true, false, List, [], ◌∷◌, ◌++◌, map, length, get_or, take, refl, sym, ◌∙◌, ap, subst, arith, add-one}
use Rattle.std.proofs.lemmas.List.Elements.{Contains-append_left, Contains-append_right, Contains-get_or}
use Rattle.std.proofs.lemmas.List.{get_or-map, map_more, take_more, map-append}
use Rattle.std.proofs.lemmas.Int.{ints}
use Rattle.std.proofs.lemmas.Bool.{cases_lt, cases_eq}
use Rattle.cps_model.specs.Rising.{IsRising}
use Rattle.std.proofs.Math.ListN.{length-map}
use Rattle.cps_model.specs.declared.parts.Arc.{Arc}
use Rattle.cps_literal.specs.declared.atom.Atom.{Atom}
use Rattle.cps_literal.specs.Truth.{value_at, atom_holds, meets}
use Rattle.cps_instance.specs.Tasks.{HoldsBody, atom_subjects}
use Rattle.cps_instance.specs.Parts.{true_arcs}
use Rattle.cps_trail.specs.Trail.{Trail, IsTrueNow, IsFalseNow}
use Rattle.cps_propagate.specs.Now.{IsFixedNow, AreOpen, IsOpenTo}
use Rattle.cps_p_circuit.specs.Graphs.{number, arc_at, arcs_by, IsRound, IsNumbering}
use Rattle.cps_p_circuit.specs.Showing.{taken_at, body_by}
use Rattle.cps_p_circuit.proofs.Arcs.{found, mapped}

-- where none is known, no arc is taken
pub none_taken : (nodes : List ℤ) (from to : List ℕ) → arcs_by nodes from to [] ≡ []
none_taken nodes [] to = refl
none_taken nodes (a ∷ fs) [] = refl
none_taken nodes (a ∷ fs) (b ∷ hs) = refl

-- one arc more that is taken, and one that is not
pub arcs_more : (nodes : List ℤ) (from to : List ℕ) (taken : List Bool) (k : ℕ) → k < length from → k < length to → k < length taken → get_or taken k false ≡ true
    → arcs_by nodes from to (take (suc k) taken) ≡ arcs_by nodes from to (take k taken) ++ arc_at nodes from to k ∷ []
arcs_more nodes [] to taken k p q r t = absurd (omega arith)
arcs_more nodes (a ∷ fs) [] taken k p q r t = absurd (omega arith)
arcs_more nodes (a ∷ fs) (b ∷ hs) [] k p q r t = absurd (omega arith)
arcs_more nodes (a ∷ fs) (b ∷ hs) (true ∷ ts) zero p q r t = ap (λ (xs : List Arc). record { tail = number nodes a; head = number nodes b } ∷ xs) (none_taken nodes fs hs)
arcs_more nodes (a ∷ fs) (b ∷ hs) (false ∷ ts) zero p q r t = absurd (cc)
arcs_more nodes (a ∷ fs) (b ∷ hs) (true ∷ ts) (suc k) p q r t = ap (λ (xs : List Arc). record { tail = number nodes a; head = number nodes b } ∷ xs) (arcs_more nodes fs hs ts k (omega arith) (omega arith) (omega arith) t)
arcs_more nodes (a ∷ fs) (b ∷ hs) (false ∷ ts) (suc k) p q r t = arcs_more nodes fs hs ts k (omega arith) (omega arith) (omega arith) t

pub arcs_same : (nodes : List ℤ) (from to : List ℕ) (taken : List Bool) (k : ℕ) → k < length from → k < length to → k < length taken → get_or taken k false ≡ false
    → arcs_by nodes from to (take (suc k) taken) ≡ arcs_by nodes from to (take k taken)
arcs_same nodes [] to taken k p q r t = absurd (omega arith)
arcs_same nodes (a ∷ fs) [] taken k p q r t = absurd (omega arith)
arcs_same nodes (a ∷ fs) (b ∷ hs) [] k p q r t = absurd (omega arith)
arcs_same nodes (a ∷ fs) (b ∷ hs) (false ∷ ts) zero p q r t = none_taken nodes fs hs
arcs_same nodes (a ∷ fs) (b ∷ hs) (true ∷ ts) zero p q r t = absurd (cc)
arcs_same nodes (a ∷ fs) (b ∷ hs) (true ∷ ts) (suc k) p q r t = ap (λ (xs : List Arc). record { tail = number nodes a; head = number nodes b } ∷ xs) (arcs_same nodes fs hs ts k (omega arith) (omega arith) (omega arith) t)
arcs_same nodes (a ∷ fs) (b ∷ hs) (false ∷ ts) (suc k) p q r t = arcs_same nodes fs hs ts k (omega arith) (omega arith) (omega arith) t

-- what is beyond the arcs is not taken
pub arcs_end : (nodes : List ℤ) (from to : List ℕ) (taken : List Bool) (k : ℕ) → min (min (length from) (length to)) (length taken) ≤ k → arcs_by nodes from to (take k taken) ≡ arcs_by nodes from to taken
arcs_end nodes [] to taken k l = refl
arcs_end nodes (a ∷ fs) [] taken k l = refl
arcs_end nodes (a ∷ fs) (b ∷ hs) [] zero l = refl
arcs_end nodes (a ∷ fs) (b ∷ hs) [] (suc k) l = refl
arcs_end nodes (a ∷ fs) (b ∷ hs) (t ∷ ts) zero l = absurd (omega arith)
arcs_end nodes (a ∷ fs) (b ∷ hs) (true ∷ ts) (suc k) l = ap (λ (xs : List Arc). record { tail = number nodes a; head = number nodes b } ∷ xs) (arcs_end nodes fs hs ts k (omega arith))
arcs_end nodes (a ∷ fs) (b ∷ hs) (false ∷ ts) (suc k) l = arcs_end nodes fs hs ts k (omega arith)

-- ends of arcs are nodes
pub tails_in : (nodes : List ℤ) (from to : List ℕ) (taken : List Bool) → All (λ arc. Contains (map (number nodes) from ++ map (number nodes) to) arc.tail) (arcs_by nodes from to taken)
tails_in nodes from to taken k d l =
    let arcs = arcs_by nodes from to taken in
    let at = found nodes from to taken (get_or arcs k d) (Contains-get_or arcs k d l) in
    let here = Contains-append_left (map (number nodes) from) (map (number nodes) to) _ (mapped nodes from at.0 at.1.tail_within) in
    subst (λ (x : ℤ). Contains (map (number nodes) from ++ map (number nodes) to) x) (ap (λ (arc : Arc). arc.tail) at.1.is) here

pub heads_in : (nodes : List ℤ) (from to : List ℕ) (taken : List Bool) → All (λ arc. Contains (map (number nodes) from ++ map (number nodes) to) arc.head) (arcs_by nodes from to taken)
heads_in nodes from to taken k d l =
    let arcs = arcs_by nodes from to taken in
    let at = found nodes from to taken (get_or arcs k d) (Contains-get_or arcs k d l) in
    let here = Contains-append_right (map (number nodes) from) (map (number nodes) to) _ (mapped nodes to at.0 at.1.head_within) in
    subst (λ (x : ℤ). Contains (map (number nodes) from ++ map (number nodes) to) x) (ap (λ (arc : Arc). arc.head) at.1.is) here

-- the true arcs of a body are those that are taken
pub true_arcs_by : (xs nodes : List ℤ) (from to : List ℕ) (literals : List Atom) → true_arcs xs (map (number nodes) from) (map (number nodes) to) literals ≡ arcs_by nodes from to (taken_at xs literals)
true_arcs_by xs nodes [] to literals = refl
true_arcs_by xs nodes (a ∷ fs) [] literals = refl
true_arcs_by xs nodes (a ∷ fs) (b ∷ hs) [] = refl
true_arcs_by xs nodes (a ∷ fs) (b ∷ hs) (u ∷ us) =
    ap (λ (rest : List Arc). if atom_holds xs u then record { tail = number nodes a; head = number nodes b } ∷ rest else rest) (true_arcs_by xs nodes fs hs us)

pub round_from_body : (xs nodes : List ℤ) (from to : List ℕ) (literals : List Atom) → HoldsBody (body_by nodes from to literals) xs → IsRound nodes from to (taken_at xs literals)
round_from_body xs nodes from to literals h = rw (← true_arcs_by xs nodes from to literals) h

pub body_from_round : (xs nodes : List ℤ) (from to : List ℕ) (literals : List Atom) → IsRound nodes from to (taken_at xs literals) → HoldsBody (body_by nodes from to literals) xs
body_from_round xs nodes from to literals h = rw (true_arcs_by xs nodes from to literals) h

-- subjects of literals
pub subjects_long : (literals : List Atom) (k : ℕ) → k < length literals → k < length (atom_subjects literals)
subjects_long literals k l = simp length-map l

pub subject_holds : (P : ℕ → Type 0) (literals : List Atom) (k : ℕ) (d : Atom) → k < length literals → All P (atom_subjects literals) → P (get_or literals k d).subject
subject_holds P literals k d l h = subst P (get_or-map (λ (u : Atom). u.subject) literals k d 0 l) (h k 0 (subjects_long literals k l))

-- one literal more that is known
pub taken_more : (s : Trail) (literals : List Atom) (k : ℕ) (d : Atom) (taken new : List Bool) (b : Bool) → k < length literals → new ≡ taken ++ b ∷ []
    → ((xs : List ℤ) → AreOpen s xs (atom_subjects literals) → taken_at xs (take k literals) ≡ taken)
    → ((xs : List ℤ) → IsOpenTo s (get_or literals k d).subject (value_at xs (get_or literals k d).subject) → atom_holds xs (get_or literals k d) ≡ b)
    → (xs : List ℤ) → AreOpen s xs (atom_subjects literals) → taken_at xs (take (k + 1) literals) ≡ new
taken_more s literals k d taken new b l e h is xs admitted =
    let this = is xs (subject_holds (λ i. IsOpenTo s i (value_at xs i)) literals k d l admitted) in
    let before = h xs admitted in
    map_more (atom_holds xs) literals k d l ∙ rw (this, before) (sym e)

-- a subject that is fixed decides each atom
pub fixed_decides : (s : Trail) (u : Atom) (x : ℤ) → IsOpenTo s u.subject x → (IsTrueNow s u → ⊥) → (IsFalseNow s u → ⊥) → IsFixedNow s u.subject → ⊥
fixed_decides s u x admitted if_true if_false fixed = by (meets u.op u.value x) refl
  where
    by : (b : Bool) → meets u.op u.value x ≡ b → ⊥
    by true e = if_true (λ y o. subst (λ (z : ℤ). meets u.op u.value z ≡ true) (fixed x y admitted o) e)
    by false e = if_false (λ y o. subst (λ (z : ℤ). meets u.op u.value z ≡ false) (fixed x y admitted o) e)

pub arcs_pushed : (nodes : List ℤ) (from to : List ℕ) (taken : List Bool) (k : ℕ) (done new : List Arc) (t h : ℤ) (f g : ℕ) → k < length from → k < length to → k < length taken → get_or taken k false ≡ true
    → f ≡ slice_index from k → g ≡ slice_index to k → t ≡ number nodes f → h ≡ number nodes g → new ≡ done ++ record { tail = t; head = h } ∷ []
    → done ≡ arcs_by nodes from to (take k taken) → new ≡ arcs_by nodes from to (take (k + 1) taken)
arcs_pushed nodes from to taken k done new t h f g p q r on fe ge te he e was =
    let more = arcs_more nodes from to taken k p q r on in
    let one : t ≡ number nodes (slice_index from k) = te ∙ ap (number nodes) fe in
    let two : h ≡ number nodes (slice_index to k) = he ∙ ap (number nodes) ge in
    let arc : record { tail = t; head = h } ≡ arc_at nodes from to k = cc in
    let step : done ++ record { tail = t; head = h } ∷ [] ≡ arcs_by nodes from to (take k taken) ++ arc_at nodes from to k ∷ [] = rw (arc, was) refl in
    let next : arcs_by nodes from to (take (k + 1) taken) ≡ arcs_by nodes from to (take (suc k) taken) = rw add-one refl in
    e ∙ step ∙ sym more ∙ sym next

pub places_more : (nodes : List ℤ) (places new : List ℕ) (ends : List ℤ) (i p : ℕ) → i < length ends → new ≡ places ++ p ∷ [] → number nodes p ≡ get_or ends i (pos 0) → map (number nodes) places ≡ take i ends → map (number nodes) new ≡ take (i + 1) ends
places_more nodes places new ends i p l e is h =
    ap (map (number nodes)) e ∙ map-append (number nodes) places (p ∷ []) ∙ rw (h, is) (sym (take_more ends i (pos 0) l))

pub all_left : (xs ys all ns : List ℤ) → all ≡ xs ++ ys → ((n : ℤ) → Contains all n → Contains ns n) → All (Contains ns) xs
all_left xs ys all ns e h k d l = h (get_or xs k d) (rw e (Contains-append_left xs ys (get_or xs k d) (Contains-get_or xs k d l)))

pub all_right : (xs ys all ns : List ℤ) → all ≡ xs ++ ys → ((n : ℤ) → Contains all n → Contains ns n) → All (Contains ns) ys
all_right xs ys all ns e h k d l = h (get_or ys k d) (rw e (Contains-append_right xs ys (get_or ys k d) (Contains-get_or ys k d l)))

pub all_listed : (nodes all xs ys : List ℤ) (from to : List ℕ) → all ≡ xs ++ ys → map (number nodes) from ≡ xs → map (number nodes) to ≡ ys → ((n : ℤ) → Contains nodes n → Contains all n) → (v : ℕ) → v < length nodes
    → (Contains (map (number nodes) from ++ map (number nodes) to) (number nodes v) → ⊥) → ⊥
all_listed nodes all xs ys from to e f t h v l none = none (rw (f, t) (subst (λ (ns : List ℤ). Contains ns (number nodes v)) e (h (number nodes v) (Contains-get_or nodes v (pos 0) l))))

pub numbering : (nodes : List ℤ) (from to : List ℕ) → IsRising nodes → All (λ v. v < length nodes) from → All (λ v. v < length nodes) to
    → ((v : ℕ) → v < length nodes → (Contains (map (number nodes) from ++ map (number nodes) to) (number nodes v) → ⊥) → ⊥) → IsNumbering nodes from to
numbering nodes from to rising f t listed = record {
  apart = λ i j p q e. elim (cases_lt i j) [
    | inl less ↦ (let up = rising i j less q in absurd (omega (arith, ints)))
    | inr more ↦ elim (cases_eq i j) [
      | inl at ↦ at
      | inr other ↦ (let up = rising j i (omega arith) p in absurd (omega (arith, ints)))
    ]
  ];
  tails = λ k l. f k 0 l;
  heads = λ k l. t k 0 l;
  listed = listed;
}
