-- Cores of assumptions: what a list has of those that are wanted, and that no free assignment makes a core true.
use Rattle.std.specs.Prelude.{IsTrue, ◌&&◌}
use Rattle.std.specs.List.{All, Contains}
use Rattle.std.proofs.Common.{ℕ, ◌<◌, ℤ, pos, negsuc, ◌≡◌, ◌≢◌, ◌⊎◌, inl, inr, Bool, true, false, true≢false, None, List, [], ◌∷◌, length, get_or, refl, sym, ◌∙◌, ap, subst, arith}
use Rattle.std.proofs.lemmas.Int.{ints}
use Rattle.std.proofs.lemmas.List.{get_or_default}
use Rattle.std.proofs.lemmas.List.Elements.{All-cons, All-head, All-nil, All-tail, All-weaker, Contains-append_cases, Contains-append_left, Contains-append_right, Contains-get_or, Contains-push, Contains-push_cases}
use Rattle.std.proofs.lemmas.List.Folds.{list_all_at}
use borrow.Author.Tests.{ltb-true}
use Rattle.cps_model.specs.declared.bound.Bound.{Bound}
use Rattle.cps_model.specs.declared.bound.Bound.TheVariants.{At, Infinite}
use Rattle.cps_model.specs.declared.model.CpModel.{CpModel}
use Rattle.cps_model.specs.Rules.{names}
use Rattle.cps_model.specs.Validity.{IsValid, assumption_fault}
use Rattle.cps_model.specs.Values.{literal_holds, literals_hold}
use Rattle.cps_model.specs.Solutions.{objective_value, IsFree, IsSolution}
use Rattle.cps_model.proofs.Faults.{parts_of, rule_kept}
use Rattle.cps_model.proofs.Inside.{length-are_within}
use Rattle.cps_literal.specs.declared.atom.Atom.{Atom}
use Rattle.cps_literal.specs.Truth.{atom_holds, meets, value_at}
use Rattle.cps_instance.specs.Posting.{atom_of}
use Rattle.cps_instance.specs.Sums.{extended}
use Rattle.cps_instance.proofs.Extending.{agree-extended}
use Rattle.cps_instance.proofs.LiteralAtoms.{atom_holds-at, atom_holds-literal}
use Rattle.cps_instance.specs.Problem.{Problem, IsInstance, variable_count}
use Rattle.cps_trail.specs.Trail.{Domains, Trail, IsFalseNow, IsSoundTrail}
use Rattle.cps_trail.proofs.Falls.{bool_cases}
use Rattle.cps_branch.specs.Fixed.{AreFixed, HasValues}
use Rattle.cps_port.specs.Order.{IsBelow}
use Rattle.cps_search.specs.Assumptions.{AreOnceInOrder, IsAssumed, IsCoreBelow, IsFailedAssumption, IsInCore, IsSufficient, NoneFails, assumption_at}
use Rattle.cps_search.specs.Searches.{Search, IsSoundSearch, NoFreeBelow, NoneBelow}
use Rattle.cps_search.specs.Growing.{AreBehindIn}
use Rattle.cps_search.proofs.AssumptionOrder.{behind_assumed}

pub same_or_not : (r q : ℤ) → (r ≡ q) ⊎ (r ≢ q)
same_or_not r q = grind (arith, ints)

head_of : (q : ℤ) (rs : List ℤ) → Contains (q ∷ rs) q
head_of q rs = Contains-append_left (q ∷ []) rs q (Contains-push [] q)

tail_of : (q : ℤ) (rs : List ℤ) (r : ℤ) → Contains rs r → Contains (q ∷ rs) r
tail_of q rs r has = Contains-append_right (q ∷ []) rs r has

none_in : (r : ℤ) → Contains [] r → ⊥
none_in r has = omega (arith, has.1)

in_tail : (q : ℤ) (rs : List ℤ) (r : ℤ) → r ≢ q → Contains (q ∷ rs) r → Contains rs r
in_tail q rs r other has = elim (Contains-append_cases (q ∷ []) rs r has) [
  | inl one ↦ elim (Contains-push_cases [] q r one) [ inl nowhere ↦ absurd (none_in r nowhere) | inr same ↦ absurd (other (sym same)) ]
  | inr rest ↦ rest
]

-- the list has each member that is wanted
pub once-has : (wanted : ℤ → Type 0) (rs found : List ℤ) → AreOnceInOrder wanted rs found → (r : ℤ) → Contains rs r → wanted r → Contains found r
once-has wanted [] found h r has wants = absurd (none_in r has)
once-has wanted (q ∷ rs) found h r has wants = elim h [
  | inl here ↦ subst (λ (xs : List ℤ). Contains xs r) (sym here.1.1) (elim (same_or_not r q) [
    | inl same ↦ subst (λ (x : ℤ). Contains (q ∷ here.1.0) x) (sym same) (head_of q here.1.0)
    | inr other ↦ tail_of q here.1.0 r (once-has (λ x. wanted x × (x ≢ q)) rs here.1.0 here.1.2 r (in_tail q rs r other has) (wants, other))
  ])
  | inr not ↦ elim (same_or_not r q) [
    | inl same ↦ absurd (not.0 (subst wanted same wants))
    | inr other ↦ once-has wanted rs found not.1 r (in_tail q rs r other has) wants
  ]
]

-- and no other
pub once-among : (wanted : ℤ → Type 0) (rs found : List ℤ) → AreOnceInOrder wanted rs found → All (Contains rs) found
once-among wanted [] found h = subst (λ (xs : List ℤ). All (Contains []) xs) (sym h) (All-nil (Contains []))
once-among wanted (q ∷ rs) found h = elim h [
  | inl here ↦ subst (λ (xs : List ℤ). All (Contains (q ∷ rs)) xs) (sym here.1.1)
      (All-cons (Contains (q ∷ rs)) q here.1.0 (head_of q rs) (All-weaker (Contains rs) (Contains (q ∷ rs)) (λ r has. tail_of q rs r has) here.1.0 (once-among (λ x. wanted x × (x ≢ q)) rs here.1.0 here.1.2)))
  | inr not ↦ All-weaker (Contains rs) (Contains (q ∷ rs)) (λ r has. tail_of q rs r has) found (once-among wanted rs found not.1)
]

-- what is wanted may be said in another way
pub once-same : (wanted wanted' : ℤ → Type 0) (rs found : List ℤ) → ((r : ℤ) → Contains rs r → wanted r → wanted' r) → ((r : ℤ) → Contains rs r → wanted' r → wanted r) → AreOnceInOrder wanted rs found → AreOnceInOrder wanted' rs found
once-same wanted wanted' [] found to from h = h
once-same wanted wanted' (q ∷ rs) found to from h = elim h [
  | inl here ↦ inl (to q (head_of q rs) here.0, (here.1.0, here.1.1, once-same (λ x. wanted x × (x ≢ q)) (λ x. wanted' x × (x ≢ q)) rs here.1.0 (λ r has w. (to r (tail_of q rs r has) w.0, w.1)) (λ r has w. (from r (tail_of q rs r has) w.0, w.1)) here.1.2))
  | inr not ↦ inr (λ w. not.0 (from q (head_of q rs) w), once-same wanted wanted' rs found (λ r has w. to r (tail_of q rs r has) w) (λ r has w. from r (tail_of q rs r has) w) not.1)
]

-- a literal of a list that is true is true
pub literal_in : (a core : List ℤ) (r : ℤ) → IsTrue (literals_hold a core) → Contains core r → literal_holds a r ≡ true
literal_in a core r on has = elim (bool_cases (literal_holds a r)) [
  | inl here ↦ here
  | inr not ↦ absurd (true≢false (sym on ∙ list_all_at (literal_holds a) core has.0 r has.1 (ap (literal_holds a) has.2 ∙ not)))
]

-- ---- a valid model's assumptions

pub assumptions_named : (m : CpModel) → IsValid m → All (λ r. names (length m.variables) r ≡ true) m.assumptions
assumptions_named m valid = All-weaker (λ r. assumption_fault m.variables r ≡ None) (λ r. names (length m.variables) r ≡ true) (λ r fault. (rule_kept 3 _ _ fault).0) m.assumptions (parts_of m valid).assumptions

named_subject : (n : ℕ) (r : ℤ) → names n r ≡ true → (atom_of r).subject < n
named_subject n (pos i) h = ltb-true _ _ h
named_subject n (negsuc i) h = ltb-true _ _ h

-- each is on a variable
pub assumed_variables : (m : CpModel) → IsValid m → All (λ r. (atom_of r).subject < length m.variables) m.assumptions
assumed_variables m valid = All-weaker (λ r. names (length m.variables) r ≡ true) (λ r. (atom_of r).subject < length m.variables) (λ r h. named_subject (length m.variables) r h) m.assumptions (assumptions_named m valid)

-- and so on a subject of a search's store
pub assumed_subjects : (s : Search) → IsSoundSearch s → All (λ r. (atom_of r).subject < length s.store.first) s.instance.model.assumptions
assumed_subjects s h =
    let count : length s.store.first ≡ length s.instance.domains = ap (λ (ds : Domains). length ds) h.domains in
    All-weaker (λ r. (atom_of r).subject < length s.instance.model.variables) (λ r. (atom_of r).subject < length s.store.first) (λ r k. omega (arith, k, count, h.instance.domains.count)) s.instance.model.assumptions (assumed_variables s.instance.model h.instance.valid)

-- a solution makes the atom of each true
pub assumed_holds : (p : Problem) → IsInstance p → (a : List ℤ) → IsSolution p.model a → (t : Atom) → IsAssumed p.model.assumptions t → atom_holds (extended p.defs a) t ≡ true
assumed_holds p h a solution t is =
    let long = length-are_within p.model.variables a solution.free.domains in
    let r = get_or p.model.assumptions is.number (pos 0) in
    ap (atom_holds (extended p.defs a)) is.is
    ∙ atom_holds-at (length p.model.variables) (extended p.defs a) a (λ j k. agree-extended p.defs a j (omega (arith, k, long))) r (assumptions_named p.model h.valid is.number (pos 0) is.within)
    ∙ literal_in a p.model.assumptions r solution.assumptions (Contains-get_or p.model.assumptions is.number (pos 0) is.within)

-- ---- what a failed assumption shows

-- only assumptions are behind it
pub failed_assumed : (s : Search) (failed : ℕ) (decisions : List Atom) → IsSoundSearch s → IsSoundTrail s.store → IsFailedAssumption s.instance.model.assumptions s.store failed → AreBehindIn s (assumption_at s.instance.model.assumptions failed) decisions
    → All (IsAssumed s.instance.model.assumptions) decisions
failed_assumed s failed decisions h sound fails behind =
    behind_assumed _ s.instance.model.assumptions s.store failed (assumption_at s.instance.model.assumptions failed) decisions (assumed_subjects s h) sound h.first fails behind.led.each

module _ (s : Search) (h : IsSoundSearch s) (failed : ℕ) (within : failed < length s.instance.model.assumptions) (decisions : List Atom)
    (assumed : All (IsAssumed s.instance.model.assumptions) decisions) (behind : AreBehindIn s (assumption_at s.instance.model.assumptions failed) decisions) where
  -- an assumption's atom is true where its literal is
  atom_on : (a : List ℤ) → IsFree s.instance.model a → (i : ℕ) → i < length s.instance.model.assumptions → literal_holds a (get_or s.instance.model.assumptions i (pos 0)) ≡ true → atom_holds (extended s.instance.defs a) (assumption_at s.instance.model.assumptions i) ≡ true
  atom_on a free i l on =
      let long = length-are_within s.instance.model.variables a free.domains in
      atom_holds-at (length s.instance.model.variables) (extended s.instance.defs a) a (λ j k. agree-extended s.instance.defs a j (omega (arith, k, long)))
      (get_or s.instance.model.assumptions i (pos 0)) (assumptions_named s.instance.model h.instance.valid i (pos 0) l) ∙ on

  -- a free assignment below z does not make all of these true
  refuted : (a : List ℤ) → IsFree s.instance.model a → IsBelow (objective_value s.instance.model a) s.z → ((i : ℕ) → i < length s.instance.model.assumptions → IsInCore s.instance.model.assumptions failed decisions (get_or s.instance.model.assumptions i (pos 0)) → literal_holds a (get_or s.instance.model.assumptions i (pos 0)) ≡ true) → ⊥
  refuted a free below on =
      let xs = extended s.instance.defs a in
      let decided : All (λ u. atom_holds xs u ≡ true) decisions = λ k u l.
      let here = assumed k u l in
      let has : Contains decisions (assumption_at s.instance.model.assumptions here.number) = subst (λ (t : Atom). Contains decisions t) here.is (Contains-get_or decisions k u l) in
      ap (atom_holds xs) here.is ∙ atom_on a free here.number here.within (on here.number here.within (inr has)) in
      true≢false (sym (atom_on a free failed within (on failed within (inl refl))) ∙ behind.enough a free below decided)

  pub failed_none : NoneBelow s.instance.model s.z
  failed_none a solution below = refuted a solution.free below (λ i l in_core. literal_in a s.instance.model.assumptions (get_or s.instance.model.assumptions i (pos 0)) solution.assumptions (Contains-get_or s.instance.model.assumptions i (pos 0) l))

  pub failed_sufficient : (core : List ℤ) → s.z ≡ Infinite → AreOnceInOrder (IsInCore s.instance.model.assumptions failed decisions) s.instance.model.assumptions core → IsSufficient s.instance.model core
  failed_sufficient core top just = record {
    among = once-among (IsInCore s.instance.model.assumptions failed decisions) s.instance.model.assumptions core just;
    rules_out = λ a free on.
        refuted a free (subst (λ (z : Bound). IsBelow (objective_value s.instance.model a) z) (sym top) tt)
        (λ i l in_core. literal_in a core (get_or s.instance.model.assumptions i (pos 0)) on (once-has (IsInCore s.instance.model.assumptions failed decisions) s.instance.model.assumptions core just (get_or s.instance.model.assumptions i (pos 0)) (Contains-get_or s.instance.model.assumptions i (pos 0) l) in_core));
  }

-- where the variables are fixed, a literal that is false at their values is false in the store
failed_literal : (s : Trail) (n : ℕ) (a : List ℤ) (r : ℤ) → names n r ≡ true → AreFixed s n → HasValues s n a → literal_holds a r ≡ false → IsFalseNow s (atom_of r)
failed_literal s n a r named fixed values off x left =
    let t = atom_of r in
    let l = named_subject n r named in
    ap (λ (v : ℤ). meets t.op t.value v) (fixed t.subject l x (value_at a t.subject) left (values t.subject l)) ∙ atom_holds-literal a r ∙ off

all_true : (a rs : List ℤ) → All (λ r. literal_holds a r ≡ true) rs → literals_hold a rs ≡ true
all_true a [] h = refl
all_true a (r ∷ rs) h = ap (λ (b : Bool). b && literals_hold a rs) (All-head (λ q. literal_holds a q ≡ true) r rs h) ∙ all_true a rs (All-tail (λ q. literal_holds a q ≡ true) r rs h)

-- so where none fails, a free assignment that the store leaves is a solution
pub solution_of_free : (s : Search) (a : List ℤ) → IsSoundSearch s → NoneFails s.instance.model.assumptions s.store → AreFixed s.store (variable_count s.instance) → HasValues s.store (variable_count s.instance) a → IsFree s.instance.model a → IsSolution s.instance.model a
solution_of_free s a h none fixed values free = record {
  free = free;
  assumptions = all_true a s.instance.model.assumptions (λ k r l. elim (bool_cases (literal_holds a (get_or s.instance.model.assumptions k r))) [
    | inl on ↦ on
    | inr off ↦ absurd (
        let same : get_or s.instance.model.assumptions k r ≡ get_or s.instance.model.assumptions k (pos 0) = get_or_default s.instance.model.assumptions k r (pos 0) l in
        none k l (failed_literal s.store (variable_count s.instance) a (get_or s.instance.model.assumptions k (pos 0)) (assumptions_named s.instance.model h.instance.valid k (pos 0) l) fixed values (ap (literal_holds a) (sym same) ∙ off)))
  ]);
}

-- where no free assignment is below a bound, no assumption is needed
pub core_none : (m : CpModel) (z : Bound) → NoFreeBelow m z → IsCoreBelow m z []
core_none m (At v) none = refl
core_none m Infinite none = record { among = All-nil (Contains m.assumptions); rules_out = λ a free on. none a free tt }

pub none_solved : (m : CpModel) (z : Bound) → NoFreeBelow m z → NoneBelow m z
none_solved m z none a solution below = none a solution.free below

-- where no solution is below a bound, all assumptions are enough
pub core_all : (m : CpModel) → NoneBelow m Infinite → IsSufficient m m.assumptions
core_all m none = record { among = λ k r l. Contains-get_or m.assumptions k r l; rules_out = λ a free on. none a (record { free = free; assumptions = on }) tt }
