-- Propagation in the box of a clause, from domains that are narrowed already by what clauses force.
use Rattle.std.specs.Prelude.{Any, ◌&&◌, ◌||◌, ◌==◌, not}
use Rattle.std.proofs.Common.{◌≡◌, ℕ, List, [], ◌∷◌, get_or, Bool, true, false, ◌⊎◌, inl, inr, refl, sym, ◌∙◌, ap, subst, arith, ℤ}
use Rattle.std.proofs.lemmas.Bool.Decides.{nat_tests}
use Rattle.cps_literal.specs.declared.atom.Atom.{Atom}
use Rattle.cps_literal.specs.Truth.{meets}
use Rattle.cps_unit.specs.Boxes.{Box, with_atom, is_made_true, IsEmpty, IsFalseIn, IsBelow, denied}
use Rattle.cps_unit.specs.Propagation.{IsUnit, LeadsToConflict}
use Rattle.cps_unit.specs.Chains.{with_atoms, AreForced, Propagates}
use Rattle.cps_unit.proofs.Below.{and_true}
use Rattle.cps_unit.proofs.Chains.{forced_below, same_with_atoms, leads_after, leads_below, propagates_below, leads_at_once}

-- ---- the box of a clause after atoms, and atoms after the box of a clause

and_swap : (a b c : Bool) → ((a && b) && c) ≡ ((a && c) && b)
and_swap true true true = refl
and_swap true true false = refl
and_swap true false true = refl
and_swap true false false = refl
and_swap false b c = refl

denied_with_atoms : (box : Box) (clause : List Atom) (ts : List Atom) (s : ℕ) (x : ℤ) → with_atoms (denied box clause) ts s x ≡ denied (with_atoms box ts) clause s x
denied_with_atoms box clause [] s x = refl
denied_with_atoms box clause (t ∷ ts) s x =
    same_with_atoms (with_atom (denied box clause) t) (denied (with_atom box t) clause) ts (λ r y. and_swap (box r y) (not (is_made_true clause r y)) (not (t.subject == r) || meets t.op t.value y)) s x
    ∙ denied_with_atoms (with_atom box t) clause ts s x

denied_below : (box : Box) (clause : List Atom) → IsBelow (denied box clause) box
denied_below box clause = record { at = λ s x h. (and_true (box s x) _ h).0 }

denied_same : (box other : Box) (clause : List Atom) (s : ℕ) (x : ℤ) → box s x ≡ other s x → denied box clause s x ≡ denied other clause s x
denied_same box other clause s x e = ap (λ (b : Bool). b && not (is_made_true clause s x)) e

-- what propagation narrows it narrows in the box of a clause too
pub propagates_denied : (clauses : List (List Atom)) (box next : Box) (clause : List Atom) → Propagates clauses box next → Propagates clauses (denied box clause) (denied next clause)
propagates_denied clauses box next clause p = record {
  forced = p.forced;
  are_forced = forced_below clauses (denied box clause) box p.forced (denied_below box clause) p.are_forced;
  same = λ s x. (denied_same next (with_atoms box p.forced) clause s x (p.same s x) ∙ sym (denied_with_atoms box clause p.forced s x));
}

-- ---- what becomes empty by propagation leads to a conflict

false_if_empty : (box : Box) (t : Atom) → ((x : ℤ) → with_atom box t t.subject x ≡ false) → IsFalseIn box t
false_if_empty box t e x l =
    let same : (t.subject == t.subject) ≡ true = grind (arith, nat_tests) in
    let gone : (box t.subject x && (not (t.subject == t.subject) || meets t.op t.value x)) ≡ false = e x in
    rw (l, same) at gone

false_unit : (box : Box) (t u : Atom) → IsFalseIn box t → (u ≡ t) ⊎ IsFalseIn box u → IsFalseIn box u
false_unit box t u f (inl same) = subst (λ (v : Atom). IsFalseIn box v) (sym same) f
false_unit box t u f (inr g) = g

conflict_by : (clauses : List (List Atom)) (box : Box) (t : Atom) → Any (IsUnit box t) clauses → IsFalseIn box t → LeadsToConflict clauses box
conflict_by clauses box t u f = leads_at_once clauses box (u.0, u.1, u.2, u.3, λ k d l. false_unit box t (get_or u.1 k d) f (u.4.others k d l))

none_there : (b same m : Bool) → same ≡ false → (b && (not same || m)) ≡ false → b ≡ false
none_there true true m q e = absurd (cc)
none_there true false m q e = e
none_there false same m q e = refl

gone_below : (b m : Bool) → (b ≡ true → m ≡ true) → m ≡ false → b ≡ false
gone_below true m f e = absurd (let g = f refl in cc)
gone_below false m f e = refl

leads_with : (clauses : List (List Atom)) (box : Box) (t : Atom) → Any (IsUnit box t) clauses → LeadsToConflict clauses (with_atom box t) → LeadsToConflict clauses box
leads_with clauses box t u l = record { forced = t ∷ l.forced; forces = (u, l.forces) }

empty_before : (count : ℕ) (clauses : List (List Atom)) (box : Box) (t : Atom) (same : Bool) → Any (IsUnit box t) clauses → (e : IsEmpty count (with_atom box t)) → (t.subject == e.subject) ≡ same → IsEmpty count box ⊎ LeadsToConflict clauses box
empty_before count clauses box t true u e q =
    let is : t.subject ≡ e.subject = grind (arith, nat_tests) in
    inr (conflict_by clauses box t u (false_if_empty box t (subst (λ (s : ℕ). (x : ℤ) → with_atom box t s x ≡ false) (sym is) e.none)))
empty_before count clauses box t false u e q = inl (record { subject = e.subject; within = e.within; none = λ x. none_there (box e.subject x) (t.subject == e.subject) (meets t.op t.value x) q (e.none x) })

empty_or_leads : (count : ℕ) (clauses : List (List Atom)) (box : Box) (ts : List Atom) → AreForced clauses box ts → IsEmpty count (with_atoms box ts) → IsEmpty count box ⊎ LeadsToConflict clauses box
empty_or_leads count clauses box [] f e = inl e
empty_or_leads count clauses box (t ∷ ts) f e = elim (empty_or_leads count clauses (with_atom box t) ts f.1 e) [
  | inl empty ↦ empty_before count clauses box t (t.subject == empty.subject) f.0 empty refl
  | inr leads ↦ inr (leads_with clauses box t f.0 leads)
]

empty_same : (count : ℕ) (box other : Box) → ((s : ℕ) (x : ℤ) → box s x ≡ other s x) → IsEmpty count box → IsEmpty count other
empty_same count box other e h = record { subject = h.subject; within = h.within; none = λ x. sym (e h.subject x) ∙ h.none x }

empty_below : (count : ℕ) (box more : Box) → IsBelow box more → IsEmpty count more → IsEmpty count box
empty_below count box more b h = record { subject = h.subject; within = h.within; none = λ x. gone_below (box h.subject x) (more h.subject x) (b.at h.subject x) (h.none x) }

-- ---- a clause is implied in the narrowed domains where it is in the given ones

pub implied_in : (count : ℕ) (clauses : List (List Atom)) (box next : Box) → Propagates clauses box next → IsEmpty count next ⊎ LeadsToConflict clauses next → IsEmpty count box ⊎ LeadsToConflict clauses box
implied_in count clauses box next p (inl empty) = empty_or_leads count clauses box p.forced p.are_forced (empty_same count next (with_atoms box p.forced) p.same empty)
implied_in count clauses box next p (inr leads) = inr (leads_after clauses box next p leads)

pub implied_out : (count : ℕ) (clauses : List (List Atom)) (box next : Box) → Propagates clauses box next → IsEmpty count box ⊎ LeadsToConflict clauses box → IsEmpty count next ⊎ LeadsToConflict clauses next
implied_out count clauses box next p (inl empty) = inl (empty_below count next box (propagates_below clauses box next p) empty)
implied_out count clauses box next p (inr leads) = inr (leads_below clauses next box (propagates_below clauses box next p) leads)

-- without assumption a conflict is one in each box
pub leads_denied : (clauses : List (List Atom)) (box : Box) (clause : List Atom) → LeadsToConflict clauses box → LeadsToConflict clauses (denied box clause)
leads_denied clauses box clause l = leads_below clauses (denied box clause) box (denied_below box clause) l
