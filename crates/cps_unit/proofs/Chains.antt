-- Chains of forced atoms: one after another, to a conflict, and with more clauses.
use Rattle.std.specs.Prelude.{Any, ◌&&◌, ◌||◌, ◌==◌, not}
use Rattle.std.proofs.Common.{◌≡◌, ℕ, List, [], ◌∷◌, ◌++◌, length-append, Bool, refl, sym, ◌∙◌, ap, arith, ℤ}
use Rattle.std.proofs.lemmas.List.{get_or_append_left}
use Rattle.cps_literal.specs.declared.atom.Atom.{Atom}
use Rattle.cps_literal.specs.Truth.{meets}
use Rattle.cps_unit.specs.Boxes.{Box, with_atom, IsBelow}
use Rattle.cps_unit.specs.Propagation.{IsUnit, IsFalseClause, Forces, LeadsToConflict}
use Rattle.cps_unit.specs.Chains.{with_atoms, AreForced, Propagates}
use Rattle.cps_unit.proofs.Below.{and_true, unit_below, atom_below, forces_below}

-- ---- boxes that are the same value by value

pub below_if_same : (box other : Box) → ((s : ℕ) (x : ℤ) → box s x ≡ other s x) → IsBelow box other
below_if_same box other e = record { at = λ s x h. sym (e s x) ∙ h }

pub above_if_same : (box other : Box) → ((s : ℕ) (x : ℤ) → box s x ≡ other s x) → IsBelow other box
above_if_same box other e = record { at = λ s x h. e s x ∙ h }

pub same_with_atom : (box other : Box) (t : Atom) → ((s : ℕ) (x : ℤ) → box s x ≡ other s x) → (s : ℕ) (x : ℤ) → with_atom box t s x ≡ with_atom other t s x
same_with_atom box other t e s x = ap (λ (b : Bool). b && (not (t.subject == s) || meets t.op t.value x)) (e s x)

pub same_with_atoms : (box other : Box) (ts : List Atom) → ((s : ℕ) (x : ℤ) → box s x ≡ other s x) → (s : ℕ) (x : ℤ) → with_atoms box ts s x ≡ with_atoms other ts s x
same_with_atoms box other [] e s x = e s x
same_with_atoms box other (t ∷ ts) e s x = same_with_atoms (with_atom box t) (with_atom other t) ts (same_with_atom box other t e) s x

-- ---- one chain after another

any_unit_below : (clauses : List (List Atom)) (box more : Box) (t : Atom) → IsBelow box more → Any (IsUnit more t) clauses → Any (IsUnit box t) clauses
any_unit_below clauses box more t b u = (u.0, u.1, u.2, u.3, unit_below box more t u.1 b u.4)

pub forced_below : (clauses : List (List Atom)) (box more : Box) (ts : List Atom) → IsBelow box more → AreForced clauses more ts → AreForced clauses box ts
forced_below clauses box more [] b f = tt
forced_below clauses box more (t ∷ ts) b f = (any_unit_below clauses box more t b f.0, forced_below clauses (with_atom box t) (with_atom more t) ts (atom_below box more t b) f.1)

with_atoms-append : (box : Box) (ts us : List Atom) → with_atoms box (ts ++ us) ≡ with_atoms (with_atoms box ts) us
with_atoms-append box [] us = refl
with_atoms-append box (t ∷ ts) us = with_atoms-append (with_atom box t) ts us

forced-append : (clauses : List (List Atom)) (box : Box) (ts us : List Atom) → AreForced clauses box ts → AreForced clauses (with_atoms box ts) us → AreForced clauses box (ts ++ us)
forced-append clauses box [] us f g = g
forced-append clauses box (t ∷ ts) us f g = (f.0, forced-append clauses (with_atom box t) ts us f.1 g)

pub propagates_itself : (clauses : List (List Atom)) (box : Box) → Propagates clauses box box
propagates_itself clauses box = record { forced = []; are_forced = tt; same = λ s x. refl }

pub propagates_on : (clauses : List (List Atom)) (box mid next : Box) → Propagates clauses box mid → Propagates clauses mid next → Propagates clauses box next
propagates_on clauses box mid next p q = record {
  forced = p.forced ++ q.forced;
  are_forced = forced-append clauses box p.forced q.forced p.are_forced (forced_below clauses (with_atoms box p.forced) mid q.forced (above_if_same mid (with_atoms box p.forced) p.same) q.are_forced);
  same = λ s x. (q.same s x ∙ same_with_atoms mid (with_atoms box p.forced) q.forced p.same s x ∙ ap (λ (b : Box). b s x) (sym (with_atoms-append box p.forced q.forced)));
}

pub propagates_atom : (clauses : List (List Atom)) (box next : Box) (t : Atom) → Any (IsUnit box t) clauses → ((s : ℕ) (x : ℤ) → next s x ≡ with_atom box t s x) → Propagates clauses box next
propagates_atom clauses box next t u e = record { forced = t ∷ []; are_forced = (u, tt); same = e }

-- ---- a conflict at the end of a chain

leads_from : (clauses : List (List Atom)) (box : Box) (ts us : List Atom) → AreForced clauses box ts → Forces clauses (with_atoms box ts) us → Forces clauses box (ts ++ us)
leads_from clauses box [] us f g = g
leads_from clauses box (t ∷ ts) us f g = (f.0, leads_from clauses (with_atom box t) ts us f.1 g)

below_atoms : (box : Box) (ts : List Atom) → IsBelow (with_atoms box ts) box
below_atoms box [] = record { at = λ s x h. h }
below_atoms box (t ∷ ts) = record { at = λ s x h. (and_true (box s x) _ ((below_atoms (with_atom box t) ts).at s x h)).0 }

pub propagates_below : (clauses : List (List Atom)) (box next : Box) → Propagates clauses box next → IsBelow next box
propagates_below clauses box next p = record { at = λ s x h. (below_atoms box p.forced).at s x (sym (p.same s x) ∙ h) }

pub leads_after : (clauses : List (List Atom)) (box next : Box) → Propagates clauses box next → LeadsToConflict clauses next → LeadsToConflict clauses box
leads_after clauses box next p l = record {
  forced = p.forced ++ l.forced;
  forces = leads_from clauses box p.forced l.forced p.are_forced (forces_below clauses (with_atoms box p.forced) next l.forced (above_if_same next (with_atoms box p.forced) p.same) l.forces);
}

pub leads_below : (clauses : List (List Atom)) (box more : Box) → IsBelow box more → LeadsToConflict clauses more → LeadsToConflict clauses box
leads_below clauses box more b l = record { forced = l.forced; forces = forces_below clauses box more l.forced b l.forces }

pub leads_at_once : (clauses : List (List Atom)) (box : Box) → Any (IsFalseClause box) clauses → LeadsToConflict clauses box
leads_at_once clauses box f = record { forced = []; forces = f }

-- ---- a clause more

unit_more : (clauses : List (List Atom)) (c : List Atom) (box : Box) (t : Atom) → Any (IsUnit box t) clauses → Any (IsUnit box t) (clauses ++ c ∷ [])
unit_more clauses c box t u = (u.0, u.1, (let l = u.2 in omega (arith, length-append clauses (c ∷ []))), get_or_append_left clauses (c ∷ []) u.1 u.0 u.2 ∙ u.3, u.4)

forced_more : (clauses : List (List Atom)) (c : List Atom) (box : Box) (ts : List Atom) → AreForced clauses box ts → AreForced (clauses ++ c ∷ []) box ts
forced_more clauses c box [] f = tt
forced_more clauses c box (t ∷ ts) f = (unit_more clauses c box t f.0, forced_more clauses c (with_atom box t) ts f.1)

pub propagates_more : (clauses : List (List Atom)) (c : List Atom) (box next : Box) → Propagates clauses box next → Propagates (clauses ++ c ∷ []) box next
propagates_more clauses c box next p = record { forced = p.forced; are_forced = forced_more clauses c box p.forced p.are_forced; same = p.same }
