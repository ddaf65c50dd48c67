-- What holds in a box holds in one below it.
use Rattle.std.specs.Prelude.{◌&&◌, ◌||◌, ◌==◌, not}
use Rattle.std.proofs.Common.{◌≡◌, ℕ, List, [], ◌∷◌, get_or, Bool, true, false, ◌⊎◌, inl, inr, refl, arith, ℤ}
use Rattle.std.proofs.lemmas.Bool.Decides.{nat_tests}
use Rattle.cps_literal.specs.declared.atom.Atom.{Atom}
use Rattle.cps_literal.specs.Truth.{meets}
use Rattle.cps_unit.specs.Boxes.{Box, with_atom, IsBelow, IsFalseIn, IsTrueIn}
use Rattle.cps_unit.specs.Propagation.{IsUnit, IsFalseClause, Forces}

-- both parts of a test that holds
pub and_true : (a b : Bool) → (a && b) ≡ true → (a ≡ true) × (b ≡ true)
and_true true b e = (refl, e)
and_true false b e = cc

pub false_below : (box more : Box) (t : Atom) → IsBelow box more → IsFalseIn more t → IsFalseIn box t
false_below box more t b f x l = f x (b.at t.subject x l)

pub clause_below : (box more : Box) (clause : List Atom) → IsBelow box more → IsFalseClause more clause → IsFalseClause box clause
clause_below box more clause b f k d l = false_below box more (get_or clause k d) b (f k d l)

pub other_below : (box more : Box) (t u : Atom) → IsBelow box more → (u ≡ t) ⊎ IsFalseIn more u → (u ≡ t) ⊎ IsFalseIn box u
other_below box more t u b (inl same) = inl same
other_below box more t u b (inr f) = inr (false_below box more u b f)

pub unit_below : (box more : Box) (t : Atom) (clause : List Atom) → IsBelow box more → IsUnit more t clause → IsUnit box t clause
unit_below box more t clause b u = record { listed = u.listed; others = λ k d l. other_below box more t (get_or clause k d) b (u.others k d l) }

pub atom_below : (box more : Box) (t : Atom) → IsBelow box more → IsBelow (with_atom box t) (with_atom more t)
atom_below box more t b = record { at = λ s x l. (let both = and_true (box s x) _ l in rw (b.at s x both.0, both.1) refl) }

-- what is forced in a box is forced in one below it
pub forces_below : (clauses : List (List Atom)) (box more : Box) (ts : List Atom) → IsBelow box more → Forces clauses more ts → Forces clauses box ts
forces_below clauses box more [] b f = (f.0, f.1, f.2, f.3, clause_below box more f.1 b f.4)
forces_below clauses box more (t ∷ ts) b f =
    let u = f.0 in
    ((u.0, u.1, u.2, u.3, unit_below box more t u.1 b u.4), forces_below clauses (with_atom box t) (with_atom more t) ts (atom_below box more t b) f.1)

-- an atom that is true stays so in a box below
pub true_below : (box more : Box) (t : Atom) → IsBelow box more → IsTrueIn more t → IsTrueIn box t
true_below box more t b h x l = h x (b.at t.subject x l)

pub below_itself : (box next : Box) (t : Atom) → ((s : ℕ) (x : ℤ) → next s x ≡ with_atom box t s x) → IsBelow next box
below_itself box next t e = record { at = λ s x l. (and_true (box s x) _ (rw e at l)).0 }

-- the forced atom is true from then on
pub true_next : (box next : Box) (t : Atom) → ((s : ℕ) (x : ℤ) → next s x ≡ with_atom box t s x) → IsTrueIn next t
true_next box next t e x l =
    let both = and_true (box t.subject x) _ (rw e at l) in
    let same : (t.subject == t.subject) ≡ true = grind (arith, nat_tests) in
    let right : (not (t.subject == t.subject) || meets t.op t.value x) ≡ true = both.1 in
    rw same at right
