-- Clauses that speak of some subjects.
use Rattle.std.proofs.Common.{ℕ, ◌<◌, List, [], ◌∷◌, ◌++◌, get_or, subst, arith}
use Rattle.std.specs.List.{All, Contains}
use Rattle.std.proofs.lemmas.List.{length-map}
use Rattle.std.proofs.lemmas.List.Elements.{All-nil, All-push, All-append, All-weaker, All-contains, All-contains_itself, Contains-get_or, Contains-append_left, Contains-append_right}
use Rattle.cps_literal.specs.declared.atom.Atom.{Atom}
use Rattle.cps_instance.specs.Tasks.{atom_subjects}
use Rattle.cps_propagate.specs.Reasons.{SpeaksOf}
use Rattle.cps_propagate.proofs.Listing.{get_or-map}

-- a clause speaks of its own subjects
pub about_itself : (us : List Atom) → SpeaksOf (atom_subjects us) us
about_itself us k d l =
    subst (λ (i : ℕ). Contains (atom_subjects us) i) (get_or-map (λ (u : Atom). u.subject) us k d) (Contains-get_or (atom_subjects us) k d.subject (omega (arith, l, length-map us (λ (u : Atom). u.subject))))

-- what holds of some subjects holds of those that a clause speaks of
pub each_subject : (P : ℕ → Type 0) (is : List ℕ) (c : List Atom) → All P is → SpeaksOf is c → All (λ u. P u.subject) c
each_subject P is c all speaks k d l = All-contains P is (get_or c k d).subject all (speaks k d l)

pub below_of : (n : ℕ) (is : List ℕ) (c : List Atom) → All (λ i. i < n) is → SpeaksOf is c → All (λ u. u.subject < n) c
below_of n is c all speaks = each_subject (λ i. i < n) is c all speaks

-- more subjects, none and one more atom
pub speaks_among : (is js : List ℕ) (c : List Atom) → All (Contains js) is → SpeaksOf is c → SpeaksOf js c
speaks_among is js c all speaks = each_subject (Contains js) is c all speaks

pub speaks_left : (is js : List ℕ) (c : List Atom) → SpeaksOf is c → SpeaksOf (is ++ js) c
speaks_left is js c speaks k d l = Contains-append_left is js (get_or c k d).subject (speaks k d l)

pub speaks_right : (is js : List ℕ) (c : List Atom) → SpeaksOf js c → SpeaksOf (is ++ js) c
speaks_right is js c speaks k d l = Contains-append_right is js (get_or c k d).subject (speaks k d l)

pub speaks_none : (is : List ℕ) → SpeaksOf is []
speaks_none is = All-nil (λ u. Contains is u.subject)

pub speaks_push : (is : List ℕ) (c : List Atom) (u : Atom) → SpeaksOf is c → Contains is u.subject → SpeaksOf is (c ++ u ∷ [])
speaks_push is c u speaks mine = All-push (λ (v : Atom). Contains is v.subject) c u speaks mine

pub speaks_append : (is : List ℕ) (c d : List Atom) → SpeaksOf is c → SpeaksOf is d → SpeaksOf is (c ++ d)
speaks_append is c d one two = All-append (λ (v : Atom). Contains is v.subject) c d one two

-- a clause each atom of which is about one of some subjects
pub speaks_each : (is : List ℕ) (c : List Atom) → ((u : Atom) → Contains c u → Contains is u.subject) → SpeaksOf is c
speaks_each is c each = All-weaker (Contains c) (λ (u : Atom). Contains is u.subject) each c (All-contains_itself c)
