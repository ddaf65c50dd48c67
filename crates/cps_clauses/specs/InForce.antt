-- Which clauses are in force, and what dropping some of them leaves.
use Rattle.std.specs.Prelude.{ℕ, ◌<◌, ◌≡◌, Bool, true, false, List, [], ◌∷◌, length, slice_index_or, slice_set}
use Rattle.cps_literal.specs.declared.atom.Atom.{Atom}

-- whether the clause with a number was dropped; none was whose number lies past the end of the list
abbrev pub is_dropped : List Bool → ℕ → Bool
is_dropped dropped i = slice_index_or dropped i false

-- the clauses in force, in order: all but those that were dropped
abbrev pub in_force : List (List Atom) → List Bool → List (List Atom)
in_force [] dropped = []
in_force (c ∷ cs) [] = c ∷ cs
in_force (c ∷ cs) (true ∷ ds) = in_force cs ds
in_force (c ∷ cs) (false ∷ ds) = c ∷ in_force cs ds

-- the clause with a number is in force
pub record IsNumberInForce (clauses : List (List Atom)) (dropped : List Bool) (i : ℕ) : Type 0 where
  pub within : i < length clauses
  pub stays : is_dropped dropped i ≡ false

-- the clauses by number, those that were dropped without their atoms
abbrev pub blanked : List (List Atom) → List Bool → List (List Atom)
blanked [] dropped = []
blanked (c ∷ cs) [] = c ∷ cs
blanked (c ∷ cs) (true ∷ ds) = [] ∷ blanked cs ds
blanked (c ∷ cs) (false ∷ ds) = c ∷ blanked cs ds

-- after the clauses with these numbers were dropped: which were, and the clauses
abbrev pub marked : List Bool → List ℕ → List Bool
marked dropped [] = dropped
marked dropped (i ∷ is) = marked (slice_set dropped i true) is

abbrev pub emptied : List (List Atom) → List ℕ → List (List Atom)
emptied clauses [] = clauses
emptied clauses (i ∷ is) = emptied (slice_set clauses i []) is
