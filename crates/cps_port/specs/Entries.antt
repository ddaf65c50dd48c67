-- Entries of the board.
use Rattle.std.specs.Prelude.{ℕ, ◌-◌, ◌<◌, ◌≤◌, ◌^◌, pos, negsuc, ◌≤ℤ◌, List, ◌++◌, All, length, take, replicate}
use Rattle.cps_model.specs.declared.bound.Bound.{Bound}
use Rattle.cps_model.specs.declared.model.CpModel.{CpModel}
use Rattle.cps_literal.specs.declared.atom.Atom.{Atom}
use Rattle.cps_literal.specs.declared.atom.Op.TheVariants.{Le}
use Rattle.cps_port.specs.declared.entry.Entry.{Entry}
use Rattle.cps_port.specs.Incumbents.{HoldsBelow, IsIncumbent}

-- the most atoms of a clause that is shared
abbrev pub most_atoms : ℕ
most_atoms = 16

-- the most rows of a board
abbrev pub most_rows : ℕ
most_rows = 4096

-- what stands in the places that an entry's clause leaves free
abbrev pub blank : Atom
blank = record { subject = 0; op = Le; value = pos 0 }

abbrev pub padded : List Atom → List Atom
padded c = c ++ replicate (most_atoms - length c) blank

-- the entry of a clause, in a row
abbrev pub entry_of : ℕ → Bound → List Atom → Entry
entry_of row below c = record { row = row; below = below; len = length c; atoms = padded c }

-- the clause of an entry
abbrev pub entry_clause : Entry → List Atom
entry_clause e = take e.len e.atoms

-- an atom on one of the model's variables, with a number of magnitude at most 2 ^ 62
pub record IsModelAtom (variables : ℕ) (t : Atom) : Type 0 where
  pub subject : t.subject < variables
  pub low : negsuc (2 ^ 62 - 1) ≤ℤ t.value
  pub high : t.value ≤ℤ pos (2 ^ 62)

-- a clause that can be shared: a few atoms, all on the model's variables
pub record IsShareable (m : CpModel) (c : List Atom) : Type 0 where
  pub some_atom : 1 ≤ length c
  pub few : length c ≤ most_atoms
  pub atoms : All (IsModelAtom (length m.variables)) c

-- a clause that holds below the incumbent that is named beside it
pub record IsSoundEntry (m : CpModel) (e : Entry) : Type 0 where
  pub fits : e.len ≤ most_atoms
  pub clause : IsShareable m (entry_clause e)
  pub holds : HoldsBelow m e.below (entry_clause e)
  pub incumbent : IsIncumbent m e.below
