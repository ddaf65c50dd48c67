-- How a row stands for an entry: the clause's length, its bound, and two words for each of its atoms, which are the
-- subject with the comparison, and the number.
use Rattle.std.specs.Prelude.{◌≡◌, ℕ, ◌+◌, ◌*◌, ◌/◌, ◌%◌, ◌<◌, ◌≤◌, ◌^◌, ◌==◌, if◌then◌else◌, List, [], ◌∷◌, All, length, slice_index, drop}
use Rattle.cps_model.specs.declared.bound.Bound.{Bound}
use Rattle.cps_literal.specs.declared.atom.Atom.{Atom}
use Rattle.cps_literal.specs.declared.atom.Op.{Op}
use Rattle.cps_literal.specs.declared.atom.Op.TheVariants.{Le, Ge, Eq, Ne}
use Rattle.cps_port.specs.declared.entry.Entry.{Entry}
use Rattle.cps_port.specs.Entries.{most_atoms, entry_of, entry_clause}
use Rattle.cps_port.specs.Words.{value_word, value_of, word_of, bound_of}

abbrev pub op_code : Op → ℕ
op_code Le = 0
op_code Ge = 1
op_code Eq = 2
op_code Ne = 3

abbrev pub op_of : ℕ → Op
op_of n = if n == 0 then Le else (if n == 1 then Ge else (if n == 2 then Eq else Ne))

-- the first word of an atom
abbrev pub head_word : Atom → ℕ
head_word t = 4 * t.subject + op_code t.op

abbrev pub atom_words : List Atom → List ℕ
atom_words [] = []
atom_words (t ∷ ts) = head_word t ∷ value_word t.value ∷ atom_words ts

-- the words of a clause that holds below a bound
abbrev pub entry_words : Bound → List Atom → List ℕ
entry_words below c = length c ∷ word_of below ∷ atom_words c

abbrev pub atom_of : ℕ → ℕ → Atom
atom_of head value = record { subject = head / 4; op = op_of (head % 4); value = value_of value }

abbrev pub atoms_of : List ℕ → List Atom
atoms_of [] = []
atoms_of (head ∷ []) = []
atoms_of (head ∷ value ∷ words) = atom_of head value ∷ atoms_of words

-- the entry of a row that has these words
abbrev pub entry_from : ℕ → List ℕ → Entry
entry_from row words = entry_of row (bound_of (slice_index words 1)) (atoms_of (drop 2 words))

-- a clause that comes back from its words
pub record IsCoded (below : Bound) (c : List Atom) : Type 0 where
  pub few : length c ≤ most_atoms
  pub below_back : bound_of (word_of below) ≡ below
  pub atoms_back : atoms_of (atom_words c) ≡ c
  pub subjects : All (λ (t : Atom). t.subject < 2 ^ 32) c

-- the same of an entry
pub record IsCodedEntry (e : Entry) : Type 0 where
  pub is : e ≡ entry_of e.row e.below (entry_clause e)
  pub coded : IsCoded e.below (entry_clause e)
