-- Atoms by their numbers in a table that grows.
use Rattle.std.proofs.Common.{ℕ, ◌-◌, ◌≤◌, ◌<◌, ◌≡◌, List, [], ◌∷◌, ◌++◌, Some, None, length, map, take, drop, refl, sym, ◌∙◌, ap, inl, inr, arith, length-append}
use Rattle.std.specs.Prelude.{slice_get, slice_range}
use Rattle.std.specs.List.{All}
use Rattle.std.proofs.lemmas.List.{map-append, get_or_append_left, take-map, drop-map}
use Rattle.std.proofs.lemmas.List.Elements.{All-head, All-tail, All-push, All-weaker}
use Rattle.std.proofs.lemmas.Option.{get_or_from_slice_get, slice_get_cases}
use Rattle.cps_literal.specs.declared.atom.Atom.{Atom}
use Rattle.cps_literal.specs.Table.{Numbers}
use Rattle.cps_clauses.specs.AtomRanges.{atom_in}
use Rattle.cps_clauses.specs.Watches.{no_atom}

-- each of the numbers is one of a table
abbrev pub AreIn : List Atom → List ℕ → Type 0
AreIn table ns = All (λ n. n < length table) ns

atoms_grown : (table more : List Atom) (ns : List ℕ) → AreIn table ns → map (atom_in (table ++ more)) ns ≡ map (atom_in table) ns
atoms_grown table more [] h = refl
atoms_grown table more (n ∷ ns) h =
    let l : n < length table = All-head (λ k. k < length table) n ns h in
    ap (λ (t : Atom). t ∷ map (atom_in (table ++ more)) ns) (get_or_append_left table more no_atom n l)
    ∙ ap (λ (ts : List Atom). atom_in table n ∷ ts) (atoms_grown table more ns (All-tail (λ k. k < length table) n ns h))

-- what was numbered stays, as one more atom is
pub atoms_kept : (old new : List Atom) (atom : Atom) (n : ℕ) (ns : List ℕ) → Numbers old new atom n → AreIn old ns → map (atom_in new) ns ≡ map (atom_in old) ns
atoms_kept old new atom n ns h all = elim h.table [
  | inl same ↦ ap (λ (l : List Atom). map (atom_in l) ns) same
  | inr two ↦ ap (λ (l : List Atom). map (atom_in l) ns) two.0 ∙ atoms_grown old (atom ∷ []) ns all
]

table_grows : (old new : List Atom) (atom : Atom) (n : ℕ) → Numbers old new atom n → length old ≤ length new
table_grows old new atom n h = elim h.table [
  | inl same ↦ omega (arith, ap (λ (l : List Atom). length l) same)
  | inr two ↦ omega (arith, ap (λ (l : List Atom). length l) two.0, length-append old (atom ∷ []))
]

number_within : (old new : List Atom) (atom : Atom) (n : ℕ) → Numbers old new atom n → n < length new
number_within old new atom n h = within new n h.stands
  where
    within : (l : List Atom) (n : ℕ) → slice_get l n ≡ Some atom → n < length l
    within l n e = elim (slice_get_cases l n).1 [
      | inl here ↦ here.1
      | inr past ↦ (let bad : None ≡ Some atom = sym past.1 ∙ e in cc bad)
    ]

-- the numbers of a table that grows stay its numbers
pub numbers_kept : (old new : List Atom) (atom : Atom) (n : ℕ) (ns : List ℕ) → Numbers old new atom n → AreIn old ns → AreIn new ns
numbers_kept old new atom n ns h all = let grows = table_grows old new atom n h in All-weaker (λ k. k < length old) (λ k. k < length new) (λ k l. omega (arith, l, grows)) ns all

-- the numbers with one more
pub numbers_pushed : (old new : List Atom) (atom : Atom) (n : ℕ) (ns : List ℕ) → Numbers old new atom n → AreIn old ns → AreIn new (ns ++ n ∷ [])
numbers_pushed old new atom n ns h all =
    All-push (λ k. k < length new) ns n (numbers_kept old new atom n ns h all) (number_within old new atom n h)

-- and its atom
pub atoms_pushed : (old new : List Atom) (atom : Atom) (n : ℕ) (ns : List ℕ) → Numbers old new atom n → AreIn old ns → map (atom_in new) (ns ++ n ∷ []) ≡ map (atom_in old) ns ++ atom ∷ []
atoms_pushed old new atom n ns h all =
    map-append (atom_in new) ns (n ∷ [])
    ∙ ap (λ (t : Atom). map (atom_in new) ns ++ t ∷ []) (get_or_from_slice_get new n atom no_atom h.stands)
    ∙ ap (λ (ts : List Atom). ts ++ atom ∷ []) (atoms_kept old new atom n ns h all)

-- the atoms of a part of the numbers are that part of the atoms
pub part_atoms : (table : List Atom) (from to : ℕ) (ns : List ℕ) → map (atom_in table) (slice_range ns from to) ≡ slice_range (map (atom_in table) ns) from to
part_atoms table from to ns = sym (ap (λ (ts : List Atom). take (to - from) ts) (drop-map (atom_in table) from ns) ∙ take-map (atom_in table) (to - from) (drop from ns))
