-- What a base forgets.
use Rattle.std.specs.Prelude.{ℕ, Bool, ◌+◌, ◌<◌, ◌≤◌, ◌≡◌, ◌⊎◌, List, [], ◌++◌, map, length, AllPairs}
use Rattle.std.specs.List.{All, Contains}
use Rattle.cps_literal.specs.declared.atom.Atom.{Atom}
use Rattle.cps_trail.specs.Trail.{Trail}
use Rattle.cps_trail.specs.Notes.{NamesClause}
use Rattle.cps_clauses.specs.InForce.{IsNumberInForce, marked, emptied}
use Rattle.cps_clauses.specs.Journals.{standing_in, count_standing, drops}
use Rattle.cps_clauses.specs.Watches.{clause_of}
use Rattle.cps_clauses.specs.Bases.{Base, number_at}

-- how many of a base's learnt clauses are in force
abbrev pub learnt_in_force : Base → ℕ
learnt_in_force b = count_standing (standing_in b.journal)

-- a learnt clause, by its place among the learnt ones
abbrev pub learnt_clause : List (List Atom) → List ℕ → ℕ → List Atom
learnt_clause clauses learnt n = clause_of clauses (number_at learnt n)

-- the note of an entry of a store names the clause with a number
pub record IsNamed (s : Trail) (number : ℕ) : Type 0 where
  pub entry : ℕ
  pub within : entry < length s.entries
  pub names : NamesClause s entry number

-- A learnt clause may be dropped: it is in force, and no note of the store names it. It is meant by its place among the
-- learnt ones.
pub record MayGo (clauses : List (List Atom)) (dropped : List Bool) (learnt : List ℕ) (s : Trail) (n : ℕ) : Type 0 where
  pub within : n < length learnt
  pub held : IsNumberInForce clauses dropped (number_at learnt n)
  pub unnamed : IsNamed s (number_at learnt n) → ⊥

-- of two learnt clauses the first goes before the second: it is longer, or as long and older
abbrev pub GoesFirst : List (List Atom) → List ℕ → ℕ → ℕ → Type 0
GoesFirst clauses learnt n m =
    (length (learnt_clause clauses learnt m) < length (learnt_clause clauses learnt n))
    ⊎ ((length (learnt_clause clauses learnt m) ≡ length (learnt_clause clauses learnt n)) × (n < m))

-- these are the learnt clauses that may go, in the order in which they go
pub record GoInOrder (clauses : List (List Atom)) (dropped : List Bool) (learnt : List ℕ) (s : Trail) (order : List ℕ) : Type 0 where
  pub may_go : All (MayGo clauses dropped learnt s) order
  pub all : (n : ℕ) → MayGo clauses dropped learnt s n → Contains order n
  pub in_turn : AllPairs (GoesFirst clauses learnt) order

-- a base after these learnt clauses were dropped, in this order: they have no atoms any more, and the journal says so
abbrev pub without : Base → List ℕ → Base
without b which = record b {
  clauses = emptied b.clauses (map (number_at b.learnt) which);
  dropped = marked b.dropped (map (number_at b.learnt) which);
  journal = b.journal ++ drops which;
}

-- Learnt clauses go, the longest first and of equally long ones the oldest, but for those that a note names, until
-- `keep` are left or none can go.
pub record Forgets (b : Base) (s : Trail) (keep : ℕ) (which : List ℕ) : Type 0 where
  pub could_go : All (MayGo b.clauses b.dropped b.learnt s) which
  pub in_turn : AllPairs (GoesFirst b.clauses b.learnt) which
  pub before_others : (n m : ℕ) → Contains which n → MayGo b.clauses b.dropped b.learnt s m → (Contains which m → ⊥)
      → GoesFirst b.clauses b.learnt n m
  pub no_more : keep + length which ≤ learnt_in_force b ⊎ (which ≡ [])
  pub no_fewer : learnt_in_force b ≤ keep + length which
      ⊎ ((n : ℕ) → MayGo b.clauses b.dropped b.learnt s n → Contains which n)

-- so many learnt clauses were dropped, and the base is as it was without them
pub record HasForgotten (b c : Base) (s : Trail) (keep count : ℕ) : Type 0 where
  pub which : List ℕ
  pub forgets : Forgets b s keep which
  pub is : c ≡ without b which
  pub count_is : count ≡ length which
