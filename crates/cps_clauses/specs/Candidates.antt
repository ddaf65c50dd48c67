-- What is weighed of the clauses that may go.
use Rattle.std.specs.Prelude.{ℕ, Bool, ◌+◌, ◌-◌, ◌^◌, ◌<◌, ◌≡◌, ◌⊎◌, List, map, length, AllPairs}
use Rattle.std.specs.List.{All, Contains}
use Rattle.std.specs.List.Sorted.{IsPermutation}
use Rattle.cps_literal.specs.declared.atom.Atom.{Atom}
use Rattle.cps_trail.specs.Trail.{Trail}
use Rattle.cps_clauses.specs.declared.forget.Candidate.{Candidate}
use Rattle.cps_clauses.specs.Forgets.{MayGo, learnt_clause}

-- a learnt clause that may go; the fewer atoms it has the greater is its rank
pub record IsCandidate (clauses : List (List Atom)) (dropped : List Bool) (learnt : List ℕ) (s : Trail) (c : Candidate) : Type 0 where
  pub may_go : MayGo clauses dropped learnt s c.place
  pub rank_is : c.rank + length (learnt_clause clauses learnt c.place) ≡ 2 ^ 64 - 1

-- all that may go, the oldest first
pub record AreCandidates (clauses : List (List Atom)) (dropped : List Bool) (learnt : List ℕ) (s : Trail) (found : List Candidate) : Type 0 where
  pub sound : All (IsCandidate clauses dropped learnt s) found
  pub all : (n : ℕ) → MayGo clauses dropped learnt s n → Contains (map (λ c. c.place) found) n
  pub rising : AllPairs (λ c d. c.place < d.place) found

-- of two candidates the first goes first
abbrev pub GoesBefore : Candidate → Candidate → Type 0
GoesBefore c d = (c.rank < d.rank) ⊎ ((c.rank ≡ d.rank) × (c.place < d.place))

-- the same candidates, in the order in which they go
pub record AreSortedCandidates (old new : List Candidate) : Type 0 where
  pub moved : IsPermutation old new
  pub in_turn : AllPairs GoesBefore new
