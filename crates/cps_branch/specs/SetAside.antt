-- Variables that a brancher sets aside, since they are fixed.
use Rattle.std.specs.Prelude.{ℕ, ◌+◌, ◌-◌, ◌*◌, ◌^◌, ◌<◌, ◌≤◌, ◌≡◌, true, false, List, length, take, slice_index_or}
use Rattle.cps_trail.specs.Trail.{Trail}
use Rattle.cps_branch.specs.declared.tournament.Contender.{Contender}
use Rattle.cps_branch.specs.declared.ranking.Aside.{Aside}
use Rattle.cps_branch.specs.declared.ranking.Ranking.{Ranking}
use Rattle.cps_branch.specs.Fixed.{IsFixedAfter, IsFixed}
use Rattle.cps_branch.specs.Choice.{IsMostActive}
use Rattle.cps_branch.specs.Tournament.{AreWon, HaveActivities, IsAheadOf, count_out, stands_at}

-- which variable was set aside at a place, and after how many entries it was fixed
abbrev pub aside_at : List Aside → ℕ → Aside
aside_at aside p = slice_index_or aside p (record { variable = 0; after = 0 })

-- Where the first `kept` entries are those of the store that was seen last, what was seen then is so: after the count
-- at a variable, it and those that were set aside before it are fixed.
abbrev pub AreFixedAside : ℕ → List Aside → Trail → ℕ → Type 0
AreFixedAside n aside s kept =
    0 < kept → (i j : ℕ) → i < length aside → (aside_at aside i).after ≤ kept → j ≤ i → (aside_at aside j).variable < n
    → IsFixedAfter s.first (take (aside_at aside i).after s.entries) (aside_at aside j).variable

-- the first ones stay aside, of which the last was fixed after at most `kept` entries; none where `kept` is 0
pub record PutsBack (kept : ℕ) (old new : List Aside) : Type 0 where
  pub front : new ≡ take (length new) old
  pub some_kept : 0 < length new → 0 < kept
  pub last : 0 < length new → (aside_at new (length new - 1)).after ≤ kept

-- variables that are fixed were set aside beside those that were
pub record SetsAside (s : Trail) (old new : List Aside) : Type 0 where
  pub more : length old ≤ length new
  pub kept : (p : ℕ) → p < length old → aside_at new p ≡ aside_at old p
  pub after : (p : ℕ) → length old ≤ p → p < length new → (aside_at new p).after ≡ length s.entries
  pub fixed : (p : ℕ) → length old ≤ p → p < length new → IsFixed s (aside_at new p).variable

-- each variable that is aside is fixed
abbrev pub AreAllFixed : Trail → List Aside → Type 0
AreAllFixed s aside = (p : ℕ) → p < length aside → IsFixed s (aside_at aside p).variable

-- a variable is aside
abbrev pub IsAside : List Aside → ℕ → Type 0
IsAside aside i = (p : ℕ) × (p < length aside) × ((aside_at aside p).variable ≡ i)

-- A tournament of n variables, of which those that are aside are out of play.
pub record IsTournament (n : ℕ) (nodes : List Contender) (aside : List Aside) : Type 0 where
  pub size : length nodes ≡ 2 * n
  pub variables : (i : ℕ) → i < n → (stands_at nodes (n + i)).variable ≡ i
  pub won : AreWon n nodes
  pub out : (i : ℕ) → i < n → (stands_at nodes (n + i)).in_play ≡ false → IsAside aside i
  pub names : (p : ℕ) → p < length aside → (aside_at aside p).variable < n
  pub room : length aside ≤ count_out n nodes

-- the variables that are aside, in the order in which they went
abbrev pub aside_of : Ranking → List Aside
aside_of r = take r.out r.aside.items

-- of how many variables a ranking is
abbrev pub size_of : Ranking → ℕ
size_of r = length r.aside.items

-- a ranking is a tournament of its variables, without those that are aside
pub record IsRanking (r : Ranking) : Type 0 where
  pub few : size_of r ≤ 2 ^ 31
  pub within : r.out ≤ size_of r
  pub tournament : IsTournament (size_of r) r.nodes.items (aside_of r)

-- the variables that are aside are the same
pub record SameAside (old new : Ranking) : Type 0 where
  pub aside : new.aside.items ≡ old.aside.items
  pub out : new.out ≡ old.out

-- the activities are the same
abbrev pub SameActivities : ℕ → Ranking → Ranking → Type 0
SameActivities n old new = (i : ℕ) → i < n
    → (stands_at new.nodes.items (n + i)).activity ≡ (stands_at old.nodes.items (n + i)).activity

-- of n variables this one is in play, and ahead of each
pub record LeadsInPlay (n : ℕ) (nodes : List Contender) (variable : ℕ) : Type 0 where
  pub within : variable < n
  pub plays : (stands_at nodes (n + variable)).in_play ≡ true
  pub ahead : (i : ℕ) → i < n → IsAheadOf (stands_at nodes (n + variable)) (stands_at nodes (n + i))

-- no variable is in play
abbrev pub NonePlays : ℕ → List Contender → Type 0
NonePlays n nodes = (i : ℕ) → i < n → (stands_at nodes (n + i)).in_play ≡ false

-- of the n variables that are not fixed this one is the most active, whatever activities they have in the ranking
abbrev pub IsMostActiveIn : ℕ → Ranking → Trail → ℕ → Type 0
IsMostActiveIn n r s variable = (activities : List ℕ) → length activities ≡ n → HaveActivities activities r.nodes.items
    → IsMostActive activities s variable
