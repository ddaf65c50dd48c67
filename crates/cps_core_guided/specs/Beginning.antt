-- How a core-guided search begins.
use Rattle.std.specs.Prelude.{◌≡◌, ◌⊎◌, ℕ, ℤ, ◌+◌, ◌≤◌, pos, negsuc, None, false, List, [], ◌∷◌, ◌++◌, length, All}
use Rattle.cps_instance.specs.Sums.{DefinedSum}
use Rattle.cps_search.specs.Growing.{GrewBy}
use Rattle.cps_search.specs.Moves.{fresh}
use Rattle.cps_search.specs.Searches.{Search}
use Rattle.cps_reform.specs.Forms.{Form}
use Rattle.cps_core_guided.specs.Reforming.{CoreSearch}

-- the sum that is the opposite of a subject
abbrev pub opposite : ℕ → DefinedSum
opposite subject = record { terms = record { coeff = negsuc 0; subject = subject } ∷ []; offset = pos 0 }

-- a sum is the opposite of some subject
abbrev pub IsOpposite : DefinedSum → Type 0
IsOpposite sum = (subject : ℕ) × (sum ≡ opposite subject)

-- a search stayed as it was, or has the opposite of a subject as one more
abbrev pub MayHaveOpposite : ℕ → Search → Search → ℕ → Type 0
MayHaveOpposite of s t subject = (t ≡ s) ⊎ GrewBy s t (opposite of) subject

-- a search that knows nothing yet gained at most so many sums, each of which is the opposite of a subject
pub record OnlyGrew (s t : Search) (most : ℕ) : Type 0 where
  pub model : t.instance.model ≡ s.instance.model
  pub opposites : List DefinedSum
  pub are_opposites : All IsOpposite opposites
  pub defines : t.instance.defs ≡ s.instance.defs ++ opposites
  pub steering : t.instance.steering ≡ s.instance.steering
  pub longer : length s.instance.domains ≤ length t.instance.domains
  pub few : length t.instance.domains ≤ length s.instance.domains + most
  pub is_fresh : s ≡ fresh s.instance s.gap s.budget → t ≡ fresh t.instance s.gap s.budget

-- a core-guided search that has raised nothing yet: the search, its form, and what the objective is at most
abbrev pub beginning : Search → Form → ℤ → CoreSearch
beginning t f greatest = record { search = t; form = f; sums = 0; greatest = greatest; raised = None; ended = false; core = [] }
