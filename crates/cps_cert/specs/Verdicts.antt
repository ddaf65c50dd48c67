-- When a response with its log is accepted, and which line is refused first.
use Rattle.std.specs.Prelude.{◌≡◌, ◌⊎◌, ℕ, ◌≤◌, ◌==◌, not, Bool, ℤ, IsTrue, List, [], ◌∷◌, ◌++◌, length, take, codes, All, Contains, Some, slice_get}
use Rattle.std.specs.List.{flat_map, list_all}
use Rattle.cps_model.specs.declared.model.CpModel.{CpModel}
use Rattle.cps_model.specs.declared.bound.Bound.TheVariants.{At}
use Rattle.cps_model.specs.declared.status.Status.TheVariants.{Optimal, Infeasible}
use Rattle.cps_model.specs.Values.{literals_hold}
use Rattle.cps_model.specs.Solutions.{objective_value, IsFree, IsBest}
use Rattle.cps_print.specs.declared.response.Response.{Response}
use Rattle.cps_print.specs.Responses.{response_text}
use Rattle.cps_cert.specs.Lines.{Phase, at_status, finished, Takes, Leads}

abbrev pub is_no_feed : ℕ → Bool
is_no_feed b = not (b == 10)

-- a line with its line feed
abbrev pub fed_line : List ℕ → List ℕ
fed_line line = line ++ 10 ∷ []

-- bytes are these lines, each ended by a line feed, and a rest without one
pub record AreLines (bytes : List ℕ) (lines : List (List ℕ)) (rest : List ℕ) : Type 0 where
  pub text : bytes ≡ flat_map fed_line lines ++ rest
  pub whole : All (λ line. IsTrue (list_all is_no_feed line)) lines
  pub unfed : IsTrue (list_all is_no_feed rest)

-- every line is accepted, and the last is `%end`
pub record Accepts (m : CpModel) (bytes : List ℕ) : Type 0 where
  pub lines : List (List ℕ)
  pub split : AreLines bytes lines []
  pub leads : Leads m at_status lines finished

-- The first so many lines are accepted. The next is not, or there is none where one is missing; bytes without a line
-- feed are no line.
pub record RefusesAfter (m : CpModel) (bytes : List ℕ) (count : ℕ) : Type 0 where
  pub lines : List (List ℕ)
  pub rest : List ℕ
  pub split : AreLines bytes lines rest
  pub within : count ≤ length lines
  pub phase : Phase
  pub leads : Leads m at_status (take count lines) phase
  pub refused : (line : List ℕ) (next : Phase) → slice_get lines count ≡ Some line → ¬ Takes m phase line next
  pub missing : count ≡ length lines → phase ≡ finished → ¬ (rest ≡ [])

-- ---- what an accepted log shows

-- an optimal response has a solution that no solution beats, and its objective as the bound
pub record IsTrueOptimal (m : CpModel) (r : Response) : Type 0 where
  pub status : r.status ≡ Optimal
  pub solution : List ℤ
  pub is : r.solution ≡ Some solution
  pub lower : r.lower ≡ At (objective_value m solution)
  pub best : IsBest m 0 solution

-- an infeasible response lists assumptions of the model, and no free assignment makes all of them true
pub record IsTrueInfeasible (m : CpModel) (r : Response) : Type 0 where
  pub status : r.status ≡ Infeasible
  pub assumed : All (Contains m.assumptions) r.core
  pub none : (a : List ℤ) → IsFree m a → IsTrue (literals_hold a r.core) → ⊥

-- bytes are the text of a response that is true of the model, the line `%log`, and more
pub record BeginsWithTrueResponse (m : CpModel) (bytes : List ℕ) : Type 0 where
  pub response : Response
  pub more : List ℕ
  pub begins : bytes ≡ response_text m response ++ (fed_line (codes "%log") ++ more)
  pub holds : IsTrueOptimal m response ⊎ IsTrueInfeasible m response
