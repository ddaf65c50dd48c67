-- How far lines from the front of bytes are accepted.
use Rattle.std.specs.Prelude.{◌≡◌, ℕ, ◌+◌, IsTrue, List, [], ◌++◌, length, All}
use Rattle.std.specs.List.{flat_map, list_all}
use Rattle.cps_model.specs.declared.model.CpModel.{CpModel}
use Rattle.cps_cert.specs.declared.checking.Stop.{Stop}
use Rattle.cps_cert.specs.declared.checking.Stop.TheVariants as stops
use Rattle.cps_cert.specs.Lines.{Phase, finished, Takes, Leads}
use Rattle.cps_cert.specs.Verdicts.{is_no_feed, fed_line}

-- bytes begin with a line, and these stand behind it
pub record IsNextLine (bytes line after : List ℕ) : Type 0 where
  pub text : bytes ≡ fed_line line ++ after
  pub whole : IsTrue (list_all is_no_feed line)

-- lines from the front of bytes lead from one phase to another; what is behind them begins with the line of a number
pub record Passes (m : CpModel) (from : Phase) (bytes : List ℕ) (first : ℕ) (to : Phase) (rest : List ℕ) (next : ℕ) : Type 0 where
  pub lines : List (List ℕ)
  pub text : bytes ≡ flat_map fed_line lines ++ rest
  pub whole : All (λ line. IsTrue (list_all is_no_feed line)) lines
  pub leads : Leads m from lines to
  pub number : next ≡ first + length lines

-- the first line of the bytes is not accepted, or there is none where one is missing
pub record IsStuck (m : CpModel) (phase : Phase) (bytes : List ℕ) : Type 0 where
  pub refused : (line after : List ℕ) (next : Phase) → IsNextLine bytes line after → ¬ Takes m phase line next
  pub missing : phase ≡ finished → ¬ (bytes ≡ [])

-- the first line that is not accepted, or is missing, has this number
pub record StopsAt (m : CpModel) (from : Phase) (bytes : List ℕ) (first number : ℕ) : Type 0 where
  pub phase : Phase
  pub rest : List ℕ
  pub passes : Passes m from bytes first phase rest number
  pub stuck : IsStuck m phase rest

-- why a reading stops
abbrev pub IsStop : CpModel → Phase → List ℕ → ℕ → Stop → Type 0
IsStop m from bytes first (stops.Refused number) = StopsAt m from bytes first number
IsStop m from bytes first stops.OutOfMemory = Unit {0}
