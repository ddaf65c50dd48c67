-- What `check` says of an input: a verified response is true of its model, and one that is not verified is refused.
use Rattle.std.specs.Prelude.{◌≡◌, ℕ, ◌+◌, ◌≤◌, List, length}
use Rattle.cps_model.specs.declared.model.CpModel.{CpModel}
use Rattle.cps_cert.specs.Parts.{IsSplit}
use Rattle.cps_cert.specs.Verdicts.{Accepts, RefusesAfter, BeginsWithTrueResponse}
use Rattle.cps_command.specs.declared.command.Command.TheVariants.{Check}
use Rattle.cps_command.specs.Lines.{CommandLine}
use Rattle.cps_program.specs.Inputs.{most_bytes, IsInput}

-- the words are those of `check`
abbrev pub IsCheckLine : List (List ℕ) → Type 0
IsCheckLine words = CommandLine words Check

-- the input is the text of this valid model and this response, whose first line has this number
pub record HasResponse (bytes : List ℕ) (m : CpModel) (response : List ℕ) (first_line : ℕ) : Type 0 where
  pub model : List ℕ
  pub short : length bytes ≤ most_bytes
  pub split : IsSplit bytes model response first_line
  pub input : IsInput model m

-- the input is the text of a valid model, with whatever response
pub record HasValidModel (bytes : List ℕ) : Type 0 where
  pub m : CpModel
  pub response : List ℕ
  pub first_line : ℕ
  pub has : HasResponse bytes m response first_line

-- the response is accepted with its log, and so it is true of the model
pub record IsVerified (bytes : List ℕ) : Type 0 where
  pub m : CpModel
  pub response : List ℕ
  pub first_line : ℕ
  pub has : HasResponse bytes m response first_line
  pub accepted : Accepts m response
  pub holds : BeginsWithTrueResponse m response

-- the line with this number, counted from 1 over the whole input, is the first that is refused, or that is missing
pub record IsRefusedAtLine (bytes : List ℕ) (line : ℕ) : Type 0 where
  pub m : CpModel
  pub response : List ℕ
  pub first_line : ℕ
  pub has : HasResponse bytes m response first_line
  pub count : ℕ
  pub is : line ≡ first_line + count
  pub refused : RefusesAfter m response count
