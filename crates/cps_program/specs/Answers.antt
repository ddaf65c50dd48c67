-- What the program answers to a command line and an input: an exit status, an outcome and a text.
use Rattle.std.specs.Prelude.{◌≡◌, ℕ, ◌+◌, ◌<◌, ◌≤◌, List, [], ◌∷◌, ◌++◌, length, codes, true, false, IsTrue, Some, None}
use Rattle.cps_model.specs.declared.model.CpModel.{CpModel}
use Rattle.cps_print.specs.declared.fault.Fault.{Fault}
use Rattle.cps_print.specs.declared.fault.Fault.TheVariants.{TooLong}
use Rattle.cps_print.specs.declared.response.Response.{Response}
use Rattle.cps_print.specs.Faults.{fault_text}
use Rattle.cps_print.specs.Demonstrations.{demo_text}
use Rattle.cps_print.specs.Models.{model_text}
use Rattle.cps_print.specs.ReadBack.{IsReadAs}
use Rattle.cps_print.specs.Responses.{response_text}
use Rattle.cps_print.specs.Verdicts.{verified_text, refused_text}
use Rattle.cps_cert.specs.Parts.{IsSplit}
use Rattle.cps_cert.specs.Verdicts.{Accepts, RefusesAfter}
use Rattle.cps_program.specs.declared.answer.Answer.{Answer}
use Rattle.cps_program.specs.declared.input.InputError.{InputError}
use Rattle.cps_program.specs.declared.input.InputError.TheVariants as input_error
use Rattle.cps_command.specs.declared.command.Command.{Command}
use Rattle.cps_command.specs.declared.command.Command.TheVariants.{Solve, Validate, Print, Gen, Demo, Check}
use Rattle.cps_options.specs.declared.options.Options.{Options}
use Rattle.cps_options.specs.Ranges.{AreInRange}
use Rattle.cps_command.specs.declared.recipe.Recipe.{Recipe}
use Rattle.cps_command.specs.Lines.{CommandLine, IsUsageFault}
use Rattle.cps_gen.specs.Families.{is_in_range}
use Rattle.cps_gen.specs.Generated.{generated}
use Rattle.cps_model.specs.Validity.{IsValid}
use Rattle.cps_crew.specs.declared.outcome.Outcome.{Outcome}
use Rattle.cps_crew.specs.Logs.{log_of}
use Rattle.cps_crew.specs.Outcomes.{IsGoodOutcome}
use Rattle.cps_portfolio.specs.Workers.{IsDrawnRun}
use Rattle.cps_program.specs.Inputs.{most_bytes, HasFault, HasNo, IsInput, IsModelText}
use Rattle.cps_program.specs.Logs.{log_section}
use Rattle.cps_program.specs.Outcomes.{KeepsPromise}

abbrev pub usage_text : List ℕ
usage_text = codes "usage: cpsolve solve|validate|print|gen|demo|check" ++ 10 ∷ []

abbrev pub valid_text : List ℕ
valid_text = codes "valid" ++ 10 ∷ []

-- a text with no outcome
pub record IsText (status : ℕ) (bytes : List ℕ) (answer : Answer) : Type 0 where
  pub exit : answer.exit ≡ status
  pub outcome : answer.outcome ≡ None
  pub text : answer.text ≡ bytes

-- what is written of an outcome
abbrev pub response_of : Outcome → Response
response_of o = record { status = o.status; solution = o.solution; lower = o.lower; core = o.core }

-- `solve` of a valid model: the response of an outcome that is good for the options, with the log of its proof where one
-- is asked for; and where the workers take turns the outcome is that of the turns that the seed draws
pub record Solves (options : Options) (m : CpModel) (answer : Answer) : Type 0 where
  pub found : Outcome
  pub exit : answer.exit ≡ 0
  pub outcome : answer.outcome ≡ Some found
  pub text : answer.text ≡ response_text m (response_of found) ++ log_section (log_of found.ends)
  pub good : IsGoodOutcome m options found
  pub promise : KeepsPromise m options found
  pub drawn : IsTrue options.interleave → IsDrawnRun m options 4096 found.ends

-- `validate` of a valid model: that it is valid
abbrev pub Validates : CpModel → Answer → Type 0
Validates m answer = IsText 0 valid_text answer

-- `print` of a model: its canonical text, which is read as the model again
pub record Prints (m : CpModel) (answer : Answer) : Type 0 where
  pub canonical : IsText 0 (model_text m) answer
  pub back : IsReadAs answer.text m

-- the model that is generated
abbrev pub model_of : Recipe → CpModel
model_of r = generated r.family r.size r.seed

-- the options of a demonstration: those of `solve` where nothing is said, but that the workers take turns that the seed
-- draws
abbrev pub demo_options : ℕ → Options
demo_options seed =
    record { workers = 4; conflicts = 10000; seed = seed; interleave = true; gap = 0; log = false }

-- `gen`: the canonical text of the model, which is valid
pub record Generates (r : Recipe) (answer : Answer) : Type 0 where
  pub valid : IsValid (model_of r)
  pub canonical : IsText 0 (model_text (model_of r)) answer

-- `demo`: the four lines of an outcome that is good for the model, which is valid, and is that of the turns that the
-- seed draws
pub record Demonstrates (r : Recipe) (answer : Answer) : Type 0 where
  pub found : Outcome
  pub exit : answer.exit ≡ 0
  pub outcome : answer.outcome ≡ Some found
  pub text : answer.text ≡ demo_text (model_of r) found.status found.solution
  pub valid : IsValid (model_of r)
  pub good : IsGoodOutcome (model_of r) (demo_options r.seed) found
  pub promise : KeepsPromise (model_of r) (demo_options r.seed) found
  pub drawn : IsDrawnRun (model_of r) (demo_options r.seed) 4096 found.ends

-- the text for an input that is refused; running out of memory has none
abbrev pub IsFaultText : InputError → Answer → Type 0
IsFaultText (input_error.Fault fault) answer = IsText 1 (fault_text fault) answer
IsFaultText input_error.OutOfMemory answer = ⊥

-- a command that reads a model: what it does with the one that the input is the text of, and else why there is none
pub data AnswersInput (is_input : List ℕ → CpModel → Type 0) (does : CpModel → Answer → Type 0) (bytes : List ℕ)
    (answer : Answer) : Type 0 where
  taken : (m : CpModel) → is_input bytes m → does m answer → AnswersInput is_input does bytes answer
  refused : (fault : Fault) → HasFault bytes fault → HasNo is_input bytes → IsText 1 (fault_text fault) answer
      → AnswersInput is_input does bytes answer

-- `check` of a response with its log to a valid model, the response's first line having this number in the input:
-- verified where each line is accepted, and else the number of the first line that is refused, or that is missing
pub data Checks (response : List ℕ) (first_line : ℕ) (m : CpModel) (answer : Answer) : Type 0 where
  verified : Accepts m response → IsText 0 verified_text answer → Checks response first_line m answer
  unverified : (count : ℕ) → RefusesAfter m response count → IsText 6 (refused_text (first_line + count)) answer
      → Checks response first_line m answer

-- `check` of an input: what it does with the model and the response that the input has, and else why it has no model.
-- The whole input counts for its length, and the text of the model alone for every other fault.
pub data ChecksInput (bytes : List ℕ) (answer : Answer) : Type 0 where
  parts : (model response : List ℕ) (first_line : ℕ) → length bytes ≤ most_bytes
      → IsSplit bytes model response first_line → AnswersInput IsInput (Checks response first_line) model answer
      → ChecksInput bytes answer
  too_long : most_bytes < length bytes → IsText 1 (fault_text TooLong) answer → ChecksInput bytes answer

-- What each command does. A valid model is solved, or said to be valid, or a response to it is checked; `print` takes
-- every model, so no broken rule makes it refuse one. `gen` and `demo` look at no input.
abbrev pub Does : Command → List ℕ → Answer → Type 0
Does (Solve options) bytes answer = AnswersInput IsInput (Solves options) bytes answer
Does Validate bytes answer = AnswersInput IsInput Validates bytes answer
Does Print bytes answer = AnswersInput IsModelText Prints bytes answer
Does (Gen r) bytes answer = Generates r answer
Does (Demo r) bytes answer = Demonstrates r answer
Does Check bytes answer = ChecksInput bytes answer

-- a command whose options are in their ranges, or whose model is of a size that its family has
abbrev pub IsCommandInRange : Command → Type 0
IsCommandInRange (Solve options) = AreInRange options
IsCommandInRange Validate = Unit {0}
IsCommandInRange Print = Unit {0}
IsCommandInRange (Gen r) = IsTrue (is_in_range r.family r.size)
IsCommandInRange (Demo r) = IsTrue (is_in_range r.family r.size)
IsCommandInRange Check = Unit {0}

-- the usage line for words that have no command, and else what their command does
pub data IsAnswerTo (words : List (List ℕ)) (bytes : List ℕ) (answer : Answer) : Type 0 where
  usage : IsUsageFault words → IsText 2 usage_text answer → IsAnswerTo words bytes answer
  command : (c : Command) → CommandLine words c → Does c bytes answer → IsAnswerTo words bytes answer
