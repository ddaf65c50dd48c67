-- What a run did with its source and its sink.
use Rattle.std.specs.Prelude.{◌≡◌, ◌≢◌, ◌==◌, ◌||◌, ◌⊎◌, ℕ, ◌+◌, ◌≤◌, Bool, IsTrue, List, ◌++◌, drop, Option, Some, None, IfSome}
use Rattle.std.specs.Io.KnownBytes.{Appends}
use Rattle.cps_outer.specs.Transfers.{TakesPrefix}
use Rattle.cps_program.specs.declared.answer.Answer.{Answer}
use Rattle.cps_program.specs.declared.ran.Ran.{Ran}
use Rattle.cps_print.specs.Verdicts.{refused_text}
use Rattle.cps_model.specs.declared.model.CpModel.{CpModel}
use Rattle.cps_print.specs.Responses.{response_text}
use Rattle.cps_log.specs.declared.item.LogItem.{LogItem}
use Rattle.cps_options.specs.declared.options.Options.{Options}
use Rattle.cps_command.specs.declared.command.Command.TheVariants.{Solve}
use Rattle.cps_command.specs.Lines.{CommandLine}
use Rattle.cps_crew.specs.declared.outcome.Outcome.{Outcome}
use Rattle.cps_crew.specs.Logs.{IsLogOfOutcome}
use Rattle.cps_program.specs.Inputs.{most_bytes, IsInput}
use Rattle.cps_program.specs.Answers.{IsAnswerTo, response_of}
use Rattle.cps_program.specs.Logs.{log_lines}
use Rattle.cps_program.specs.Outcomes.{KeepsPromise}
use Rattle.cps_program.specs.Checks.{IsVerified, IsRefusedAtLine}

-- an exit status with which no text is written: a read failed, or memory ran out
abbrev pub is_silent : ℕ → Bool
is_silent exit = exit == 3 || exit == 5

-- an exit status that an answer has
abbrev pub IsAnswerExit : ℕ → Type 0
IsAnswerExit exit = (exit ≤ 2) ⊎ (exit ≡ 6)

-- the bytes are those that were left, where the source tells them
abbrev pub AreBytesLeft : Option (List ℕ) → List ℕ → Type 0
AreBytesLeft None bytes = Unit {0}
AreBytesLeft (Some left) bytes = left ≡ bytes

-- a source was read to its end, or to one byte more than an input may have
abbrev pub IsReadThrough : Option (List ℕ) → Option (List ℕ) → Type 0
IsReadThrough before after = IfSome before (λ bytes. after ≡ Some (drop (most_bytes + 1) bytes))

-- an answer to the bytes that were left, whose text the sink took, or a first part of it where the exit status is 4
pub record GivesOut (words : List (List ℕ)) (left held_before held_after : Option (List ℕ)) (ran : Ran) : Type 0 where
  pub bytes : List ℕ
  pub answer : Answer
  pub input : AreBytesLeft left bytes
  pub right : IsAnswerTo words bytes answer
  pub outcome : ran.outcome ≡ answer.outcome
  pub whole : ran.exit ≢ 4 → (ran.exit ≡ answer.exit) × Appends held_before held_after answer.text
  pub part : ran.exit ≡ 4 → TakesPrefix held_before held_after answer.text

-- the response that was left is verified, and true of its model
abbrev pub LeavesVerified : Option (List ℕ) → Type 0
LeavesVerified left = (bytes : List ℕ) × AreBytesLeft left bytes × IsVerified bytes

-- the response that was left is refused at a line, and the sink took the text that names it
pub record GivesRefusal (left held_before held_after : Option (List ℕ)) : Type 0 where
  pub bytes : List ℕ
  pub line : ℕ
  pub input : AreBytesLeft left bytes
  pub refused : IsRefusedAtLine bytes line
  pub text : Appends held_before held_after (refused_text line)

-- the words are those of `solve` with these options, which ask for a log
pub record IsLogLine (words : List (List ℕ)) (options : Options) : Type 0 where
  pub line : CommandLine words (Solve options)
  pub log : IsTrue options.log

-- the input that was left is the text of a valid model, and the sink took a response that keeps its promise, with the log
-- of its proof
pub record GivesLog (options : Options) (left held_before held_after : Option (List ℕ)) : Type 0 where
  pub bytes : List ℕ
  pub input : AreBytesLeft left bytes
  pub m : CpModel
  pub is : IsInput bytes m
  pub found : Outcome
  pub promise : KeepsPromise m options found
  pub items : List LogItem
  pub log : IsLogOfOutcome m found items
  pub text : Appends held_before held_after (response_text m (response_of found) ++ log_lines items)
