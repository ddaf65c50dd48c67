-- What a run of `solve --log` gives out.
use Rattle.std.specs.Prelude.{Option, Some, None, IfSome, is_some, IsTrue}
use Rattle.std.specs.Io.KnownBytes.{Appends}
use Rattle.std.proofs.Common.{◌≡◌, ℕ, List, ◌++◌, arith, refl, sym, ◌∙◌, ap, subst}
use Rattle.cps_log.specs.declared.item.LogItem.{LogItem}
use Rattle.cps_options.specs.declared.options.Options.{Options}
use Rattle.cps_command.specs.declared.command.Command.TheVariants.{Solve}
use Rattle.cps_command.specs.declared.command.Command.{Command}
use Rattle.cps_command.proofs.Given.{one_command}
use Rattle.cps_print.specs.Responses.{response_text}
use Rattle.cps_crew.specs.Logs.{log_of, IsLogOfOutcome}
use Rattle.cps_program.specs.declared.answer.Answer.{Answer}
use Rattle.cps_program.specs.Inputs.{IsInput}
use Rattle.cps_program.specs.Logs.{log_section}
use Rattle.cps_program.specs.Answers.{Solves, AnswersInput, Does, IsAnswerTo, response_of}
use Rattle.cps_program.specs.Answers.AnswersInput.{taken, refused}
use Rattle.cps_program.specs.Answers.IsAnswerTo.{usage, command}
use Rattle.cps_program.specs.Runs.{AreBytesLeft, IsLogLine, GivesLog}
use Rattle.cps_program.proofs.Given.{Given}
use Rattle.cps_program.proofs.Verdicts.{IsWhole}

-- a log that was kept, with what is said of it
kept_log : (log : Option (List LogItem)) (asked : IsTrue (is_some log)) (P : List LogItem → Type 0) → IfSome log P
    → (items : List LogItem) × (log ≡ Some items) × P items
kept_log None asked P h = absurd cc
kept_log (Some items) asked P h = (items, refl, h)

-- the answer to words of `solve`
solve_does : (words : List (List ℕ)) (options : Options) (bytes : List ℕ) (answer : Answer) → IsLogLine words options → IsAnswerTo words bytes answer
    → AnswersInput IsInput (Solves options) bytes answer
solve_does words options bytes answer line (usage fault text) = absurd (fault (Solve options) line.line)
solve_does words options bytes answer line (command c other does) =
    subst (λ (d : Command). Does d bytes answer) (one_command words c (Solve options) other line.line) does

gives_solved : (options : Options) (left before after : Option (List ℕ)) (bytes : List ℕ) (answer : Answer) → IsTrue options.log → AreBytesLeft left bytes
    → Appends before after answer.text → answer.exit ≡ 0 → AnswersInput IsInput (Solves options) bytes answer → GivesLog options left before after
gives_solved options left before after bytes answer log same out zero (refused fault has nothing text) = absurd (let e = text.exit in omega arith)
gives_solved options left before after bytes answer log same out zero (taken m input solves) =
    let kept = kept_log (log_of solves.found.ends) (solves.good.logged ∙ log) (IsLogOfOutcome m solves.found) solves.good.log in
    record {
      bytes = bytes;
      input = same;
      m = m;
      is = input;
      found = solves.found;
      promise = solves.promise;
      items = kept.0;
      log = kept.2;
      text = subst (λ (t : List ℕ). Appends before after t)
          (solves.text ∙ ap (λ (o : Option (List LogItem)). response_text m (response_of solves.found) ++ log_section o) kept.1) out;
    }

pub gives_log : (words : List (List ℕ)) (left before after : Option (List ℕ)) (exit : ℕ) (answer : Answer) → Given words left answer → IsWhole before after exit answer
    → (options : Options) → IsLogLine words options → exit ≡ 0 → GivesLog options left before after
gives_log words left before after exit answer given whole options line zero =
    let out = whole (λ four. omega arith) in
    gives_solved options left before after given.0 answer line.log given.1 out.1 (sym out.0 ∙ zero) (solve_does words options given.0 answer line given.2)
