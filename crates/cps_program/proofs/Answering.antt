-- What a command answers to an input that was read, and to one that was refused.
use Rattle.std.specs.Prelude.{Result, Ok, Err, IfOk, length}
use Rattle.std.proofs.Common.{ℕ, ◌≤◌, List}
use Rattle.cps_model.specs.declared.model.CpModel.{CpModel}
use Rattle.cps_print.specs.Models.{model_text}
use Rattle.cps_print.specs.ReadBack.{IsReadAs}
use Rattle.cps_program.specs.declared.answer.Answer.{Answer}
use Rattle.cps_program.specs.declared.input.InputError.{InputError}
use Rattle.cps_program.specs.declared.input.InputError.TheVariants as input_error
use Rattle.cps_program.specs.Inputs.{most_bytes, IsModelText}
use Rattle.cps_program.specs.Reading.{IsMeant, IsInputRefusal}
use Rattle.cps_program.specs.Answers.{IsText, IsFaultText, Prints, AnswersInput}
use Rattle.cps_program.specs.Answers.AnswersInput.{taken, refused}

-- a model that was taken is answered by what is done with it
pub takes : {E : Type 0} (is_input : List ℕ → CpModel → Type 0) (does : CpModel → Answer → Type 0) (bytes : List ℕ) (m : CpModel) (r : Result Answer E)
    → is_input bytes m → IfOk r (does m) → IfOk r (AnswersInput is_input does bytes)
takes is_input does bytes m (Ok answer) input done = taken m input done
takes is_input does bytes m (Err e) input done = tt

-- an input that was refused is answered by its fault
pub refuses : {E : Type 0} (is_input : List ℕ → CpModel → Type 0) (does : CpModel → Answer → Type 0) (bytes : List ℕ) (u : InputError) (r : Result Answer E)
    → IsInputRefusal is_input bytes u → IfOk r (IsFaultText u) → IfOk r (AnswersInput is_input does bytes)
refuses is_input does bytes u (Err e) refusal text = tt
refuses is_input does bytes (input_error.Fault fault) (Ok answer) refusal text = refused fault refusal.0 refusal.1 text
refuses is_input does bytes input_error.OutOfMemory (Ok answer) refusal text = absurd text

-- a model that was read is printed
pub prints : {E : Type 0} (bytes : List ℕ) (m : CpModel) (r : Result Answer E) → length bytes ≤ most_bytes → IsMeant bytes m
    → IfOk r (IsText 0 (model_text m)) → IfOk r (λ (answer : Answer). IsReadAs answer.text m) → IfOk r (AnswersInput IsModelText Prints bytes)
prints bytes m (Ok answer) short meant canonical back =
    taken m (record { short = short; reads = meant.this }) (record { canonical = canonical; back = back })
prints bytes m (Err e) short meant canonical back = tt
