-- What an answer to `check` is, and which answers have which exit status.
use Rattle.std.specs.Prelude.{Result, Ok, Err, IfOk, Option, Some, None, IsSomeAnd, length}
use Rattle.std.specs.Io.KnownBytes.{Appends}
use Rattle.std.proofs.Common.{◌≡◌, ◌≢◌, ℕ, ◌+◌, ◌<◌, ◌≤◌, ◌⊎◌, inl, inr, List, ◌++◌, take, arith, refl, sym, ◌∙◌, ap, subst}
use Rattle.std.proofs.lemmas.List.{length-append}
use Rattle.std.proofs.Math.Seq.{take-append_seam}
use Rattle.cps_model.specs.declared.model.CpModel.{CpModel}
use Rattle.cps_print.specs.Verdicts.{refused_text}
use Rattle.cps_cert.specs.Parts.{IsModelPart, IsSplit}
use Rattle.cps_cert.specs.Verdicts.{RefusesAfter}
use Rattle.cps_cert.proofs.Responses.{accepted_true}
use Rattle.cps_command.specs.declared.command.Command.{Command}
use Rattle.cps_command.specs.declared.command.Command.TheVariants.{Solve, Validate, Print, Gen, Demo, Check}
use Rattle.cps_command.specs.Lines.{CommandLine}
use Rattle.cps_command.proofs.Given.{one_command}
use Rattle.cps_program.specs.declared.answer.Answer.{Answer}
use Rattle.cps_program.specs.Inputs.{most_bytes, IsModelText, IsInput}
use Rattle.cps_program.specs.Answers.{IsText, Solves, Validates, Prints, Checks, ChecksInput, AnswersInput, Does, IsAnswerTo}
use Rattle.cps_program.specs.Answers.Checks.{verified, unverified}
use Rattle.cps_program.specs.Answers.ChecksInput.{parts, too_long}
use Rattle.cps_program.specs.Answers.AnswersInput.{taken, refused}
use Rattle.cps_program.specs.Answers.IsAnswerTo.{usage, command}
use Rattle.cps_program.specs.Checks.{IsCheckLine, HasValidModel, IsVerified, IsRefusedAtLine}
use Rattle.cps_program.specs.Runs.{IsAnswerExit, AreBytesLeft, LeavesVerified, GivesRefusal}
use Rattle.cps_program.proofs.Given.{Given}

-- ---- the answer

-- a response is refused at the line that the verdict names
pub refuses_at : (response : List ℕ) (first_line line : ℕ) (m : CpModel) (answer : Answer) → (count : ℕ) × (line ≡ first_line + count) × RefusesAfter m response count
    → IsText 6 (refused_text line) answer → Checks response first_line m answer
refuses_at response first_line line m answer at text =
    unverified at.0 at.2 (subst (λ (n : ℕ). IsText 6 (refused_text n) answer) at.1 text)

-- the answer to a model's text and a response is the one to the input that they are parts of
pub checks : {E : Type 0} (bytes model response : List ℕ) (first_line : ℕ) (r : Result Answer E) → length bytes ≤ most_bytes → IsSplit bytes model response first_line
    → IfOk r (AnswersInput IsInput (Checks response first_line) model) → IfOk r (ChecksInput bytes)
checks bytes model response first_line (Ok answer) short split done = parts model response first_line short split done
checks bytes model response first_line (Err e) short split done = tt

-- ---- one text of a model

no_earlier : (bytes : List ℕ) (i j : ℕ) → IsModelPart bytes i → IsModelPart bytes j → j ≤ length bytes → i < j → ⊥
no_earlier bytes i j p q most less =
    elim p.here [
      | inl mark ↦ q.before i less mark.0 mark.1
      | inr end ↦ absurd (omega arith)
    ]

-- the text of a model is a first part of the input
pub first_part : (bytes model more : List ℕ) → bytes ≡ model ++ more → (length model ≤ length bytes) × (take (length model) bytes ≡ model)
first_part bytes model more whole = rw whole ((let e = length-append model more in omega arith), take-append_seam model more)

-- an input has one text of a model
one_text : (bytes p q r s : List ℕ) (i j : ℕ) → IsSplit bytes p r i → IsSplit bytes q s j → p ≡ q
one_text bytes p q r s i j h k =
    let here = first_part bytes p (h.mark ++ r) h.whole in
    let there = first_part bytes q (k.mark ++ s) k.whole in
    let more = no_earlier bytes (length p) (length q) h.part k.part there.0 in
    let less = no_earlier bytes (length q) (length p) k.part h.part here.0 in
    let same : length p ≡ length q = omega (arith, more, less) in
    sym here.1 ∙ ap (λ (n : ℕ). take n bytes) same ∙ there.1

-- ---- what the exit status of an answer tells

-- a response is refused at a line, which the text names
record IsRefusal (bytes : List ℕ) (answer : Answer) : Type 0 where
  exit : answer.exit ≡ 6
  line : ℕ
  refused_there : IsRefusedAtLine bytes line
  text : answer.text ≡ refused_text line

checked : (bytes : List ℕ) (answer : Answer) → ChecksInput bytes answer → (answer.exit ≤ 1) ⊎ IsRefusal bytes answer
checked bytes answer (too_long long text) = inl (let e = text.exit in omega arith)
checked bytes answer (parts model response first_line short split (refused fault has nothing text)) = inl (let e = text.exit in omega arith)
checked bytes answer (parts model response first_line short split (taken m input (verified accepted text))) = inl (let e = text.exit in omega arith)
checked bytes answer (parts model response first_line short split (taken m input (unverified count at text))) =
    inr (record {
      exit = text.exit;
      line = first_line + count;
      refused_there = record {
        m = m;
        response = response;
        first_line = first_line;
        has = record { model = model; short = short; split = split; input = input };
        count = count;
        is = refl;
        refused = at;
      };
      text = text.text;
    })

-- the answer to a model that was read, or to an input that was refused
taken_or_not : (is_input : List ℕ → CpModel → Type 0) (does : CpModel → Answer → Type 0) (bytes : List ℕ) (answer : Answer)
    → ((m : CpModel) → does m answer → answer.exit ≡ 0) → AnswersInput is_input does bytes answer → answer.exit ≤ 1
taken_or_not is_input does bytes answer zero (taken m input done) = let e = zero m done in omega arith
taken_or_not is_input does bytes answer zero (refused fault has nothing text) = let e = text.exit in omega arith

-- no other command refuses a response
done_with : (c : Command) (bytes : List ℕ) (answer : Answer) → Does c bytes answer → (answer.exit ≤ 1) ⊎ ((c ≡ Check) × IsRefusal bytes answer)
done_with (Solve o) bytes answer does = inl (taken_or_not IsInput (Solves o) bytes answer (λ m done. done.exit) does)
done_with Validate bytes answer does = inl (taken_or_not IsInput Validates bytes answer (λ m done. done.exit) does)
done_with Print bytes answer does = inl (taken_or_not IsModelText Prints bytes answer (λ m done. done.canonical.exit) does)
done_with (Gen r) bytes answer does = inl (let e = does.canonical.exit in omega arith)
done_with (Demo r) bytes answer does = inl (let e = does.exit in omega arith)
done_with Check bytes answer does =
    elim (checked bytes answer does) [
      | inl e ↦ inl e
      | inr refusal ↦ inr (refl, refusal)
    ]

pub answer_exit : (words : List (List ℕ)) (bytes : List ℕ) (answer : Answer) → IsAnswerTo words bytes answer → IsAnswerExit answer.exit
answer_exit words bytes answer (usage fault text) = inl (let e = text.exit in omega arith)
answer_exit words bytes answer (command c line does) =
    elim (done_with c bytes answer does) [
      | inl e ↦ inl (omega arith)
      | inr refusal ↦ inr refusal.1.exit
    ]

refusal_of : (words : List (List ℕ)) (bytes : List ℕ) (answer : Answer) → IsAnswerTo words bytes answer → answer.exit ≡ 6 → IsCheckLine words × IsRefusal bytes answer
refusal_of words bytes answer (usage fault text) six = absurd (let e = text.exit in omega arith)
refusal_of words bytes answer (command c line does) six =
    elim (done_with c bytes answer does) [
      | inl e ↦ absurd (omega arith)
      | inr refusal ↦ (subst (λ (d : Command). CommandLine words d) refusal.0 line, refusal.1)
    ]

-- the answer to words of `check`
check_does : (words : List (List ℕ)) (bytes : List ℕ) (answer : Answer) → IsCheckLine words → IsAnswerTo words bytes answer → ChecksInput bytes answer
check_does words bytes answer line (usage fault text) = absurd (fault Check line)
check_does words bytes answer line (command c other does) =
    subst (λ (d : Command). Does d bytes answer) (one_command words c Check other line) does

-- what is verified is true of the model
verified_input : (bytes : List ℕ) (answer : Answer) → ChecksInput bytes answer → answer.exit ≡ 0 → IsVerified bytes
verified_input bytes answer (too_long long text) zero = absurd (let e = text.exit in omega arith)
verified_input bytes answer (parts model response first_line short split (refused fault has nothing text)) zero = absurd (let e = text.exit in omega arith)
verified_input bytes answer (parts model response first_line short split (taken m input (unverified count at text))) zero = absurd (let e = text.exit in omega arith)
verified_input bytes answer (parts model response first_line short split (taken m input (verified accepted text))) zero =
    record {
      m = m;
      response = response;
      first_line = first_line;
      has = record { model = model; short = short; split = split; input = input };
      accepted = accepted;
      holds = accepted_true m response input.valid accepted;
    }

-- the text of a valid model is not refused
decided_input : (bytes : List ℕ) (answer : Answer) → HasValidModel bytes → ChecksInput bytes answer → (answer.exit ≡ 0) ⊎ (answer.exit ≡ 6)
decided_input bytes answer h (too_long long text) = absurd (let short = h.has.short in omega arith)
decided_input bytes answer h (parts model response first_line short split (taken m input (verified accepted text))) = inl text.exit
decided_input bytes answer h (parts model response first_line short split (taken m input (unverified count at text))) = inr text.exit
decided_input bytes answer h (parts model response first_line short split (refused fault has nothing text)) =
    let same = one_text bytes h.has.model model h.response response h.first_line first_line h.has.split split in
    absurd (nothing h.m (subst (λ (t : List ℕ). IsInput t h.m) same h.has.input))

-- ---- what a run tells

-- an exit status that is not a failed write's is the answer's, and the text was taken
abbrev pub IsWhole : Option (List ℕ) → Option (List ℕ) → ℕ → Answer → Type 0
IsWhole before after exit answer = exit ≢ 4 → (exit ≡ answer.exit) × Appends before after answer.text

pub leaves_verified : (words : List (List ℕ)) (left before after : Option (List ℕ)) (exit : ℕ) (answer : Answer) → Given words left answer → IsWhole before after exit answer
    → IsCheckLine words → exit ≡ 0 → LeavesVerified left
leaves_verified words left before after exit answer given whole line zero =
    let same : answer.exit ≡ 0 = sym (whole (λ four. omega arith)).0 ∙ zero in
    (given.0, given.1, verified_input given.0 answer (check_does words given.0 answer line given.2) same)

pub gives_refusal : (words : List (List ℕ)) (left before after : Option (List ℕ)) (exit : ℕ) (answer : Answer) → Given words left answer → IsWhole before after exit answer
    → exit ≡ 6 → IsCheckLine words × GivesRefusal left before after
gives_refusal words left before after exit answer given whole six =
    let out = whole (λ four. omega arith) in
    let refusal = refusal_of words given.0 answer given.2 (sym out.0 ∙ six) in (
      refusal.0,
      record {
        bytes = given.0;
        line = refusal.1.line;
        input = given.1;
        refused = refusal.1.refused_there;
        text = subst (λ (t : List ℕ). Appends before after t) refusal.1.text out.1;
      },
    )

valid_left : (left : Option (List ℕ)) (bytes : List ℕ) → AreBytesLeft left bytes → IsSomeAnd left HasValidModel → HasValidModel bytes
valid_left None bytes same valid = absurd valid
valid_left (Some some) bytes same valid = subst HasValidModel same valid

pub decided : (words : List (List ℕ)) (left before after : Option (List ℕ)) (exit : ℕ) (answer : Answer) → Given words left answer → IsWhole before after exit answer
    → IsCheckLine words → IsSomeAnd left HasValidModel → exit ≢ 4 → (exit ≡ 0) ⊎ (exit ≡ 6)
decided words left before after exit answer given whole line valid not_four =
    let same = (whole not_four).0 in
    elim (decided_input given.0 answer (valid_left left given.0 given.1 valid) (check_does words given.0 answer line given.2)) [
      | inl zero ↦ inl (same ∙ zero)
      | inr six ↦ inr (same ∙ six)
    ]
