-- What was left to read, and what it is answered with.
use Rattle.std.specs.Prelude.{IfSome, Option, Some, None, Ok, Err, length}
use Rattle.std.proofs.Common.{◌≡◌, true, false, ℕ, zero, suc, ◌<◌, ◌≤◌, List, [], ◌∷◌, drop, arith, refl, sym, ap, ◌∙◌}
use Rattle.std.specs.declared.vec.Vec.{Vec}
use Rattle.std.specs.declared.alloc.Global.{Global}
use Rattle.cps_outer.specs.Transfers.{ReadsAll}
use Rattle.cps_outer.specs.declared.transfer.ReadError.TheVariants as errors
use Rattle.cps_print.specs.declared.fault.Fault.TheVariants.{TooLong}
use Rattle.cps_print.specs.Faults.{fault_text}
use Rattle.cps_program.specs.declared.answer.Answer.{Answer}
use Rattle.cps_command.specs.declared.command.Command.{Command}
use Rattle.cps_command.specs.declared.command.Command.TheVariants.{Solve, Validate, Print, Gen, Demo, Check}
use Rattle.cps_command.specs.Lines.{CommandLine, IsUsageFault, ReadsNothing, reads}
use Rattle.cps_program.specs.Inputs.{most_bytes, HasNo, IsModelText, IsInput}
use Rattle.cps_program.specs.Answers.{usage_text, IsText, IsAnswerTo, Does, IsCommandInRange}
use Rattle.cps_program.specs.Answers.IsAnswerTo.{usage, command}
use Rattle.cps_program.specs.Answers.AnswersInput.{refused}
use Rattle.cps_program.specs.Answers.ChecksInput.{too_long}
use Rattle.cps_program.specs.Runs.{AreBytesLeft}

-- some bytes are left
some_left : (left : Option (List ℕ)) → (bytes : List ℕ) × AreBytesLeft left bytes
some_left None = ([], tt)
some_left (Some left) = (left, refl)

-- the bytes that were read to the end are those that were left
read_whole : (limit : ℕ) (old new : Option (List ℕ)) (read : Vec ℕ Global) → IfSome old (λ bytes. ReadsAll limit bytes new (Ok read)) → AreBytesLeft old read.items
read_whole limit None new read h = tt
read_whole limit (Some bytes) new read h = sym h.0

drop_short : (n : ℕ) (bytes : List ℕ) → length bytes ≤ n → drop n bytes ≡ []
drop_short zero [] h = refl
drop_short zero (b ∷ bytes) h = absurd (omega arith)
drop_short (suc n) [] h = refl
drop_short (suc n) (b ∷ bytes) h = drop_short n bytes (omega arith)

-- at the end of what was left, nothing is left behind any number of bytes that is as long
pub read_through : (limit more : ℕ) (old new : Option (List ℕ)) (read : Vec ℕ Global) → limit ≤ more → IfSome old (λ bytes. ReadsAll limit bytes new (Ok read)) → IfSome old (λ bytes. new ≡ Some (drop more bytes))
read_through limit more None new read n h = tt
read_through limit more (Some bytes) new read n h = h.2 ∙ ap Some (sym (drop_short more bytes (omega (arith, h.1))))

long_list : (n : ℕ) → (bytes : List ℕ) × (n < length bytes)
long_list zero = (0 ∷ [], omega arith)
long_list (suc n) = let rest = long_list n in (0 ∷ rest.0, omega (arith, rest.1))

-- more bytes than the limit were left
long_left : (limit : ℕ) (old new : Option (List ℕ)) → IfSome old (λ bytes. ReadsAll limit bytes new (Err errors.TooLong)) → (bytes : List ℕ) × AreBytesLeft old bytes × (limit < length bytes)
long_left limit None new h = let some = long_list limit in (some.0, tt, some.1)
long_left limit (Some bytes) new h = (bytes, refl, h.0)

-- an answer of the words to the bytes that were left
abbrev pub Given : List (List ℕ) → Option (List ℕ) → Answer → Type 0
Given words left answer = (bytes : List ℕ) × AreBytesLeft left bytes × IsAnswerTo words bytes answer

pub usage_given : (words : List (List ℕ)) (left : Option (List ℕ)) (answer : Answer) → IsUsageFault words → IsText 2 usage_text answer → Given words left answer
usage_given words left answer fault text = let some = some_left left in (some.0, some.1, usage fault text)

pub command_given : (words : List (List ℕ)) (old new : Option (List ℕ)) (read : Vec ℕ Global) (answer : Answer) (c : Command) → CommandLine words c
    → IfSome old (λ bytes. ReadsAll most_bytes bytes new (Ok read)) → Does c read.items answer → Given words old answer
command_given words old new read answer c line h does = (read.items, read_whole most_bytes old new read h, command c line does)

-- a long input is the text of no model
no_long_text : (limit : ℕ) (bytes : List ℕ) → limit ≡ most_bytes → limit < length bytes → HasNo IsModelText bytes
no_long_text limit bytes e long m text = let short = text.short in omega arith

-- and so of no valid one
no_long_input : (bytes : List ℕ) → most_bytes < length bytes → HasNo IsInput bytes
no_long_input bytes long m input = no_long_text most_bytes bytes refl long m input.text

-- a command that reads refuses a long input
refuses_long : (c : Command) (bytes : List ℕ) (answer : Answer) → reads c ≡ true → most_bytes < length bytes → IsText 1 (fault_text TooLong) answer → Does c bytes answer
refuses_long (Solve options) bytes answer reading long text = refused TooLong long (no_long_input bytes long) text
refuses_long Validate bytes answer reading long text = refused TooLong long (no_long_input bytes long) text
refuses_long Print bytes answer reading long text = refused TooLong long (no_long_text most_bytes bytes refl long) text
refuses_long (Gen r) bytes answer reading long text = absurd cc
refuses_long (Demo r) bytes answer reading long text = absurd cc
refuses_long Check bytes answer reading long text = too_long long text

pub long_given : (words : List (List ℕ)) (old new : Option (List ℕ)) (answer : Answer) (c : Command) → CommandLine words c → reads c ≡ true
    → IfSome old (λ bytes. ReadsAll most_bytes bytes new (Err errors.TooLong)) → IsText 1 (fault_text TooLong) answer → Given words old answer
long_given words old new answer c line reading h text =
    let long = long_left most_bytes old new h in (long.0, long.1, command c line (refuses_long c long.0 answer reading long.2 text))

-- a command of a line has its options in their ranges
pub line_in_range : (words : List (List ℕ)) (c : Command) → CommandLine words c → IsCommandInRange c
line_in_range words (Solve options) line = line.says.1.options.range
line_in_range words Validate line = tt
line_in_range words Print line = tt
line_in_range words (Gen r) line = line.says.1.recipe.range
line_in_range words (Demo r) line = line.says.1.recipe.range
line_in_range words Check line = tt

-- what a command does that reads nothing is an answer to whatever was left
does_any : (c : Command) (some bytes : List ℕ) (answer : Answer) → reads c ≡ false → Does c some answer → Does c bytes answer
does_any (Solve o) some bytes answer reading does = absurd cc
does_any Validate some bytes answer reading does = absurd cc
does_any Print some bytes answer reading does = absurd cc
does_any (Gen r) some bytes answer reading does = does
does_any (Demo r) some bytes answer reading does = does
does_any Check some bytes answer reading does = absurd cc

pub unread_given : (words : List (List ℕ)) (left : Option (List ℕ)) (bytes : List ℕ) (answer : Answer) (c : Command) → CommandLine words c → reads c ≡ false
    → Does c bytes answer → Given words left answer
unread_given words left bytes answer c line reading does =
    let some = some_left left in (some.0, some.1, command c line (does_any c bytes some.0 answer reading does))

-- words that have a command that reads are none that read nothing
pub no_reading : {A : Type 0} (words : List (List ℕ)) (c : Command) → CommandLine words c → reads c ≡ true → ReadsNothing words → A
no_reading words c line reading nothing = absurd (let no = nothing c line in cc)
