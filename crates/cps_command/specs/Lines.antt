-- Which words are which command. The first word is the program's name.
use Rattle.std.specs.Prelude.{◌≡◌, ℕ, Bool, true, false, IsTrue, List, [], Option, Some, codes, map, option_map, string_bytes}
use Rattle.std.specs.declared.string.String.{String}
use Rattle.std.specs.declared.alloc.Global.{Global}
use Rattle.clap.specs.Words.{Row, Text, fault_of, subcommand_of}
use Rattle.cps_command.specs.declared.command.Command.{Command}
use Rattle.cps_command.specs.declared.command.Command.TheVariants.{Solve, Validate, Print, Gen, Demo, Check}
use Rattle.cps_options.specs.declared.options.Options.{Options}
use Rattle.cps_command.specs.Rules.{command_table}
use Rattle.cps_command.specs.declared.recipe.Recipe.{Recipe}
use Rattle.cps_command.specs.Numbers.{AreOptions, IsRecipe}

-- the bytes of each word
abbrev pub texts_of : List (String Global) → List (List ℕ)
texts_of words = map (λ word. string_bytes word) words

-- the words pass by the table, with no request for help or a version; and what they say: a command's name and what
-- stands behind it
pub record IsPassed (words : List (List ℕ)) (says : Option (Text × List Row)) : Type 0 where
  pub passes : fault_of command_table words ≡ []
  pub is : says ≡ subcommand_of command_table words

-- what words say has this command's name
abbrev pub HasName : List ℕ → Option (Text × List Row) → Type 0
HasName name says = option_map (λ p. p.0) says ≡ Some name

-- what words say has these options
pub record HasOptions (says : Option (Text × List Row)) (o : Options) : Type 0 where
  pub rows : List Row
  pub are : option_map (λ p. p.1) says ≡ Some rows
  pub options : AreOptions rows o

-- what words say names this model to be generated
pub record HasRecipe (says : Option (Text × List Row)) (r : Recipe) : Type 0 where
  pub rows : List Row
  pub are : option_map (λ p. p.1) says ≡ Some rows
  pub recipe : IsRecipe rows r

-- what words say is this command with these options, or with this model
abbrev pub Says : Option (Text × List Row) → Command → Type 0
Says says (Solve o) = HasName (codes "solve") says × HasOptions says o
Says says Validate = HasName (codes "validate") says
Says says Print = HasName (codes "print") says
Says says (Gen r) = HasName (codes "gen") says × HasRecipe says r
Says says (Demo r) = HasName (codes "demo") says × HasRecipe says r
Says says Check = HasName (codes "check") says

-- what words say is no command
abbrev pub SaysNothing : Option (Text × List Row) → Type 0
SaysNothing says = (c : Command) → Says says c → ⊥

-- the words pass, and say this command with these options, or with this model
pub record CommandLine (words : List (List ℕ)) (c : Command) : Type 0 where
  pub passes : fault_of command_table words ≡ []
  pub says : Says (subcommand_of command_table words) c

-- the words have some command
abbrev pub IsCommandLine : List (List ℕ) → Type 0
IsCommandLine words = (c : Command) × CommandLine words c

-- the words have no command
abbrev pub IsUsageFault : List (List ℕ) → Type 0
IsUsageFault words = (c : Command) → CommandLine words c → ⊥

-- whether a command reads an input
abbrev pub reads : Command → Bool
reads (Solve o) = true
reads Validate = true
reads Print = true
reads (Gen r) = false
reads (Demo r) = false
reads Check = true

-- the words have a command that reads an input
abbrev pub IsReadingLine : List (List ℕ) → Type 0
IsReadingLine words = (c : Command) × CommandLine words c × IsTrue (reads c)

-- the words have no command that reads an input: they have none, or one that reads nothing
abbrev pub ReadsNothing : List (List ℕ) → Type 0
ReadsNothing words = (c : Command) → CommandLine words c → reads c ≡ false

-- the words have no two commands
abbrev pub HasOneCommand : List (List ℕ) → Type 0
HasOneCommand words = (c d : Command) → CommandLine words c → CommandLine words d → c ≡ d
