-- The number that an option has is the one that is read, and the command that words have is the one that they say.
use Rattle.std.specs.Prelude.{Option, Some, None, Ok, Err, Result, Box, MatchOption, IsTrue, Bool, true, false, codes, option_map}
use Rattle.std.specs.Box.{box_value}
use Rattle.std.proofs.Common.{◌≡◌, ◌↔◌, ℕ, ◌<◌, ◌^◌, List, arith, sym, ◌∙◌, ap, refl, subst, slice_index}
use Rattle.std.specs.Str.Parse.{ParsesUnsigned}
use Rattle.clap.specs.Words.{Row, Text, ReadsOne, one_text, rows_of, subcommand_name_of, subcommand_of, subcommand_rows, subcommand_rows_of}
use Rattle.clap.specs.declared.parser.matches.ArgMatches.{ArgMatches}
use Rattle.clap.specs.declared.parser.matches.ArgMatches.TheViews.{out-ArgMatches, out-SubCommand}
use Rattle.clap.specs.Matches.{first_value}
use Rattle.clap.specs.declared.parser.matches.Found.{Found}
use Rattle.clap.specs.declared.parser.matches.SubCommand.{SubCommand}
use Rattle.clap.proofs.WalkLemmas.{first_value-rows, one_text-rows}
use Rattle.cps_command.specs.declared.command.Command.{Command}
use Rattle.cps_command.specs.declared.command.Command.TheVariants.{Solve, Validate, Print, Gen, Demo, Check}
use Rattle.cps_gen.specs.declared.family.Family.{Family}
use Rattle.cps_gen.specs.declared.family.Family.TheVariants.{Knapsack, Jobshop, Tour}
use Rattle.cps_gen.specs.Families.{family_name}
use Rattle.cps_command.specs.declared.recipe.Recipe.{Recipe}
use Rattle.cps_options.specs.declared.options.Options.{Options}
use Rattle.cps_options.specs.Ranges.{AreInRange}
use Rattle.cps_command.specs.Numbers.{IsNumber, HasNumber, IsOn, AreOptions, NamesFamily, IsRecipe}
use Rattle.cps_command.specs.Rules.{command_table}
use Rattle.cps_command.specs.Lines.{IsPassed, HasName, HasOptions, HasRecipe, Says, SaysNothing, CommandLine, IsUsageFault, HasOneCommand}

-- a text that is read is a number
pub read_number : {E : Type 0} (k : ℕ) (text : List ℕ) (n : ℕ) (r : Result ℕ E) → r ≡ Ok n → ParsesUnsigned k 10 text r → IsNumber text n
read_number k text n (Ok m) same h = let e : m ≡ n = cc in record { digits = h.0.0; value = sym h.1 ∙ e }
read_number k text n (Err e) same h = absurd cc

-- a text that is not read is no number that has room
pub unread_number : {E : Type 0} (k : ℕ) (text : List ℕ) (e : E) (n : ℕ) (r : Result ℕ E) → r ≡ Err e → ParsesUnsigned k 10 text r → IsNumber text n → n < 2 ^ k → ⊥
unread_number k text e n (Ok m) same h i small = cc
unread_number k text e n (Err d) same h i small = h (i.digits, (let v = i.value in omega arith))

-- a text is no two numbers
same_number : (id : List ℕ) (rows : List Row) (i j : ℕ) → HasNumber id rows i → HasNumber id rows j → i ≡ j
same_number id rows i j h k =
    let texts : Some h.text ≡ Some k.text = sym h.is ∙ k.is in
    let text : h.text ≡ k.text = cc in
    let first = h.number.value in
    let second = k.number.value in
    cc

-- a fact has one truth value
same_switch : (P : Type 0) (a b : Bool) → IsTrue a ↔ P → IsTrue b ↔ P → a ≡ b
same_switch P true b h k = sym (k.1 (h.0 refl))
same_switch P false true h k = absurd (let on : false ≡ true = h.1 (k.0 refl) in cc)
same_switch P false false h k = refl

-- the value that is read of an option without a value
pub switch_given : (f : Found) (id : List ℕ) (text : List ℕ) (same : Bool) → first_value f id ≡ Some text → IsTrue same ↔ (text ≡ codes "true") → IsTrue same ↔ IsOn id (rows_of f)
switch_given f id text same read h = (
  (λ on. sym (first_value-rows f id) ∙ read ∙ ap (λ (t : List ℕ). Some t) (h.0 on)),
  (λ on. let both : Some text ≡ Some (codes "true") = sym read ∙ first_value-rows f id ∙ on in h.1 (let e : text ≡ codes "true" = cc in e)),
)

-- and without one it is off
pub no_switch_given : (f : Found) (id : List ℕ) → first_value f id ≡ None → IsTrue false ↔ IsOn id (rows_of f)
no_switch_given f id none = (
  (λ on. absurd (let q : false ≡ true = on in cc)),
  (λ on. absurd (let q : None ≡ Some (codes "true") = sym none ∙ first_value-rows f id ∙ on in cc)),
)

-- numbers out of their ranges are no options
pub out_of_range : (rows : List Row) (o : Options) → HasNumber (codes "workers") rows o.workers → HasNumber (codes "conflicts") rows o.conflicts
    → HasNumber (codes "gap") rows o.gap → IsTrue o.log ↔ IsOn (codes "log") rows → (AreInRange o → ⊥)
    → (p : Options) → AreOptions rows p → ⊥
out_of_range rows o ow oc og ol out p a =
    let workers = same_number (codes "workers") rows o.workers p.workers ow a.workers in
    let conflicts = same_number (codes "conflicts") rows o.conflicts p.conflicts oc a.conflicts in
    let gap = same_number (codes "gap") rows o.gap p.gap og a.gap in
    let range = a.range in
    out (record {
      some_worker = omega arith;
      workers = omega arith;
      conflicts = omega arith;
      gap = omega arith;
      log = λ on. let alone = range.log (a.log.1 (ol.0 on)) in record { workers = workers ∙ alone.workers; gap = gap ∙ alone.gap };
    })

-- what a getter reads of an option is the option's number, and nothing only where it has none that there is room for
pub number_given : {E : Type 0} (k : ℕ) (f : Found) (id : List ℕ) (r : Option ℕ) (gives : List ℕ → Result ℕ E → Type 0)
    → ((t : List ℕ) (x : Result ℕ E) → gives t x → ParsesUnsigned k 10 t x) → (one_text f id ≡ None → r ≡ None) → ((t : List ℕ) → one_text f id ≡ Some t → ReadsOne gives t r)
    → MatchOption r ((n : ℕ) → HasNumber id (rows_of f) n → n < 2 ^ k → ⊥) (HasNumber id (rows_of f))
number_given k f id None gives parses none some = λ n h small.
    let given = some h.text (one_text-rows f id ∙ h.is) in
    unread_number k h.text given.0 n (Err given.0) refl (parses h.text (Err given.0) given.1) h.number small
number_given {E} k f id (Some v) gives parses none some = go (one_text f id) refl
  where
    go : (o : Option (List ℕ)) → one_text f id ≡ o → HasNumber id (rows_of f) v
    go None e = absurd (let no = none e in cc)
    go (Some t) e = record { text = t; is = sym (one_text-rows f id) ∙ e; number = read_number {E = E} k t v (Ok v) refl (parses t (Ok v) (some t e)) }

-- the name of the command that a parse entered
pub entered_name : (m : ArgMatches) → subcommand_name_of m ≡ option_map (λ (p : Text × List Row). p.0) (subcommand_rows_of m)
entered_name m = go (out-ArgMatches m).subcommand
  where
    go : {Z : Type 0} (o : Option (Box SubCommand Z)) → option_map (λ (b : Box SubCommand Z). (out-SubCommand (box_value b)).name.now) o ≡ option_map (λ (p : Text × List Row). p.0) (subcommand_rows o)
    go None = refl
    go (Some b) = refl

pub has_name : (m : ArgMatches) (name : List ℕ) → subcommand_name_of m ≡ Some name → HasName name (subcommand_rows_of m)
has_name m name entered = sym (entered_name m) ∙ entered

-- words that begin with two bytes are two
other_word : (name other : List ℕ) → (slice_index name 0 ≡ slice_index other 0 → ⊥) → name ≡ other → ⊥
other_word name other apart same = apart (ap (λ (t : List ℕ). slice_index t 0) same)

-- words say one name, so none that begins with another byte
other_name : (says : Option (Text × List Row)) (name other : List ℕ) → (slice_index name 0 ≡ slice_index other 0 → ⊥) → HasName name says → HasName other says → ⊥
other_name says name other apart h k =
    let both : Some name ≡ Some other = sym h ∙ k in
    let same : name ≡ other = cc in
    other_word name other apart same

-- the name of a command
abbrev name_of : Command → List ℕ
name_of (Solve o) = codes "solve"
name_of Validate = codes "validate"
name_of Print = codes "print"
name_of (Gen r) = codes "gen"
name_of (Demo r) = codes "demo"
name_of Check = codes "check"

said_name : (says : Option (Text × List Row)) (c : Command) → Says says c → HasName (name_of c) says
said_name says (Solve o) h = h.0
said_name says Validate h = h
said_name says Print h = h
said_name says (Gen r) h = h.0
said_name says (Demo r) h = h.0
said_name says Check h = h

-- words that have one name say no command of another
no_other : (says : Option (Text × List Row)) (name : List ℕ) (c : Command) → HasName name says → (slice_index name 0 ≡ slice_index (name_of c) 0 → ⊥) → Says says c → ⊥
no_other says name c h apart k = other_name says name (name_of c) apart h (said_name says c k)

abbrev make : ℕ → ℕ → ℕ → Bool → ℕ → Bool → Options
make workers conflicts seed interleave gap log =
    record { workers = workers; conflicts = conflicts; seed = seed; interleave = interleave; gap = gap; log = log }

alike_options : (o p : Options) → o.workers ≡ p.workers → o.conflicts ≡ p.conflicts → o.seed ≡ p.seed → o.interleave ≡ p.interleave → o.gap ≡ p.gap → o.log ≡ p.log → o ≡ p
alike_options o p workers conflicts seed interleave gap log =
    ap (λ (n : ℕ). make n o.conflicts o.seed o.interleave o.gap o.log) workers ∙ ap (λ (n : ℕ). make p.workers n o.seed o.interleave o.gap o.log) conflicts
    ∙ ap (λ (n : ℕ). make p.workers p.conflicts n o.interleave o.gap o.log) seed ∙ ap (λ (b : Bool). make p.workers p.conflicts p.seed b o.gap o.log) interleave
    ∙ ap (λ (n : ℕ). make p.workers p.conflicts p.seed p.interleave n o.log) gap ∙ ap (λ (b : Bool). make p.workers p.conflicts p.seed p.interleave p.gap b) log

-- words have one list of options
same_options : (says : Option (Text × List Row)) (o p : Options) → HasOptions says o → HasOptions says p → o ≡ p
same_options says o p h k =
    let both : Some k.rows ≡ Some h.rows = sym k.are ∙ h.are in
    let rows : k.rows ≡ h.rows = cc in
    let other = subst (λ (r : List Row). AreOptions r p) rows k.options in
    let workers = same_number (codes "workers") h.rows o.workers p.workers h.options.workers other.workers in
    let conflicts = same_number (codes "conflicts") h.rows o.conflicts p.conflicts h.options.conflicts other.conflicts in
    let seed = same_number (codes "seed") h.rows o.seed p.seed h.options.seed other.seed in
    let interleave = same_switch (IsOn (codes "interleave") h.rows) o.interleave p.interleave h.options.interleave other.interleave in
    let gap = same_number (codes "gap") h.rows o.gap p.gap h.options.gap other.gap in
    let log = same_switch (IsOn (codes "log") h.rows) o.log p.log h.options.log other.log in
    alike_options o p workers conflicts seed interleave gap log

-- two families have two names
same_family : (f g : Family) → family_name f ≡ family_name g → f ≡ g
same_family Knapsack Knapsack e = refl
same_family Jobshop Jobshop e = refl
same_family Tour Tour e = refl
same_family Knapsack Jobshop e = absurd (other_word (codes "knapsack") (codes "jobshop") (λ (n : 107 ≡ 106). omega arith) e)
same_family Knapsack Tour e = absurd (other_word (codes "knapsack") (codes "tour") (λ (n : 107 ≡ 116). omega arith) e)
same_family Jobshop Knapsack e = absurd (other_word (codes "jobshop") (codes "knapsack") (λ (n : 106 ≡ 107). omega arith) e)
same_family Jobshop Tour e = absurd (other_word (codes "jobshop") (codes "tour") (λ (n : 106 ≡ 116). omega arith) e)
same_family Tour Knapsack e = absurd (other_word (codes "tour") (codes "knapsack") (λ (n : 116 ≡ 107). omega arith) e)
same_family Tour Jobshop e = absurd (other_word (codes "tour") (codes "jobshop") (λ (n : 116 ≡ 106). omega arith) e)

-- what is read of a word names one family
pub one_family : (rows : List Row) (f g : Family) → NamesFamily rows f → NamesFamily rows g → f ≡ g
one_family rows f g h k =
    let both : Some (family_name f) ≡ Some (family_name g) = sym h ∙ k in
    let names : family_name f ≡ family_name g = cc in
    same_family f g names

-- the family whose name was read, and none where it is no family's
pub family_given : (f : Found) (name : List ℕ) (found : Option Family) → first_value f (codes "family") ≡ Some name
    → MatchOption found ((g : Family) → family_name g ≡ name → ⊥) (λ (g : Family). family_name g ≡ name)
    → MatchOption found ((g : Family) → NamesFamily (rows_of f) g → ⊥) (NamesFamily (rows_of f))
family_given f name None read none = λ g names.
    let both : Some (family_name g) ≡ Some name = sym names ∙ sym (first_value-rows f (codes "family")) ∙ read in
    let same : family_name g ≡ name = cc in
    none g same
family_given f name (Some g) read same = sym (first_value-rows f (codes "family")) ∙ read ∙ ap (λ (t : List ℕ). Some t) (sym same)

-- nothing that was read names no family
pub no_family_given : (f : Found) → first_value f (codes "family") ≡ None → (g : Family) → NamesFamily (rows_of f) g → ⊥
no_family_given f read g names = absurd (let q : None ≡ Some (family_name g) = sym read ∙ first_value-rows f (codes "family") ∙ names in cc)

abbrev bake : Family → ℕ → ℕ → Recipe
bake family size seed = record { family = family; size = size; seed = seed }

alike_recipes : (r t : Recipe) → r.family ≡ t.family → r.size ≡ t.size → r.seed ≡ t.seed → r ≡ t
alike_recipes r t family size seed =
    ap (λ (f : Family). bake f r.size r.seed) family ∙ ap (λ (n : ℕ). bake t.family n r.seed) size ∙ ap (λ (n : ℕ). bake t.family t.size n) seed

-- words name one model
same_recipe : (says : Option (Text × List Row)) (r t : Recipe) → HasRecipe says r → HasRecipe says t → r ≡ t
same_recipe says r t h k =
    let both : Some k.rows ≡ Some h.rows = sym k.are ∙ h.are in
    let rows : k.rows ≡ h.rows = cc in
    let other = subst (λ (x : List Row). IsRecipe x t) rows k.recipe in
    let family = one_family h.rows r.family t.family h.recipe.family other.family in
    let size = same_number (codes "size") h.rows r.size t.size h.recipe.size other.size in
    let seed = same_number (codes "seed") h.rows r.seed t.seed h.recipe.seed other.seed in
    alike_recipes r t family size seed

one_said : (says : Option (Text × List Row)) (c d : Command) → Says says c → Says says d → c ≡ d
one_said says (Solve o) (Solve p) h k = ap (λ (q : Options). Solve q) (same_options says o p h.1 k.1)
one_said says Validate Validate h k = refl
one_said says Print Print h k = refl
one_said says (Gen r) (Gen t) h k = ap (λ (q : Recipe). Gen q) (same_recipe says r t h.1 k.1)
one_said says (Demo r) (Demo t) h k = ap (λ (q : Recipe). Demo q) (same_recipe says r t h.1 k.1)
one_said says Check Check h k = refl
one_said says (Solve o) Validate h k = absurd (no_other says (name_of (Solve o)) Validate (said_name says (Solve o) h) (λ (e : 115 ≡ 118). omega arith) k)
one_said says (Solve o) Print h k = absurd (no_other says (name_of (Solve o)) Print (said_name says (Solve o) h) (λ (e : 115 ≡ 112). omega arith) k)
one_said says (Solve o) (Gen t) h k = absurd (no_other says (name_of (Solve o)) (Gen t) (said_name says (Solve o) h) (λ (e : 115 ≡ 103). omega arith) k)
one_said says (Solve o) (Demo t) h k = absurd (no_other says (name_of (Solve o)) (Demo t) (said_name says (Solve o) h) (λ (e : 115 ≡ 100). omega arith) k)
one_said says (Solve o) Check h k = absurd (no_other says (name_of (Solve o)) Check (said_name says (Solve o) h) (λ (e : 115 ≡ 99). omega arith) k)
one_said says Validate (Solve p) h k = absurd (no_other says (name_of Validate) (Solve p) (said_name says Validate h) (λ (e : 118 ≡ 115). omega arith) k)
one_said says Validate Print h k = absurd (no_other says (name_of Validate) Print (said_name says Validate h) (λ (e : 118 ≡ 112). omega arith) k)
one_said says Validate (Gen t) h k = absurd (no_other says (name_of Validate) (Gen t) (said_name says Validate h) (λ (e : 118 ≡ 103). omega arith) k)
one_said says Validate (Demo t) h k = absurd (no_other says (name_of Validate) (Demo t) (said_name says Validate h) (λ (e : 118 ≡ 100). omega arith) k)
one_said says Validate Check h k = absurd (no_other says (name_of Validate) Check (said_name says Validate h) (λ (e : 118 ≡ 99). omega arith) k)
one_said says Print (Solve p) h k = absurd (no_other says (name_of Print) (Solve p) (said_name says Print h) (λ (e : 112 ≡ 115). omega arith) k)
one_said says Print Validate h k = absurd (no_other says (name_of Print) Validate (said_name says Print h) (λ (e : 112 ≡ 118). omega arith) k)
one_said says Print (Gen t) h k = absurd (no_other says (name_of Print) (Gen t) (said_name says Print h) (λ (e : 112 ≡ 103). omega arith) k)
one_said says Print (Demo t) h k = absurd (no_other says (name_of Print) (Demo t) (said_name says Print h) (λ (e : 112 ≡ 100). omega arith) k)
one_said says Print Check h k = absurd (no_other says (name_of Print) Check (said_name says Print h) (λ (e : 112 ≡ 99). omega arith) k)
one_said says (Gen r) (Solve p) h k = absurd (no_other says (name_of (Gen r)) (Solve p) (said_name says (Gen r) h) (λ (e : 103 ≡ 115). omega arith) k)
one_said says (Gen r) Validate h k = absurd (no_other says (name_of (Gen r)) Validate (said_name says (Gen r) h) (λ (e : 103 ≡ 118). omega arith) k)
one_said says (Gen r) Print h k = absurd (no_other says (name_of (Gen r)) Print (said_name says (Gen r) h) (λ (e : 103 ≡ 112). omega arith) k)
one_said says (Gen r) (Demo t) h k = absurd (no_other says (name_of (Gen r)) (Demo t) (said_name says (Gen r) h) (λ (e : 103 ≡ 100). omega arith) k)
one_said says (Gen r) Check h k = absurd (no_other says (name_of (Gen r)) Check (said_name says (Gen r) h) (λ (e : 103 ≡ 99). omega arith) k)
one_said says (Demo r) (Solve p) h k = absurd (no_other says (name_of (Demo r)) (Solve p) (said_name says (Demo r) h) (λ (e : 100 ≡ 115). omega arith) k)
one_said says (Demo r) Validate h k = absurd (no_other says (name_of (Demo r)) Validate (said_name says (Demo r) h) (λ (e : 100 ≡ 118). omega arith) k)
one_said says (Demo r) Print h k = absurd (no_other says (name_of (Demo r)) Print (said_name says (Demo r) h) (λ (e : 100 ≡ 112). omega arith) k)
one_said says (Demo r) (Gen t) h k = absurd (no_other says (name_of (Demo r)) (Gen t) (said_name says (Demo r) h) (λ (e : 100 ≡ 103). omega arith) k)
one_said says (Demo r) Check h k = absurd (no_other says (name_of (Demo r)) Check (said_name says (Demo r) h) (λ (e : 100 ≡ 99). omega arith) k)
one_said says Check (Solve p) h k = absurd (no_other says (name_of Check) (Solve p) (said_name says Check h) (λ (e : 99 ≡ 115). omega arith) k)
one_said says Check Validate h k = absurd (no_other says (name_of Check) Validate (said_name says Check h) (λ (e : 99 ≡ 118). omega arith) k)
one_said says Check Print h k = absurd (no_other says (name_of Check) Print (said_name says Check h) (λ (e : 99 ≡ 112). omega arith) k)
one_said says Check (Gen t) h k = absurd (no_other says (name_of Check) (Gen t) (said_name says Check h) (λ (e : 99 ≡ 103). omega arith) k)
one_said says Check (Demo t) h k = absurd (no_other says (name_of Check) (Demo t) (said_name says Check h) (λ (e : 99 ≡ 100). omega arith) k)

-- words have one command
pub one_command : (words : List (List ℕ)) → HasOneCommand words
one_command words c d h k = one_said (subcommand_of command_table words) c d h.says k.says

-- `solve` with options that are out of their ranges is no command
pub no_options : (says : Option (Text × List Row)) (found : List Row) → HasName (codes "solve") says → option_map (λ (p : Text × List Row). p.1) says ≡ Some found
    → ((o : Options) → AreOptions found o → ⊥) → SaysNothing says
no_options says found name rows none (Solve o) said =
    let both : Some said.1.rows ≡ Some found = sym said.1.are ∙ rows in
    let alike : said.1.rows ≡ found = cc in
    none o (subst (λ (r : List Row). AreOptions r o) alike said.1.options)
no_options says found name rows none Validate said = no_other says (codes "solve") Validate name (λ (e : 115 ≡ 118). omega arith) said
no_options says found name rows none Print said = no_other says (codes "solve") Print name (λ (e : 115 ≡ 112). omega arith) said
no_options says found name rows none (Gen r) said = no_other says (codes "solve") (Gen r) name (λ (e : 115 ≡ 103). omega arith) said
no_options says found name rows none (Demo r) said = no_other says (codes "solve") (Demo r) name (λ (e : 115 ≡ 100). omega arith) said
no_options says found name rows none Check said = no_other says (codes "solve") Check name (λ (e : 115 ≡ 99). omega arith) said

-- what words say that pass is their command
pub passed_command : (words : List (List ℕ)) (says : Option (Text × List Row)) (found : Option Command) → IsPassed words says
    → MatchOption found (SaysNothing says) (Says says) → MatchOption found (IsUsageFault words) (CommandLine words)
passed_command words says None passed nothing =
    λ (c : Command) (line : CommandLine words c). nothing c (subst (λ (s : Option (Text × List Row)). Says s c) (sym passed.is) line.says)
passed_command words says (Some c) passed said =
    record { passes = passed.passes; says = subst (λ (s : Option (Text × List Row)). Says s c) passed.is said }
