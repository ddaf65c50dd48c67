-- What the options of a command and the model that it names are, by what `clap` found.
use Rattle.std.specs.Prelude.{◌≡◌, ◌↔◌, ℕ, ◌<◌, ◌^◌, List, codes, IsTrue, Some}
use Rattle.std.specs.Str.Parse.{IsNumeral, digits_value, without_leading_plus}
use Rattle.clap.specs.Words.{Row, first_of, one_of}
use Rattle.cps_gen.specs.declared.family.Family.{Family}
use Rattle.cps_gen.specs.Families.{family_name, is_in_range}
use Rattle.cps_command.specs.declared.recipe.Recipe.{Recipe}
use Rattle.cps_options.specs.declared.options.Options.{Options}
use Rattle.cps_options.specs.Ranges.{AreInRange}

-- the text is a number in decimal digits, before which a plus may stand
pub record IsNumber (text : List ℕ) (n : ℕ) : Type 0 where
  pub digits : IsNumeral 10 (without_leading_plus text)
  pub value : digits_value 10 (without_leading_plus text) ≡ n

-- an option's value, given or by default, is this number
pub record HasNumber (option : List ℕ) (rows : List Row) (n : ℕ) : Type 0 where
  pub text : List ℕ
  pub is : one_of option rows ≡ Some text
  pub number : IsNumber text n

-- an option without a value was given
abbrev pub IsOn : List ℕ → List Row → Type 0
IsOn option rows = first_of option rows ≡ Some (codes "true")

-- The options have these numbers, which are in their ranges. A log is asked for only with one worker, and this number
-- must be given, since another is the default.
pub record AreOptions (rows : List Row) (o : Options) : Type 0 where
  pub workers : HasNumber (codes "workers") rows o.workers
  pub conflicts : HasNumber (codes "conflicts") rows o.conflicts
  pub seed : HasNumber (codes "seed") rows o.seed
  pub seed_fits : o.seed < 2 ^ 64
  pub interleave : IsTrue o.interleave ↔ IsOn (codes "interleave") rows
  pub gap : HasNumber (codes "gap") rows o.gap
  pub log : IsTrue o.log ↔ IsOn (codes "log") rows
  pub range : AreInRange o

-- the word for this family was given
abbrev pub NamesFamily : List Row → Family → Type 0
NamesFamily rows f = first_of (codes "family") rows ≡ Some (family_name f)

-- the model to be generated has this family, size and seed, and the family has models of that size
pub record IsRecipe (rows : List Row) (r : Recipe) : Type 0 where
  pub family : NamesFamily rows r.family
  pub size : HasNumber (codes "size") rows r.size
  pub range : IsTrue (is_in_range r.family r.size)
  pub seed : HasNumber (codes "seed") rows r.seed
  pub seed_fits : r.seed < 2 ^ 64
