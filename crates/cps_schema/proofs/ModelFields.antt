-- The fields of a model.
use Rattle.std.specs.Str.{bytes_eq}
use Rattle.std.specs.Option.{option_to_list}
use Rattle.std.proofs.Common.{◌≡◌, ℕ, List, [], ◌++◌, false, Option, Some, None, codes, refl}
use Rattle.cps_model.specs.declared.model.Objective.{Objective}
use Rattle.cps_model.specs.declared.steering.Hint.{Hint}
use Rattle.cps_schema.specs.Tables.{model_message, use_in, table_of}
use Rattle.cps_schema.specs.Readings.{first_of}

pub first_objective : (o : Option Objective) → first_of (option_to_list o ++ []) ≡ o
first_objective None = refl
first_objective (Some x) = refl

pub first_hint : (o : Option Hint) → first_of (option_to_list o ++ []) ≡ o
first_hint None = refl
first_hint (Some x) = refl

pub no_model_field : (text : List ℕ) → bytes_eq text (codes "name") ≡ false → bytes_eq text (codes "variables") ≡ false →
    bytes_eq text (codes "constraints") ≡ false → bytes_eq text (codes "objective") ≡ false → bytes_eq text (codes "search_strategy") ≡ false →
    bytes_eq text (codes "solution_hint") ≡ false → bytes_eq text (codes "assumptions") ≡ false → use_in (table_of model_message) text ≡ None
no_model_field text a b c d e f g = rw (a, b, c, d, e, f, g) refl
