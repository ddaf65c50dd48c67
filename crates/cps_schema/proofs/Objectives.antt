-- The single fields of an objective.
use Rattle.std.specs.Str.{bytes_eq}
use Rattle.std.specs.Option.{option_to_list, unwrap_or}
use Rattle.std.proofs.Common.{◌≡◌, ℕ, ℤ, List, [], ◌∷◌, ◌++◌, true, false, Option, Some, None, is_some, Result, Ok, Err, OnOk, IfErr, codes, refl, ◌∙◌}
use Rattle.cps_textproto.specs.declared.tree.Field.{Field}
use Rattle.cps_schema.specs.declared.number.Number.TheVariants.{Exact}
use Rattle.cps_schema.specs.declared.error.SchemaError.{SchemaError}
use Rattle.cps_schema.specs.Written.{Written, token_text}
use Rattle.cps_schema.specs.Tables.{objective_message, number}
use Rattle.cps_schema.specs.Readings.{first_or}
use Rattle.cps_schema.specs.Steps.{Passes, Stops, SinglePasses, SingleStops}
use Rattle.cps_schema.specs.Parts.{IsGivenObjective}
use Rattle.cps_schema.proofs.Steps.{next_given, table_use}

pub other_given : (offset scaling : Option ℤ) (text name : List ℕ) → text ≡ name →
    bytes_eq (codes "offset") name ≡ false → bytes_eq (codes "scaling_factor") name ≡ false →
    (before : List (List ℕ)) → IsGivenObjective offset scaling before → IsGivenObjective offset scaling (text ∷ before)
other_given offset scaling text name e no_offset no_scaling before given = rw e (record {
  offset_given = next_given (codes "offset") name before ∙ rw no_offset given.offset_given;
  scaling_given = next_given (codes "scaling_factor") name before ∙ rw no_scaling given.scaling_given;
})

pub offset_passes : (w : Written) (f : Field) (r : Result (Unit {0}) SchemaError) (old new scaling : Option ℤ) →
    token_text w f.name ≡ codes "offset" → OnOk r (SinglePasses w f (number Exact) (is_some old)) → OnOk r (is_some new ≡ true) →
    OnOk r ((before : List (List ℕ)) → IsGivenObjective old scaling before →
    Passes w objective_message before f × IsGivenObjective new scaling (token_text w f.name ∷ before))
offset_passes w f (Ok x) old new scaling name passes some = λ before given. (
  passes objective_message before (table_use _ _ _ _ name refl) (rw name given.offset_given),
  rw name (record {
    offset_given = next_given (codes "offset") (codes "offset") before ∙ rw some refl;
    scaling_given = next_given (codes "scaling_factor") (codes "offset") before ∙ given.scaling_given;
  }),
)
offset_passes w f (Err e) old new scaling name passes some = passes

pub scaling_passes : (w : Written) (f : Field) (r : Result (Unit {0}) SchemaError) (old new offset : Option ℤ) →
    token_text w f.name ≡ codes "scaling_factor" → OnOk r (SinglePasses w f (number Exact) (is_some old)) → OnOk r (is_some new ≡ true) →
    OnOk r ((before : List (List ℕ)) → IsGivenObjective offset old before →
    Passes w objective_message before f × IsGivenObjective offset new (token_text w f.name ∷ before))
scaling_passes w f (Ok x) old new offset name passes some = λ before given. (
  passes objective_message before (table_use _ _ _ _ name refl) (rw name given.scaling_given),
  rw name (record {
    offset_given = next_given (codes "offset") (codes "scaling_factor") before ∙ given.offset_given;
    scaling_given = next_given (codes "scaling_factor") (codes "scaling_factor") before ∙ rw some refl;
  }),
)
scaling_passes w f (Err e) old new offset name passes some = passes

pub offset_stops : (w : Written) (f : Field) (r : Result (Unit {0}) SchemaError) (old scaling : Option ℤ) →
    token_text w f.name ≡ codes "offset" → IfErr r (SingleStops w f (number Exact) (is_some old)) →
    IfErr r (λ e. (before : List (List ℕ)) → IsGivenObjective old scaling before → Stops w objective_message before f e)
offset_stops w f (Ok x) old scaling name stops = stops
offset_stops w f (Err e) old scaling name stops = λ before given.
    stops objective_message before (table_use _ _ _ _ name refl) (rw name given.offset_given)

pub scaling_stops : (w : Written) (f : Field) (r : Result (Unit {0}) SchemaError) (old offset : Option ℤ) →
    token_text w f.name ≡ codes "scaling_factor" → IfErr r (SingleStops w f (number Exact) (is_some old)) →
    IfErr r (λ e. (before : List (List ℕ)) → IsGivenObjective offset old before → Stops w objective_message before f e)
scaling_stops w f (Ok x) old offset name stops = stops
scaling_stops w f (Err e) old offset name stops = λ before given.
    stops objective_message before (table_use _ _ _ _ name refl) (rw name given.scaling_given)

pub first_number : (o : Option ℤ) (d : ℤ) → first_or d (option_to_list o ++ []) ≡ unwrap_or o d
first_number None d = refl
first_number (Some z) d = refl
