-- Single fields among a message's fields.
use Rattle.std.specs.Str.{bytes_eq}
use Rattle.std.specs.Option.{option_to_list, unwrap_or}
use Rattle.std.proofs.Common.{◌≡◌, ℕ, List, [], ◌∷◌, ◌++◌, ◌||◌, Bool, Option, Some, None, Result, Ok, Err, OnOk, IfErr, map, append-nil, refl, ◌∙◌}
use Rattle.cps_textproto.specs.declared.tree.Field.{Field}
use Rattle.cps_schema.specs.declared.error.SchemaError.{SchemaError}
use Rattle.cps_schema.specs.Written.{Written, token_text}
use Rattle.cps_schema.specs.Tables.{Message, Content, single, use_of, is_given}
use Rattle.cps_schema.specs.Readings.{first_or, first_of}
use Rattle.cps_schema.specs.Steps.{Passes, Stops, SinglePasses, SingleStops}
use Rattle.cps_schema.specs.Slots.{AreGivenSlots}
use Rattle.cps_schema.proofs.Steps.{next_given}

-- what was read behind a further field of this name
abbrev pub after : List ℕ → List (List ℕ × Bool) → List (List ℕ × Bool)
after name [] = []
after name (slot ∷ slots) = (slot.0, bytes_eq slot.0 name || slot.1) ∷ after name slots

pub given_after : (text name : List ℕ) (slots : List (List ℕ × Bool)) (before : List (List ℕ)) → text ≡ name →
    AreGivenSlots slots before → AreGivenSlots (after name slots) (text ∷ before)
given_after text name [] before e given = tt
given_after text name (slot ∷ slots) before e given =
    (rw e (next_given slot.0 name before ∙ rw given.0 refl), given_after text name slots before e given.1)

-- a single field, with facts G about the names before it and H about these and its own
pub slot_passes : (w : Written) (m : Message) (f : Field) (content : Content) (r : Result (Unit {0}) SchemaError)
    (G H : List (List ℕ) → Type 0) (old : Bool) → use_of m (token_text w f.name) ≡ Some (single content) →
    OnOk r (SinglePasses w f content old) →
    ((before : List (List ℕ)) → G before → is_given before (token_text w f.name) ≡ old) →
    OnOk r ((before : List (List ℕ)) → G before → H (token_text w f.name ∷ before)) →
    OnOk r ((before : List (List ℕ)) → G before → Passes w m before f × H (token_text w f.name ∷ before))
slot_passes w m f content (Ok x) G H old takes passes finds kept = λ before given. (passes m before takes (finds before given), kept before given)
slot_passes w m f content (Err e) G H old takes passes finds kept = passes

pub slot_stops : (w : Written) (m : Message) (f : Field) (content : Content) (r : Result (Unit {0}) SchemaError)
    (G : List (List ℕ) → Type 0) (old : Bool) → use_of m (token_text w f.name) ≡ Some (single content) →
    IfErr r (SingleStops w f content old) →
    ((before : List (List ℕ)) → G before → is_given before (token_text w f.name) ≡ old) →
    IfErr r (λ e. (before : List (List ℕ)) → G before → Stops w m before f e)
slot_stops w m f content (Ok x) G old takes stops finds = stops
slot_stops w m f content (Err e) G old takes stops finds = λ before given. stops m before takes (finds before given)

-- the first of what was read
pub first_read : {X : Type 0} (o : Option X) (other : X) → first_or other (option_to_list o ++ []) ≡ unwrap_or o other
first_read None other = refl
first_read (Some x) other = refl

pub first_given : {X : Type 0} (o : Option X) → first_of (option_to_list o ++ []) ≡ o
first_given None = refl
first_given (Some x) = refl

pub no_further : {X Y : Type 0} (f : X → Y) (xs : List Y) (ys : List X) → (xs ++ []) ++ map f (ys ++ []) ≡ xs ++ map f ys
no_further f xs ys = rw (append-nil xs, append-nil ys) refl
