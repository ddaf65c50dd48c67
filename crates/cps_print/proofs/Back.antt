-- Messages that are printed one after the other are read one after the other.
use Rattle.std.specs.Prelude.{map}
use Rattle.std.specs.List.{AllZip}
use Rattle.std.specs.Option.{option_to_list}
use Rattle.std.proofs.Common.{◌≡◌, ℕ, List, [], ◌∷◌, Option, Some, None, refl, subst}
use Rattle.cps_textproto.specs.Trees.{Tree}
use Rattle.cps_schema.specs.Written.{Written}
use Rattle.cps_schema.specs.Readings.{first_or, first_of, messages}
use Rattle.cps_print.specs.Layout.{PrintedMessage}
use Rattle.cps_print.proofs.Shown.{Shows, printed_messages, messages-shown}
use Rattle.cps_print.proofs.Readable.{Each}
use Rattle.cps_print.proofs.Fitting.{text_list, printed}

pub each_of : {X : Type 0} (P Q : X → Type 0) → ((x : X) → P x → Q x) → (xs : List X) → Each P xs → Each Q xs
each_of P Q h [] p = tt
each_of P Q h (x ∷ xs) p = (h x p.0, each_of P Q h xs p.1)

-- what is read of each message is what was printed
each_back : {X : Type 0} (w : Written) (P : X → Type 0) (printed : X → PrintedMessage) (read : Tree → X) → ((x : X) (t : Tree) → P x → Shows w (printed x) t → read t ≡ x) → (xs : List X) (ts : List Tree) → Each P xs → AllZip (Shows w) (map printed xs) ts → map read ts ≡ xs
each_back w P printed read back [] [] p s = refl
each_back w P printed read back [] (t ∷ ts) p s = absurd s
each_back w P printed read back (x ∷ xs) [] p s = absurd s
each_back w P printed read back (x ∷ xs) (t ∷ ts) p s = rw (back x t p.0 s.0, each_back w P printed read back xs ts p.1 s.1) refl

-- and so of the messages of a name
pub messages_back : {X : Type 0} (w : Written) (P : X → Type 0) (printed : X → PrintedMessage) (read : Tree → X) → ((x : X) (t : Tree) → P x → Shows w (printed x) t → read t ≡ x) → (name : List ℕ) (m : PrintedMessage) (t : Tree) (xs : List X) → printed_messages name m ≡ map printed xs → Each P xs → Shows w m t → map read (messages w name t) ≡ xs
messages_back w P printed read back name m t xs is p s =
    each_back w P printed read back xs (messages w name t) p
    (subst (λ ms. AllZip (Shows w) ms (messages w name t)) is (messages-shown w name m t s))

pub first_given : {X : Type 0} (o : Option X) → first_of (option_to_list o) ≡ o
first_given None = refl
first_given (Some x) = refl

-- a text is read back, and so is an empty one, which is left out
pub first_text : (bytes : List ℕ) → first_or [] (text_list bytes) ≡ bytes
first_text [] = refl
first_text (b ∷ bytes) = refl
