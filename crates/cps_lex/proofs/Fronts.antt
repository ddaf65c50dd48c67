-- One byte more of a front of bytes that is counted, and of a float.
use Rattle.std.specs.List.{prefix_len}
use Rattle.std.specs.Option.{option_map_or}
use Rattle.std.proofs.Common.{◌≡◌, ◌∙◌, ℕ, ◌+◌, ◌<◌, Bool, true, false, List, ◌∷◌, length, drop, get_or, Option, Some, sym, ap, arith}
use Rattle.std.proofs.lemmas.List.{drop_more}
use Rattle.cps_lex.specs.declared.float.Part.{Part}
use Rattle.cps_lex.specs.Floats.{next_part, float_from}

-- before counts the byte, and after counts those behind it
pub counted_more : (before after : List ℕ → ℕ) (bs : List ℕ) (i whole : ℕ) → i < length bs → before (get_or bs i 0 ∷ drop (i + 1) bs) ≡ 1 + after (drop (i + 1) bs) →
    i + before (drop i bs) ≡ whole → (i + 1) + after (drop (i + 1) bs) ≡ whole
counted_more before after bs i whole h one kept =
    let here : before (drop i bs) ≡ 1 + after (drop (i + 1) bs) = ap before (drop_more bs i 0 h) ∙ one in
    omega (arith, here, kept)

pub passed_more : (p : ℕ → Bool) (b : ℕ) (bs : List ℕ) → p b ≡ true → prefix_len p (b ∷ bs) ≡ 1 + prefix_len p bs
passed_more p b bs e = rw e (omega arith)

-- a float goes on behind a byte that leads on
pub float_on : (part next : Part) (b : ℕ) (more rest : List ℕ) (all : Bool) → next_part part b ≡ Some next → rest ≡ b ∷ more → float_from part rest ≡ all → float_from next more ≡ all
float_on part next b more rest all here first kept =
    sym (ap (float_from part) first ∙ ap (λ (o : Option Part). option_map_or (λ behind. float_from behind more) o false) here) ∙ kept
