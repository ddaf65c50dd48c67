-- Steps through the table of a string's places.
use Rattle.std.proofs.Common.{◌≡◌, ℕ, ◌+◌, ◌≤◌, false, List, [], ◌∷◌, ◌++◌, length, take, Option, Some, None, refl, sym, ◌∙◌, ap, arith, append-nil, append_assoc, length-append}
use Rattle.std.proofs.lemmas.List.{take-append-le}
use Rattle.std.specs.Option.{option_map_or}
use Rattle.cps_lex.specs.declared.escapes.Place.{Place}
use Rattle.cps_lex.specs.declared.escapes.Denoted.{Denoted}
use Rattle.cps_lex.specs.Escapes.{step, is_closed}
use Rattle.cps_lex.specs.Scan.{closing, closing_by}
use Rattle.cps_lex.specs.Texts.{closes, bytes_of, text_from}

pub closes_on : (quote : ℕ) (place next : Place) (b : ℕ) (denoted : Denoted) (bs : List ℕ) → step quote place b ≡ Some (next, denoted) → closes quote place (b ∷ bs) ≡ closes quote next bs
closes_on quote place next b denoted bs e = ap (λ (o : Option (Place × Denoted)). option_map_or (λ s. closes quote s.0 bs) o false) e

pub text_on : (quote : ℕ) (place next : Place) (b : ℕ) (denoted : Denoted) (bs : List ℕ) → step quote place b ≡ Some (next, denoted) → text_from quote place (b ∷ bs) ≡ bytes_of denoted ++ text_from quote next bs
text_on quote place next b denoted bs e = ap (λ (o : Option (Place × Denoted)). option_map_or (λ s. bytes_of s.1 ++ text_from quote s.0 bs) o []) e

-- what was there, what is pushed so far and what is still denoted, before and after a byte
pub pushed_whole : (quote : ℕ) (place next : Place) (denoted : Denoted) (b : ℕ) (rest more old new all : List ℕ) → step quote place b ≡ Some (next, denoted) → rest ≡ b ∷ more → new ≡ old ++ bytes_of denoted → old ++ text_from quote place rest ≡ all → new ++ text_from quote next more ≡ all
pushed_whole quote place next denoted b rest more old new all here first pushed whole =
    ap (λ xs. xs ++ text_from quote next more) pushed
    ∙ append_assoc old (bytes_of denoted) (text_from quote next more)
    ∙ ap (λ xs. old ++ xs) (sym (ap (text_from quote place) first ∙ text_on quote place next b denoted more here))
    ∙ whole

-- what was there stays in front
pub pushed_behind : (first old more new : List ℕ) → new ≡ old ++ more → length first ≤ length old → take (length first) old ≡ first → take (length first) new ≡ first
pushed_behind first old more new pushed longer kept =
    ap (take (length first)) pushed ∙ take-append-le (length first) old more longer ∙ kept

pub pushed_longer : (first old more new : List ℕ) → new ≡ old ++ more → length first ≤ length old → length first ≤ length new
pushed_longer first old more new pushed longer = omega (arith, ap length pushed, length-append old more)

-- what is there is all, where no string goes on
pub text_stops : (quote : ℕ) (place : Place) (b : ℕ) (more rest old all : List ℕ) → step quote place b ≡ None → rest ≡ b ∷ more → old ++ text_from quote place rest ≡ all → old ≡ all
text_stops quote place b more rest old all here first whole =
    let nothing : text_from quote place rest ≡ [] =
    ap (text_from quote place) first ∙ ap (λ (o : Option (Place × Denoted)). option_map_or (λ s. bytes_of s.1 ++ text_from quote s.0 more) o []) here in
    sym (append-nil old) ∙ ap (λ xs. old ++ xs) (sym nothing) ∙ whole

-- and behind the last byte
pub text_ends : (quote : ℕ) (place : Place) (rest old all : List ℕ) → rest ≡ [] → old ++ text_from quote place rest ≡ all → old ≡ all
text_ends quote place rest old all none whole = sym (append-nil old) ∙ ap (λ xs. old ++ xs) (sym (ap (text_from quote place) none)) ∙ whole

-- the closing quote is looked for behind a byte that leads on
pub closing_on : (quote : ℕ) (place next : Place) (denoted : Denoted) (b count : ℕ) (more rest : List ℕ) (all : Option ℕ) → step quote place b ≡ Some (next, denoted) → is_closed next ≡ false → rest ≡ b ∷ more →
    closing quote place count rest ≡ all → closing quote next (count + 1) more ≡ all
closing_on quote place next denoted b count more rest all here unclosed first kept =
    let one : closing quote place count (b ∷ more) ≡ closing quote next (count + 1) more =
    ap (λ (o : Option (Place × Denoted)). closing_by o (count + 1) (λ behind. closing quote behind (count + 1) more)) here ∙ rw unclosed refl in
    sym one ∙ sym (ap (closing quote place count) first) ∙ kept
