-- Entries that are taken back one by one.
use Rattle.std.proofs.Common.{ℕ, ◌+◌, ◌-◌, ◌≤◌, ◌<◌, ◌≡◌, List, length, take, ◌∙◌, ap, arith}
use Rattle.std.proofs.lemmas.List.{take-take, length-take-le}
use Rattle.cps_trail.specs.Trail.{Entry}
use Rattle.cps_trail.specs.Changes.{Past}
use Rattle.cps_trail.proofs.Facts.{past_same}

-- one entry fewer
pub popped_length : (es fs : List Entry) → 0 < length es → fs ≡ take (length es - 1) es → length fs + 1 ≡ length es
popped_length es fs some e =
    let n : length fs ≡ length es - 1 = ap (λ (l : List Entry). length l) e ∙ length-take-le (length es - 1) es (omega arith) in
    omega arith

pub popped_entries : (old es fs : List Entry) → 0 < length es → es ≡ take (length es) old → fs ≡ take (length es - 1) es → fs ≡ take (length fs) old
popped_entries old es fs some front e =
    let n : length es - 1 ≡ length fs = (let l = popped_length es fs some e in omega arith) in
    e ∙ ap (λ (l : List Entry). take (length es - 1) l) front ∙ take-take (length es - 1) (length es) old (omega arith) ∙ ap (λ k. take k old) n

-- as many as were asked for are left
pub back_done : (old new : Past) (mark : ℕ) → new.first ≡ old.first → new.entries ≡ take (length new.entries) old.entries → mark ≤ length new.entries → length new.entries ≤ mark → new ≡ record old { entries = take mark old.entries }
back_done old new mark first front above below =
    let n : length new.entries ≡ mark = omega arith in
    past_same new.first old.first new.entries (take mark old.entries) first (front ∙ ap (λ k. take k old.entries) n)
