-- Which single fields of a message were read.
use Rattle.std.specs.Prelude.{◌≡◌, ℕ, Bool, List, [], ◌∷◌}
use Rattle.cps_schema.specs.Tables.{is_given}

-- of each field with such a name: it was read, exactly where one of the names before is its own
abbrev pub AreGivenSlots : List (List ℕ × Bool) → List (List ℕ) → Type 0
AreGivenSlots [] before = Unit {0}
AreGivenSlots (slot ∷ slots) before = (is_given before slot.0 ≡ slot.1) × AreGivenSlots slots before
