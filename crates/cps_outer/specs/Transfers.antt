-- What a call that reads all, and one that writes all, did to the bytes outside.
use Rattle.std.specs.Prelude.{◌≡◌, ℕ, ◌+◌, ◌<◌, ◌≤◌, List, [], length, take, drop, Option, Some, Result, Ok, Err}
use Rattle.std.specs.Io.KnownBytes.{Appends}
use Rattle.std.specs.declared.vec.Vec.{Vec}
use Rattle.std.specs.declared.alloc.Global.{Global}
use Rattle.cps_outer.specs.declared.transfer.ReadError.{ReadError}
use Rattle.cps_outer.specs.declared.transfer.ReadError.TheVariants.{ReadFault, TooLong, OutOfMemory}

-- Of bytes that were left, all were read; or one more than the limit, of more than that; or a part within the limit.
abbrev pub ReadsAll : ℕ → List ℕ → Option (List ℕ) → Result (Vec ℕ Global) ReadError → Type 0
ReadsAll limit bytes left (Ok read) = (read.items ≡ bytes) × (length bytes ≤ limit) × (left ≡ Some [])
ReadsAll limit bytes left (Err TooLong) = (limit < length bytes) × (left ≡ Some (drop (limit + 1) bytes))
ReadsAll limit bytes left (Err ReadFault) = (n : ℕ) × (n ≤ limit) × (left ≡ Some (drop n bytes))
ReadsAll limit bytes left (Err OutOfMemory) = (n : ℕ) × (n ≤ limit + 1) × (left ≡ Some (drop n bytes))

-- a sink took a first part of the bytes
abbrev pub TakesPrefix : Option (List ℕ) → Option (List ℕ) → List ℕ → Type 0
TakesPrefix old new bytes = (n : ℕ) × Appends old new (take n bytes)

-- a sink took all the bytes, or a first part where the answer is a failure
abbrev pub WritesAll : {E : Type 0} → Option (List ℕ) → Option (List ℕ) → List ℕ → Result (Unit {0}) E → Type 0
WritesAll old new bytes (Ok done) = Appends old new bytes
WritesAll old new bytes (Err e) = TakesPrefix old new bytes
