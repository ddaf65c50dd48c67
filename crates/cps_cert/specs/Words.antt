-- What the functions that read a line answer.
use Rattle.std.specs.Prelude.{◌≡◌, ℕ, ◌≤◌, ◌==◌, not, Bool, IsTrue, List, ◌∷◌, ◌++◌, length, take, Some, slice_get}
use Rattle.std.specs.List.{list_all}
use Rattle.cps_log.specs.Writing.{behind_blank}

abbrev pub is_no_blank : ℕ → Bool
is_no_blank b = not (b == 32)

-- so many first bytes pass a test, and the next does not, if there is one
pub record IsRun (passes : ℕ → Bool) (bytes : List ℕ) (count : ℕ) : Type 0 where
  pub within : count ≤ length bytes
  pub run : IsTrue (list_all passes (take count bytes))
  pub ends : (b : ℕ) → slice_get bytes count ≡ Some b → IsTrue (not (passes b))

-- a blank and a word are first, and behind the word stands a blank or nothing
pub record IsNextWord (bytes word after : List ℕ) : Type 0 where
  pub is : bytes ≡ 32 ∷ (word ++ after)
  pub whole : IsTrue (list_all is_no_blank word)
  pub ends : (b : ℕ) → slice_get after 0 ≡ Some b → b ≡ 32

-- a blank and this word are first, and behind the word stands a blank or nothing
pub record BeginsWith (bytes word after : List ℕ) : Type 0 where
  pub is : bytes ≡ behind_blank word ++ after
  pub ends : (b : ℕ) → slice_get after 0 ≡ Some b → b ≡ 32
