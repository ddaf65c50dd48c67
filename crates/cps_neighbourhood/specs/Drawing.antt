-- What a generator draws, and samples that are drawn without replacement.
use Rattle.std.specs.Prelude.{ℕ, zero, suc, ◌+◌, ◌-◌, ◌<◌, ◌%◌, nat_lt, Bool, if◌then◌else◌, List, [], ◌∷◌, length, slice_index}
use Rattle.rand_pcg.specs.Lcg.{Lcg, started, increment_of}
use Rattle.rand_pcg.specs.Pcg.{multiplier_64, pcg32}

-- the generator of a seed, on one of its streams
unfoldable pub draws_of : ℕ → ℕ → Lcg
draws_of seed stream = started 64 multiplier_64 seed (increment_of 64 stream)

-- the word that a generator gives next, and the generator after it
unfoldable pub next_word : Lcg → ℕ
next_word draws = (pcg32 draws).0

unfoldable pub after_word : Lcg → Lcg
after_word draws = (pcg32 draws).1

-- the generator after so many words
abbrev pub after_words : ℕ → Lcg → Lcg
after_words zero draws = draws
after_words (suc k) draws = after_words k (after_word draws)

-- Whether the first of `left` numbers is taken, where so many of them are wanted: the next word modulo `left` is less
-- than that.
abbrev pub is_taken : ℕ → ℕ → Lcg → Bool
is_taken left wanted draws = nat_lt (next_word draws % left) wanted

-- So many of the `left` numbers from `first` on, in rising order: each number in turn has a word, by which it is taken
-- or not.
abbrev pub sampled : ℕ → ℕ → ℕ → Lcg → List ℕ
sampled zero first wanted draws = []
sampled (suc left) first wanted draws =
    if is_taken (suc left) wanted draws then first ∷ sampled left (first + 1) (wanted - 1)
    (after_word draws) else sampled left (first + 1) wanted (after_word draws)

-- `wanted` numbers below n, which are drawn with n words
abbrev pub sample : ℕ → ℕ → Lcg → List ℕ
sample n wanted draws = sampled n 0 wanted draws

-- each is less than the next
abbrev pub AscendsStrictly : List ℕ → Type 0
AscendsStrictly xs = (i j : ℕ) → i < j → j < length xs → slice_index xs i < slice_index xs j
