-- What a generator draws. A number below n is a word modulo n.
use Rattle.std.specs.Prelude.{ℕ, zero, suc, ◌%◌}
use Rattle.rand_pcg.specs.Lcg.{Lcg, started, increment_of}
use Rattle.rand_pcg.specs.Pcg.{multiplier_64, pcg32}

-- the generator of a seed, on one of its streams
unfoldable pub draws_of : ℕ → ℕ → Lcg
draws_of seed stream = started 64 multiplier_64 seed (increment_of 64 stream)

-- the word that a generator gives next, and the generator after it
unfoldable pub next_word : Lcg → ℕ
next_word draws = (pcg32 draws).0

unfoldable pub after_word : Lcg → Lcg
after_word draws = (pcg32 draws).1

-- the generator after so many words
unfoldable pub after_words : Lcg → ℕ → Lcg
after_words draws zero = draws
after_words draws (suc k) = after_word (after_words draws k)

-- draw number k, from 0, is a number below n
unfoldable pub drawn : Lcg → ℕ → ℕ → ℕ
drawn draws k n = next_word (after_words draws k) % n
