-- The words of the generator.
use Rattle.std.specs.Prelude.{ℕ}
use Rattle.rand_pcg.specs.Lcg.{Lcg, advance, started, increment_of}
use Rattle.rand_pcg.specs.Pcg.{multiplier_64, pcg32}

-- the generator of a seed, on the stream 0
abbrev pub generator : ℕ → Lcg
generator seed = started 64 multiplier_64 seed (increment_of 64 0)

-- a generator after n words
abbrev pub after_words : Lcg → ℕ → Lcg
after_words g n = advance 64 multiplier_64 n g

-- the word number n of a generator, counted from 0
abbrev pub word_at : Lcg → ℕ → ℕ
word_at g n = (pcg32 (after_words g n)).0
