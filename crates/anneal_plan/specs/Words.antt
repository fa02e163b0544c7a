-- The words of a search: which generator a worker has in a round, and what it draws for a try.
use Rattle.std.specs.Prelude.{◌≡◌, ℕ, ◌+◌, ◌*◌, ◌<◌, List, slice_index}
use Rattle.rand_core.specs.Steps.{first_words}
use Rattle.rand_pcg.specs.Lcg.{Lcg, advance, started, increment_of}
use Rattle.rand_pcg.specs.Pcg.{multiplier_64, pcg32}

-- the number of the stream of a worker in a round, one for each of 16 workers
abbrev pub stream_number : ℕ → ℕ → ℕ
stream_number round worker = 16 * round + worker

-- the generator of a stream of a seed
abbrev pub stream_of : ℕ → ℕ → Lcg
stream_of seed number = started 64 multiplier_64 seed (increment_of 64 number)

-- the next n words of a generator, and the generator after them
abbrev pub words_from : Lcg → ℕ → List ℕ
words_from g n = first_words pcg32 n g

abbrev pub after_words : Lcg → ℕ → Lcg
after_words g n = advance 64 multiplier_64 n g

-- the word number n of a generator, counted from 0
abbrev pub word_at : Lcg → ℕ → ℕ
word_at g n = (pcg32 (after_words g n)).0

-- the words of draw t, counted from 0
abbrev pub draw_at : Lcg → ℕ → List ℕ
draw_at g t = words_from (after_words g (8 * t)) 8

-- word k of draw t is word 8 t + k
abbrev pub DrawsFollow : Type 0
DrawsFollow = (g : Lcg) (t k : ℕ) → k < 8 → slice_index (draw_at g t) k ≡ word_at g (8 * t + k)
