-- What contracts see of a journal: a list of entries.
use Rattle.std.specs.Prelude.{ℕ, List}
use Rattle.flip_rules.specs.declared.flip.Flip.{Flip}

-- who wrote the entry, in which round, its number among the entries of this worker and round, and its flips in order
pub record JournalEntry : Type 0 where
  pub round : ℕ
  pub worker : ℕ
  pub seq : ℕ
  pub flips : List Flip
