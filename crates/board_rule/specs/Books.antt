-- The journal of an open board.
use Rattle.std.specs.Prelude.{ℕ, List}
use Rattle.flip_rules.specs.Entries.{JournalEntry}

-- its entries, and for how many more there is room
pub record Book : Type 0 where
  pub entries : List JournalEntry
  pub room : ℕ
