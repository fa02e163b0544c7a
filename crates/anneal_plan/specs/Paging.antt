-- A page of a list of flips that come one after another.
use Rattle.std.specs.Prelude.{ℕ, ◌+◌, ◌&&◌, nat_le, nat_lt, if◌then◌else◌, List, [], ◌∷◌, ◌++◌, length, take, drop}
use Rattle.flip_rules.specs.declared.flip.Flip.{Flip}

-- where the page begins, how many flips have come, and those from there on, as many as fit
pub record Flips : Type 0 where
  pub from : ℕ
  pub count : ℕ
  pub kept : List Flip

abbrev pub no_flips : ℕ → Flips
no_flips from = record { from = from; count = 0; kept = [] }

-- after one flip more
abbrev pub added : Flips → Flip → Flips
added page f = record { from = page.from; count = page.count + 1; kept = if nat_le page.from page.count && nat_lt (length page.kept) 64 then page.kept ++ f ∷ [] else page.kept }

-- the page of a whole list
abbrev pub page_of : List Flip → ℕ → Flips
page_of flips from = record { from = from; count = length flips; kept = take 64 (drop from flips) }
