-- The least of some labels.
use Rattle.std.specs.Prelude.{ℕ, min, Option, Some, None}

-- the lesser of two, where there are any
abbrev pub lesser : Option ℕ → Option ℕ → Option ℕ
lesser (Some one) (Some other) = Some (min one other)
lesser (Some one) None = Some one
lesser None second = second
