-- What contracts see of the marks of a pass that was taken back.
use Rattle.std.specs.Prelude.{ℕ, List}
use Rattle.vertex_claims.specs.declared.mark.Mark.{Mark}

-- the pass's number, the board's round, and the marks in order
pub record MarkList : Type 0 where
  pub worker : ℕ
  pub round : ℕ
  pub list : List Mark
