-- What lies at a place from 1.
use Rattle.std.specs.Prelude.{ℕ}
use Rattle.stars.specs.StarViews.{VertexStar}

-- its star, and how many entries of the journal touch the place
pub record VersionedStar : Type 0 where
  pub star : VertexStar
  pub version : ℕ
