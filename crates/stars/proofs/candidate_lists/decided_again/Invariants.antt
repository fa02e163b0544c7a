use Rattle.std.proofs.Common.{◌≡◌, length}
use Rattle.stars.specs.StarViews.{VertexStar, IsStar}
use Rattle.stars.specs.CandidateLists.{AreLists, ChangedWithin}
use Rattle.stars.proofs.Keeping.{Halfway}
use Rattle.stars.proofs.candidate_lists.decided_again.Given as goal

-- those before the place are of the star now, wherever all were of one that it was
abbrev pub invariant-loop-place : goal.invariant-loop-place
invariant-loop-place l = record {
  long : length l.lists.items ≡ length l.fn.lists.items;
  half : (old : VertexStar) → IsStar old → AreLists old l.fn.lists.items → ChangedWithin l.labels old l.star.star → Halfway old l.star.star l.place l.lists.items;
}
