use Rattle.std.proofs.Common.{length}
use Rattle.stars.proofs.rows.+change_stars.Given as goal

abbrev pub decreases-change_stars : goal.decreases-change_stars
decreases-change_stars l = length l.labels.now
