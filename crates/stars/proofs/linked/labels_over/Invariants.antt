use Rattle.std.proofs.Common.{◌≡◌, ◌≤◌, [], drop, length}
use Rattle.stars.proofs.Gathered.{gathered}
use Rattle.stars.proofs.linked.labels_over.Given as goal

-- the labels so far, with those of the rest of the facets, are all
abbrev pub invariant-loop-row : goal.invariant-loop-row
invariant-loop-row l = record {
  all : gathered [] l.rows l.face ≡ gathered l.labels (drop l.row-index l.rows) l.face;
  few : length l.labels ≤ l.most;
}
