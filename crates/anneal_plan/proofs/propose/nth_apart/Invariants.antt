use Rattle.std.proofs.Common.{◌≡◌, drop, slice_get}
use Rattle.anneal_plan.specs.Faces.{rows_apart}
use Rattle.anneal_plan.proofs.propose.nth_apart.Given as goal

-- the wanted one of all is the wanted one of the rest
abbrev pub invariant-loop-row : goal.invariant-loop-row
invariant-loop-row l = slice_get (rows_apart l.rows l.label) l.place ≡ slice_get (rows_apart (drop l.row-index l.rows) l.label) l.left
