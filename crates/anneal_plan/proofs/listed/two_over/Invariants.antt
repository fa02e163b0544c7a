use Rattle.std.proofs.Common.{◌≡◌, ◌++◌, drop}
use Rattle.complex_core.specs.Complexes.{over}
use Rattle.anneal_plan.proofs.TwoRows.{as_list}
use Rattle.anneal_plan.proofs.listed.two_over.Given as goal

-- the one that was met, if there is one, and those over the face of the rest, are all
abbrev pub invariant-loop-row : goal.invariant-loop-row
invariant-loop-row l = over l.rows l.face ≡ as_list l.first ++ over (drop l.row-index l.rows) l.face
