use Rattle.std.proofs.Common.{◌≡◌, length}
use Rattle.complex_core.specs.Complexes.{over}
use Rattle.stars.proofs.over.OverIterator.next.Given as goal

-- only rows that don't contain the face were passed over
abbrev pub invariant-loop-row : goal.invariant-loop-row
invariant-loop-row l = over l.self-inside.rows.now l.self-inside.face ≡ l.fn.self

abbrev pub decreases-loop-row : goal.decreases-loop-row
decreases-loop-row l = length l.self-inside.rows.now
