use Rattle.std.proofs.Common.{◌≡◌, drop, fold}
use Rattle.anneal_plan.specs.Nearest.{nothing_yet, seen}
use Rattle.anneal_plan.proofs.nearest.Nearest.next.Given as goal

-- what all facets come to is what the rest comes to from here
abbrev pub invariant-loop-row : goal.invariant-loop-row
invariant-loop-row l = fold (seen l.face l.vertex l.last) nothing_yet l.rows ≡ fold (seen l.face l.vertex l.last) l.self (drop l.row-index l.rows)
