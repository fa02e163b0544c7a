use Rattle.std.proofs.Common.{◌≡◌, ◌*◌, ◌+ℤ◌, ◌≤ℤ◌, pos, drop}
use Rattle.round_rules.specs.Tasks.{changes}
use Rattle.spec_worker.proofs.turning.changes_of.Given as goal

-- the sum so far and that of the rest are the whole
abbrev pub invariant-loop-flip : goal.invariant-loop-flip
invariant-loop-flip l =
    ((l.sum +ℤ changes l.dim (drop l.flip-index l.flips)) ≡ changes l.dim l.flips)
    × (pos 0 ≤ℤ (l.sum +ℤ pos (16 * l.flip-index)))
    × (l.sum ≤ℤ pos (6 * l.flip-index))
