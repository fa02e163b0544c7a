use Rattle.std.proofs.Common.{◌≡◌, ◌≤◌, ◌+◌, ℕ, take, length, true, false}
use Rattle.complex_core.specs.Labels.{has}
use Rattle.complex_core.specs.Complexes.{ComplexView}
use Rattle.board_rule.specs.Items.{has_item}
use Rattle.board_rule.specs.Views.{star_in}
use Rattle.star_laws.specs.Stars.{flips_touch}
use Rattle.vertex_claims.specs.Passes.{IsSame, know}
use Rattle.held_stars.specs.Holding.{StartedTry, Going, Made, Roomy}
use Rattle.held_stars.specs.Gates.{Follows, Keeps, noted_in}
use Rattle.held_stars.proofs.InOrder.{OnlyMore}
use Rattle.held_stars.proofs.claiming.claim_labels.Given as goal

abbrev pub invariant-loop-label : goal.invariant-loop-label
invariant-loop-label g l =
    IsSame l.fn.pass l.pass
    × (l.hold.flips.items ≡ l.fn.hold.flips.items)
    × Roomy l.hold
    × (length l.hold.lent.items ≤ length l.fn.hold.lent.items + l.label-index)
    × ((q : ℕ) → has (take l.label-index l.labels) q ≡ true → has_item (know l.pass).items q ≡ true)
    × ((s : StartedTry) (now : ComplexView) → Going s (know l.fn.pass) → ((q : ℕ) → has l.labels q ≡ true → flips_touch q s.flips ≡ true) → Made l.fn.pass l.fn.hold now
    → (m : ComplexView) × Going s (know l.pass) × Made l.pass l.hold m × (star_in m s.place ≡ star_in now s.place))
    × (g.G.Gate.quits l.fn.gate ≤ g.G.Gate.quits l.gate)
    × ((know l.pass).worker ≡ (know l.fn.pass).worker)
    × ((know l.pass).start ≡ (know l.fn.pass).start)
    × ((know l.pass).places ≡ (know l.fn.pass).places)
    × Follows (g.G.Gate.heard l.fn.gate) (g.G.Gate.heard l.gate) (Keeps false (noted_in (know l.fn.pass).tries) (noted_in (know l.pass).tries) (length l.fn.hold.flips.items) (length l.hold.flips.items))
    × OnlyMore (know l.fn.pass).items (know l.pass).items (take l.label-index l.labels)
