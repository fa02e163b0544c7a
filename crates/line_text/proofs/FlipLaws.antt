-- One more label of a side.
use Rattle.std.proofs.Common.{◌≡◌, ◌≢◌, ◌≤◌, ◌<◌, ℕ, true, false, List, length, arith}
use Rattle.complex_core.specs.Labels.{has, with}
use Rattle.complex_core.proofs.Faces.{with_new}
use Rattle.line_text.specs.declared.label.Labels.{Labels}
use Rattle.line_text.specs.Labels.{allows}

pub positive : (labels : Labels) (n : ℕ) → allows labels n ≡ true → 0 < n
unfolding allows
positive labels n h = grind arith

-- a new label has room in a side of less than seven
pub fits : (labels : Labels) (side : List ℕ) (d n : ℕ) → (allows labels d ≡ true) × (n ≡ d) → has side n ≡ false → length side ≤ 7 → length side ≢ 7 → (0 < n) × (length (with side n) ≤ 7)
fits labels side d n is new few other = (rw is.1 (positive labels d is.0), omega (arith, with_new side n new, other))
