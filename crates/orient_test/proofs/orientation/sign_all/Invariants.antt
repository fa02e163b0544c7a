use Rattle.std.proofs.Common.{◌≡◌, ℕ, List, take}
use Rattle.std.specs.BTreeMap.{get}
use Rattle.complex_core.specs.Labels.{face_cmp}
use Rattle.orient_test.specs.Spreads.{either, given}
use Rattle.orient_test.proofs.orientation.sign_all.Given as goal

abbrev pub invariant-loop-one : goal.invariant-loop-one
invariant-loop-one l = (f : List ℕ) → get face_cmp l.signs f ≡ either (given (take l.one-index l.reached) f) (get face_cmp l.fn.signs f)
