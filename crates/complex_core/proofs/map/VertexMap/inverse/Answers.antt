use Rattle.std.proofs.Common.{List, ℕ, sym, ◌∙◌, ap, subst}
use Rattle.complex_core.specs.Maps.{ArePositive, Differ, turned}
use Rattle.complex_core.proofs.Pairs.{positive_turned, differ_turned}
use Rattle.complex_core.proofs.map.VertexMap.inverse.Goals as goal

pub sorted-requires-clause-positive : goal.sorted-requires-clause-positive
sorted-requires-clause-positive c =
    let P : List (ℕ × ℕ) → Type 0 = λ ps. ArePositive ps in
    subst P (sym (c.in_ok-pairs.ensures ∙ ap turned c.deref.ensures.value)) (positive_turned c.self.inside.pairs.items c.self.invariant.positive)

pub sorted-requires-clause-differ : goal.sorted-requires-clause-differ
sorted-requires-clause-differ c =
    let P : List (ℕ × ℕ) → Type 0 = λ ps. Differ ps in
    subst P (sym (c.in_ok-pairs.ensures ∙ ap turned c.deref.ensures.value)) (differ_turned c.self.inside.pairs.items c.self.invariant.differ)
