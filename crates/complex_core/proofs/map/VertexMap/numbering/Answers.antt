use Rattle.std.proofs.Common.{◌++◌, ◌∷◌, [], ◌+◌, List, ℕ, get_or, arith, sym, ◌∙◌, ap, subst}
use Rattle.std.proofs.lemmas.List.{take_all}
use Rattle.complex_core.specs.Maps.{IsMap, numbered}
use Rattle.complex_core.proofs.Places.{at_least_place, numbered_map, numbered_next}
use Rattle.complex_core.proofs.map.VertexMap.numbering.Goals as goal

pub overflow_cast-position : goal.overflow_cast-position
overflow_cast-position c = omega (arith, at_least_place 0 c.args.labels.now c.loop-position.position c.requires c.loop-position-test.true, c.type_inv.labels c.loop-position.position)

pub overflow_add-position : goal.overflow_add-position
overflow_add-position c = omega (arith, at_least_place 0 c.args.labels.now c.loop-position.position c.requires c.loop-position-test.true, c.type_inv.labels c.loop-position.position)

pub loop-position-preserved : goal.loop-position-preserved
loop-position-preserved c =
    let i = c.loop-position.position in
    let x = get_or c.args.labels.now i 0 in
    c.in_ok-push.ensures.items ∙ ap (λ ps. ps ++ (i + 1, x) ∷ []) c.loop-position.invariant ∙ sym (numbered_next c.args.labels.now i 0 c.loop-position-test.true)

pub invariant_of-result : goal.invariant_of-result
invariant_of-result c =
    let P : List (ℕ × ℕ) → Type 0 = λ ps. IsMap ps in
    subst P (sym (c.loop-position.invariant ∙ ap (numbered 1) (take_all c.loop-position.position c.args.labels.now (omega arith)))) (numbered_map c.args.labels.now c.requires)
