use Rattle.std.proofs.Common.{sym, ◌∙◌, ap, not, nat_eq, arith}
use Rattle.std.specs.Ordering.{nat_cmp}
use Rattle.complex_core.specs.Labels.{has}
use Rattle.complex_core.proofs.Sets.{above_head}
use Rattle.complex_core.proofs.Laws.{above_not}
use Rattle.complex_core.proofs.Lanes.{any_lane}
use Rattle.complex_core.proofs.face.Face.contains.Goals as goal

pub returns-then-label-ne0 : goal.returns-then-label-ne0
returns-then-label-ne0 c = any_lane c.lanes-lanes.result c.args.label c.lanes-lanes.ensures.eight ∙ c.lanes-lanes.ensures.lanes c.args.label (omega (arith, c.if-label-ne0.true))

pub returns-else-label-ne0 : goal.returns-else-label-ne0
returns-else-label-ne0 c =
    ap (λ x. not (nat_eq x 0)) c.if-label-ne0.false ∙ sym (above_not 0 c.args.self.now (above_head nat_cmp 0 c.args.self.now c.lanes-lanes.ensures.face.rising)) ∙ ap (has c.args.self.now) (sym c.if-label-ne0.false)
