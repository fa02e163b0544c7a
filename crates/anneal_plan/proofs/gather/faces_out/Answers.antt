use Rattle.std.proofs.Common.{◌∙◌}
use Rattle.complex_core.specs.Labels.{with}
use Rattle.anneal_plan.proofs.Finding.{star_over, out_of_star}
use Rattle.anneal_plan.proofs.Stepping.{unwrapped}
use Rattle.anneal_plan.proofs.gather.faces_out.Goals as goal

pub gather-requires-clause-over : goal.gather-requires-clause-over
gather-requires-clause-over c = star_over c.args.star.now.star _ _ c.dim.ensures.star c.rows.ensures.rows (unwrapped _ _ _ _ c.unwrap-face.ensures c.with.ensures ∙ (λ i. with (c.new.ensures i) (c.vertex.ensures.vertex i)))

pub returns : goal.returns
returns c =
    out_of_star c.args.star.now.star c.vertex.result c.dim.result c.args.others c.rows.result.now c.unwrap-face.result c.new-all.result.items c.gather.new.all.items c.dim.ensures.star c.vertex.ensures.vertex c.dim.ensures.dim c.rows.ensures.rows
    (unwrapped _ _ _ _ c.unwrap-face.ensures c.with.ensures ∙ (λ i. with (c.new.ensures i) (c.vertex.ensures.vertex i))) c.new-all.ensures.items c.in_ok-gather.ensures
