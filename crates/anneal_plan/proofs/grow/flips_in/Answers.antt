use Rattle.std.proofs.Common.{◌∙◌, ap, arith}
use Rattle.complex_core.specs.Labels.{with}
use Rattle.anneal_plan.proofs.Stepping.{unwrapped, all_few, all_paged}
use Rattle.anneal_plan.proofs.grow.flips_in.Goals as goal

pub grow-requires-clause-few : goal.grow-requires-clause-few
grow-requires-clause-few c =
    omega (
      arith,
      all_few c.args.centre.dim c.args.centre.vertex c.args.others c.args.from c.args.rows.now c.unwrap-face.result c.new-page.result c.requires.rows
          (unwrapped _ _ _ _ c.unwrap-face.ensures c.with.ensures ∙ ap (λ f. with f c.args.centre.vertex) c.new.ensures) c.new-page.ensures,
    )

pub returns : goal.returns
returns c =
    all_paged c.args.centre.dim c.args.centre.vertex c.args.others c.args.from c.args.rows.now c.unwrap-face.result c.new-page.result _ c.requires.rows
    (unwrapped _ _ _ _ c.unwrap-face.ensures c.with.ensures ∙ ap (λ f. with f c.args.centre.vertex) c.new.ensures) c.new-page.ensures c.grow.ensures
