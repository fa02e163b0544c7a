use Rattle.std.proofs.Common.{◌∙◌, sym, ap, fold}
use Rattle.std.proofs.lemmas.List.{drop_all}
use Rattle.anneal_plan.specs.Nearest.{seen, nearest}
use Rattle.anneal_plan.proofs.nearest.Nearest.next.Goals as goal

pub returns-clause-near : goal.returns-clause-near
unfolding nearest
returns-clause-near c =
    sym (c.loop-row.invariant ∙ ap (fold (seen c.args.face.now c.args.vertex c.args.last) c.loop-row.self) (drop_all c.loop-row.row-index c.args.rows.now c.loop-row-test.false))
