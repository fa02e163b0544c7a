use Rattle.std.proofs.Common.{◌∙◌, sym}
use Rattle.cert_replay.proofs.VertexLists.{named_at}
use Rattle.cert_replay.proofs.judge.names_vertices.Goals as goal

pub returns-then-list-index : goal.returns-then-list-index
returns-then-list-index c = (λ t. cc, λ e. absurd (c.if-list-index.true (named_at c.args.lists.now c.in_ok-labels.labels.items c.loop-position.position c.index.result.now c.index-lists-position.result (e ∙ sym c.in_ok-labels.ensures) c.loop-position-test.true c.index-lists-position.is c.index.ensures)))
