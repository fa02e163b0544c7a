use Rattle.std.proofs.Common.{◌≡◌, take, map}
use Rattle.cert_text.specs.Statements.{of_vertex}
use Rattle.cert_replay.proofs.judge.names_vertices.Given as goal

abbrev pub invariant-loop-position : goal.invariant-loop-position
invariant-loop-position l = map (λ v. v.0) (map of_vertex (take l.position l.lists)) ≡ take l.position l.labels.items
