use Rattle.std.proofs.Common.{◌≡◌, ◌++◌, map}
use Rattle.cert_replay.specs.Rows.{Row}
use Rattle.cert_replay.proofs.facet_set.all_facets.Given as goal

abbrev pub invariant-loop-row : goal.invariant-loop-row
invariant-loop-row l = l.facets.items ++ map (λ (r : Row). r.1) l.row-iterator ≡ map (λ (r : Row). r.1) l.rows.keys
