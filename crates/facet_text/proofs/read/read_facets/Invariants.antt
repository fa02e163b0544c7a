use Rattle.std.proofs.Common.{length, ◌-◌, ◌≡◌, ◌≤◌}
use Rattle.facet_text.specs.Tokens.{tokens}
use Rattle.facet_text.specs.Grammar.{ArePure, facet_from}
use Rattle.facet_text.proofs.read.read_facets.Given as goal

abbrev pub invariant-facets : goal.invariant-facets
invariant-facets l = record {
  within : l.offset ≤ length l.bytes;
  forth : l.from ≤ l.offset;
  pure : ArePure l.facets.items;
  same : facet_from (length l.bytes) l.fn.facets.items (tokens l.bytes l.from) ≡ facet_from (length l.bytes) l.facets.items (tokens l.bytes l.offset);
}

abbrev pub decreases-facets : goal.decreases-facets
decreases-facets l = length l.bytes - l.offset
