use Rattle.std.proofs.Common.{length, ◌-◌, ◌≡◌, ◌≤◌, []}
use Rattle.facet_text.specs.Tokens.{tokens}
use Rattle.facet_text.specs.Grammar.{ArePure, label_from}
use Rattle.facet_text.proofs.read.read_facet.Given as goal

abbrev pub invariant-labels : goal.invariant-labels
invariant-labels l = record {
  within : l.offset ≤ length l.bytes;
  forth : l.from ≤ l.offset;
  pure : ArePure l.facets.items;
  same : label_from (length l.bytes) l.start [] l.fn.facets.items (tokens l.bytes l.from) ≡ label_from (length l.bytes) l.start l.labels l.facets.items (tokens l.bytes l.offset);
}

abbrev pub decreases-labels : goal.decreases-labels
decreases-labels l = length l.bytes - l.offset
