use Rattle.std.proofs.Common.{◌∙◌}
use Rattle.std.proofs.lemmas.List.Filters.{dedup_is}
use Rattle.complex_core.proofs.Pairs.{sorted_pairs}
use Rattle.complex_core.proofs.map.sort_pairs.Goals as goal

pub returns : goal.returns
returns c = dedup_is _ _ _ c.dedup.ensures.filtered ∙ sorted_pairs _ _ c.sort_unstable.ensures.permutation c.sort_unstable.ensures.sorted
