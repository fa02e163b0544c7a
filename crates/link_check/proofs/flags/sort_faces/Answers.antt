use Rattle.std.proofs.Common.{◌∙◌}
use Rattle.std.proofs.lemmas.List.Filters.{dedup_is}
use Rattle.complex_core.proofs.Sorting.{sorted_sets}
use Rattle.link_check.proofs.flags.sort_faces.Goals as goal

pub returns : goal.returns
returns c = dedup_is _ _ _ c.dedup.ensures.filtered ∙ sorted_sets _ _ c.sort_unstable.ensures.permutation c.sort_unstable.ensures.sorted
