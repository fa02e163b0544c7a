use Rattle.std.proofs.Common.{◌∙◌}
use Rattle.std.proofs.lemmas.List.Filters.{dedup_is}
use Rattle.link_check.proofs.Flagged.{sorted_flags, rising_flags}
use Rattle.link_check.proofs.flags.sort_flags.Goals as goal

pub returns-clause-flags : goal.returns-clause-flags
returns-clause-flags c = dedup_is _ _ _ c.dedup.ensures.filtered ∙ sorted_flags _ _ c.sort_unstable.ensures.permutation c.sort_unstable.ensures.sorted

pub returns-clause-rising : goal.returns-clause-rising
returns-clause-rising c = rising_flags c.args.flags.now.items _ (dedup_is _ _ _ c.dedup.ensures.filtered ∙ sorted_flags _ _ c.sort_unstable.ensures.permutation c.sort_unstable.ensures.sorted)
