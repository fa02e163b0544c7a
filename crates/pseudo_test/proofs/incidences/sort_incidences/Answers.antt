use Rattle.std.proofs.Common.{◌∙◌}
use Rattle.std.proofs.lemmas.List.Filters.{dedup_is}
use Rattle.pseudo_test.proofs.Incident.{sorted_incidences, rising_incidences}
use Rattle.pseudo_test.proofs.incidences.sort_incidences.Goals as goal

pub returns-clause-incidences : goal.returns-clause-incidences
returns-clause-incidences c = dedup_is _ _ _ c.dedup.ensures.filtered ∙ sorted_incidences _ _ c.sort_unstable.ensures.permutation c.sort_unstable.ensures.sorted

pub returns-clause-rising : goal.returns-clause-rising
returns-clause-rising c = rising_incidences c.args.incidences.now.items _ (dedup_is _ _ _ c.dedup.ensures.filtered ∙ sorted_incidences _ _ c.sort_unstable.ensures.permutation c.sort_unstable.ensures.sorted)
