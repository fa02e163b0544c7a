use Rattle.std.proofs.Common.{◌≡◌, map, take}
use Rattle.std.specs.Ordering.{nat_cmp}
use Rattle.std.specs.BTreeMap.{get}
use Rattle.facet_iso.specs.Trials.{image_in}
use Rattle.facet_iso.proofs.trial.pairs_of.Given as goal

abbrev pub invariant-loop-label : goal.invariant-loop-label
invariant-loop-label l = l.pairs.items ≡ map (λ x. (x, image_in (get nat_cmp l.images) x)) (take l.label-index l.labels)
