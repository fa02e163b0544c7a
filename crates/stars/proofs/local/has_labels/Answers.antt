use Rattle.stars.proofs.Asking.{labels_both, labels_first}
use Rattle.stars.proofs.local.has_labels.Goals as goal

pub returns-then-has_stars : goal.returns-then-has_stars
returns-then-has_stars c = labels_both c.args.near.now c.args.flip.now c.has_stars.result c.has_stars-then-has_stars.result c.has_stars.ensures c.has_stars-then-has_stars.ensures c.if-has_stars.true

pub returns-else-has_stars : goal.returns-else-has_stars
returns-else-has_stars c = labels_first c.args.near.now c.args.flip.now c.has_stars.result c.has_stars.ensures c.if-has_stars.false
