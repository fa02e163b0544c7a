use Rattle.std.proofs.Common.{◌∙◌, nat_le}
use Rattle.flip_world.specs.Labels.{lesser}
use Rattle.flip_world.proofs.Labels.{least_label}
use Rattle.flip_world.proofs.judge.stray_label.Goals as goal

pub returns : goal.returns
returns c = least_label (λ p. nat_le p c.args.places) c.args.flip.now _ _ _ c.labels.ensures.face c.labels-2.ensures.face (c.deref.ensures ∙ c.labels.ensures.labels) (c.deref-2.ensures ∙ c.labels-2.ensures.labels)
    (c.lesser.ensures ∙ (λ i. lesser (c.first_stray.ensures i) (c.first_stray-2.ensures i)))
