use Rattle.flip_options.proofs.Descending.{uses_up_to}
use Rattle.flip_options.proofs.descent.greatest_label.Goals as goal

pub returns : goal.returns
returns c = uses_up_to c.args.complex.now _ _ _ c.in_ok-labels.ensures c.deref.ensures.value c.last_label.ensures
