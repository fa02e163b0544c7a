use Rattle.std.proofs.Common.{rules, ◌∙◌, ◌+◌, ◌*◌}
use Rattle.make_complex.proofs.Faces.{few_of_each}
use Rattle.make_complex.proofs.named.cross.Goals as goal

pub add_to_each-requires-clause-few : goal.add_to_each-requires-clause-few
add_to_each-requires-clause-few c = few_of_each (2 * c.args.dim + 3) c.loop-pair.pair c.deref.result.now (c.deref.ensures.value ∙ c.loop-pair.invariant) (search rules)

pub add_to_each-requires-in-loop-pair-clause-few : goal.add_to_each-requires-in-loop-pair-clause-few
add_to_each-requires-in-loop-pair-clause-few c = few_of_each (2 * c.args.dim + 3) c.loop-pair.pair _ (search rules) (search rules)
