use Rattle.flip_journal.proofs.Kept.{start_is_names}
use Rattle.flip_journal.proofs.names.Names.of_image.Goals as goal

pub invariant_of-result : goal.invariant_of-result
invariant_of-result c = start_is_names c.args.from.now c.args.map.now c.in_ok-back.back c.pairs.result.now c.in_ok-pairs.pairs.items c.in_ok-given.given.items c.pairs.ensures.map c.in_ok-back.ensures c.pairs.ensures.pairs c.in_ok-pairs.ensures.items c.requires c.in_ok-given.ensures
