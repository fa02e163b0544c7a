use Rattle.std.proofs.Common.{arith, rules}
use Rattle.flip_journal.proofs.Kept.{name_fits, names_are_rising}
use Rattle.flip_journal.proofs.names.Names.new_name.Goals as goal

pub gap-requires : goal.gap-requires
gap-requires c = names_are_rising c.deref.result.now c.self.inside.pairs.items c.self.inside.given.items c.deref.ensures.value c.self.invariant

pub overflow_cast-result : goal.overflow_cast-result
overflow_cast-result c = omega (arith, name_fits c.deref.result.now c.self.inside.pairs.items c.args.self.now c.self.inside.given.items c.args.label c.gap.result c.greatest.result c.deref.ensures.value c.self.view_is c.self.invariant c.requires.low (omega (arith, c.ranges.label)) c.requires.new (search rules) c.greatest.ensures c.gap.ensures.few)
