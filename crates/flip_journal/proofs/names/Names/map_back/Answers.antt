use Rattle.std.proofs.Common.{rules}
use Rattle.flip_journal.proofs.Kept.{never_twice, positive_shown}
use Rattle.flip_journal.proofs.names.Names.map_back.Goals as goal

pub from_pairs-requires : goal.from_pairs-requires
from_pairs-requires c = positive_shown c.deref-2.result.now c.in_ok-turned.turned.items c.deref.result.now c.self.inside.pairs.items c.deref-2.ensures.value c.in_ok-turned.ensures c.deref.ensures.value c.self.invariant.is_map

pub unreachable-requires : goal.unreachable-requires
unreachable-requires c = never_twice c.deref-2.result.now c.in_ok-turned.turned.items c.deref.result.now c.self.inside.pairs.items c.in-Err-Twice.field-0-0 c.deref-2.ensures.value c.in_ok-turned.ensures c.deref.ensures.value c.self.invariant.is_map (search rules)
