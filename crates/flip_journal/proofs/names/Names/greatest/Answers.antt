use Rattle.std.proofs.Common.{sym}
use Rattle.flip_journal.proofs.Kept.{greatest_label}
use Rattle.flip_journal.proofs.names.Names.greatest.Goals as goal

pub returns-in-Some : goal.returns-in-Some
returns-in-Some c = greatest_label c.deref.result.now c.self.inside.pairs.items c.args.self.now c.in-Some.pair.now c.deref.ensures.value c.self.view_is c.self.invariant.is_map (sym c.in-Some.ensures.value)
