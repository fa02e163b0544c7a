use Rattle.std.specs.BTreeMap.{get}
use Rattle.complex_core.specs.Labels.{face_cmp}
use Rattle.orient_test.proofs.Trees.{placed_start, none_in}
use Rattle.orient_test.proofs.search.begin.Goals as goal

pub returns-clause-placed : goal.returns-clause-placed
returns-clause-placed c = placed_start c.args.reached.now.items c.push.new.self.items c.args.start (get face_cmp c.args.places.now) (get face_cmp c.insert.new.self) c.requires.reached (none_in c.args.places.now c.requires.places) c.in_ok-push.ensures.items c.in_ok-insert.ensures.updates.0
