use Rattle.std.proofs.Common.{rules}
use Rattle.equal_search.proofs.Told.{other_numbers}
use Rattle.equal_search.proofs.pair.Pair.compare.Goals as goal

pub returns-then-facets-clause-none : goal.returns-then-facets-clause-none
returns-then-facets-clause-none c = other_numbers c.args.self.now.first c.args.self.now.second c.requires.first c.requires.second (search rules)
