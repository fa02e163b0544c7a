use Rattle.std.proofs.Common.{rules}
use Rattle.equal_search.proofs.Finding.{can_opened, found_if}
use Rattle.equal_search.proofs.Seeking.{compared_first, seeking_here}
use Rattle.equal_search.proofs.search.search_equal.Goals as goal

pub compare-requires-clause-first : goal.compare-requires-clause-first
compare-requires-clause-first g c = can_opened _ _ _ c.facets.ensures.complex c.requires.first.fit c.in_ok-both.ensures.first

pub compare-requires-clause-second : goal.compare-requires-clause-second
compare-requires-clause-second g c = can_opened _ _ _ c.facets-2.ensures.complex c.requires.second.fit c.in_ok-both.ensures.second

pub equal-requires-clause-first : goal.equal-requires-clause-first
equal-requires-clause-first g c = can_opened _ _ _ c.facets.ensures.complex c.requires.first.fit c.in_ok-both.ensures.first

pub equal-requires-clause-second : goal.equal-requires-clause-second
equal-requires-clause-second g c = can_opened _ _ _ c.facets-2.ensures.complex c.requires.second.fit c.in_ok-both.ensures.second

pub seek-requires-clause-seeking : goal.seek-requires-clause-seeking
seek-requires-clause-seeking g c κs within = seeking_here _ _ _ _ _ _ _ c.facets.ensures.complex c.facets-2.ensures.complex c.requires.first.fit c.requires.second.fit c.in_ok-both.ensures.first c.in_ok-both.ensures.second (search rules) (search rules) (search rules)

pub returns-in-Some-clause-found : goal.returns-in-Some-clause-found
returns-in-Some-clause-found g c = found_if _ _ _ _ _ c.in-Some.between _ (search rules) (compared_first _ _ _ _ _ c.facets.ensures.complex c.facets-2.ensures.complex c.in_ok-both.ensures.first c.in_ok-both.ensures.second) c.equal.ensures
