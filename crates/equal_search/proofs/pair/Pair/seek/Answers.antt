use Rattle.facet_iso.specs.Isomorphisms.{NoMap}
use Rattle.equal_text.specs.Lists.{told_end}
use Rattle.equal_search.proofs.Counts.{both_more, later}
use Rattle.equal_search.proofs.Finding.{found_if, least_of, when_none}
use Rattle.equal_search.proofs.Seeking.{can_first, can_second, compared, seeking_on, undecided}
use Rattle.round_run.proofs.Counts.{rise_less}
use Rattle.equal_search.proofs.pair.Pair.seek.Goals as goal

pub compare-requires-clause-first : goal.compare-requires-clause-first
compare-requires-clause-first g c = can_first _ _ _ _ _ c.requires.seeking

pub compare-requires-clause-second : goal.compare-requires-clause-second
compare-requires-clause-second g c = can_second _ _ _ _ _ c.requires.seeking

pub returns-then-is_spent-clause-found : goal.returns-then-is_spent-clause-found
returns-then-is_spent-clause-found g c = undecided _ _ _ _ _ c.legs.invariant.seeking (when_none (NoMap (told_end c.legs.both.first) (told_end c.legs.both.second)) c.legs.found c.is_none.result c.legs.invariant.none c.is_none.ensures c.legs-test.true) (c.is_spent.ensures.spent.0 c.if-is_spent.true)

pub returns-then-is_spent-clause-later : goal.returns-then-is_spent-clause-later
returns-then-is_spent-clause-later g c = rise_less _ _ _ _ c.legs.invariant.quits

pub returns-in_err-both-clause-later : goal.returns-in_err-both-clause-later
returns-in_err-both-clause-later g c = later _ _ _ _ _ c.legs.invariant.quits c.advance.ensures.later

pub compare-requires-in-legs-clause-first : goal.compare-requires-in-legs-clause-first
compare-requires-in-legs-clause-first g c = can_first _ _ _ _ _ (seeking_on _ _ _ _ _ _ _ _ _ c.legs.invariant.seeking (when_none (NoMap (told_end c.legs.both.first) (told_end c.legs.both.second)) c.legs.found c.is_none.result c.legs.invariant.none c.is_none.ensures c.legs-test.true) c.in_ok-both.ensures.first c.in_ok-both.ensures.second c.in_ok-both.ensures.rounds.first_rounds c.in_ok-both.ensures.rounds.second_rounds)

pub compare-requires-in-legs-clause-second : goal.compare-requires-in-legs-clause-second
compare-requires-in-legs-clause-second g c = can_second _ _ _ _ _ (seeking_on _ _ _ _ _ _ _ _ _ c.legs.invariant.seeking (when_none (NoMap (told_end c.legs.both.first) (told_end c.legs.both.second)) c.legs.found c.is_none.result c.legs.invariant.none c.is_none.ensures c.legs-test.true) c.in_ok-both.ensures.first c.in_ok-both.ensures.second c.in_ok-both.ensures.rounds.first_rounds c.in_ok-both.ensures.rounds.second_rounds)

pub returns-in_err-found-2-clause-later : goal.returns-in_err-found-2-clause-later
returns-in_err-found-2-clause-later g c = later _ _ _ _ _ c.legs.invariant.quits c.advance.ensures.later

pub legs-preserved : goal.legs-preserved
legs-preserved g c = record {
  seeking = seeking_on _ _ _ _ _ _ _ _ _ c.legs.invariant.seeking (when_none (NoMap (told_end c.legs.both.first) (told_end c.legs.both.second)) c.legs.found c.is_none.result c.legs.invariant.none c.is_none.ensures c.legs-test.true) c.in_ok-both.ensures.first c.in_ok-both.ensures.second c.in_ok-both.ensures.rounds.first_rounds c.in_ok-both.ensures.rounds.second_rounds;
  none = c.in_ok-found-2.ensures.none;
  least = c.in_ok-found-2.ensures.least;
  quits = both_more _ _ _ _ _ _ _ _ c.legs.invariant.quits c.in_ok-both.ensures.rounds;
}

pub equal-requires-clause-first : goal.equal-requires-clause-first
equal-requires-clause-first g c = can_first _ _ _ _ _ c.legs.invariant.seeking

pub equal-requires-clause-second : goal.equal-requires-clause-second
equal-requires-clause-second g c = can_second _ _ _ _ _ c.legs.invariant.seeking

pub returns-clause-found : goal.returns-clause-found
returns-clause-found g c = found_if _ _ _ c.legs.both.first c.legs.both.second c.in-Some.between _ (least_of c.legs.found c.in-Some.between c.legs.both.first c.legs.both.second c.legs.invariant.least c.in-Some.is) (compared _ _ _ c.legs.both.first c.legs.both.second c.legs.invariant.seeking) c.equal.ensures

pub returns-clause-later : goal.returns-clause-later
returns-clause-later g c = rise_less _ _ _ _ c.legs.invariant.quits
