use Rattle.round_run.proofs.Counts.{rise_none, rise_less, rise_more, rise_given_up}
use Rattle.round_run.proofs.Searching.{seeking_first, seeking_stands, seeking_on, sphere_found, elsewhere_by, undecided, not_spent, fewer_left}
use Rattle.round_run.proofs.search.search_sphere.Goals as goal

pub legs-init : goal.legs-init
legs-init g c = record { seeking = seeking_first _ _ _ _ c.in_ok-open.ensures c.in_ok-report.ensures; quits = rise_none _ _ _ c.in_ok-report.ensures.rounds }

pub returns-then-is_spent-clause-found : goal.returns-then-is_spent-clause-found
returns-then-is_spent-clause-found g c = undecided _ _ _ c.legs.invariant.seeking (elsewhere_by _ _ c.is_sphere.ensures c.legs-test.true) (c.is_spent.ensures.spent.0 c.if-is_spent.true)

pub returns-then-is_spent-clause-quits : goal.returns-then-is_spent-clause-quits
returns-then-is_spent-clause-quits g c = c.legs.invariant.quits

pub returns-then-is_spent-clause-later : goal.returns-then-is_spent-clause-later
returns-then-is_spent-clause-later g c = rise_less _ _ _ _ c.legs.invariant.quits

pub advance-requires-clause-stands : goal.advance-requires-clause-stands
advance-requires-clause-stands g c κs within = seeking_stands _ _ _ c.legs.invariant.seeking

pub advance-requires-clause-left : goal.advance-requires-clause-left
advance-requires-clause-left g c κs within = (not_spent _ _ _ _ _ c.legs.invariant.seeking.stands c.is_spent.ensures.spent c.if-is_spent.false, c.is_spent.ensures.limit)

pub returns-in_err-report-2-clause-later : goal.returns-in_err-report-2-clause-later
returns-in_err-report-2-clause-later g c = rise_given_up _ _ _ _ _ c.legs.invariant.quits c.advance.ensures.later

pub legs-smaller : goal.legs-smaller
legs-smaller g c = fewer_left _ _ _ _ _ _ (seeking_on _ _ _ _ c.legs.invariant.seeking (elsewhere_by _ _ c.is_sphere.ensures c.legs-test.true) c.in_ok-report-2.ensures.stands).stands c.in_ok-report-2.ensures.round.rounds

pub legs-preserved : goal.legs-preserved
legs-preserved g c = record {
  seeking = seeking_on _ _ _ _ c.legs.invariant.seeking (elsewhere_by _ _ c.is_sphere.ensures c.legs-test.true) c.in_ok-report-2.ensures.stands;
  quits = rise_more _ _ _ _ _ _ c.legs.invariant.quits c.in_ok-report-2.ensures.round;
}

pub returns-clause-found : goal.returns-clause-found
returns-clause-found g c = sphere_found _ _ _ _ c.legs.invariant.seeking c.is_sphere.ensures c.legs-test.false

pub returns-clause-quits : goal.returns-clause-quits
returns-clause-quits g c = c.legs.invariant.quits

pub returns-clause-later : goal.returns-clause-later
returns-clause-later g c = rise_less _ _ _ _ c.legs.invariant.quits
