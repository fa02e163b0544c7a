use Rattle.flip_options.proofs.Descending.{descending_more, descends_end, shows_end, cycle_end}
use Rattle.flip_options.proofs.descent.descend.Goals as goal

pub make-requires : goal.make-requires
make-requires c = (c.loop-flip.invariant.now, c.loop-flip.invariant.held, (c.in-Some.ensures.best c.loop-flip.invariant.now c.loop-flip.invariant.held.had).reduces)

pub loop-flip-preserved : goal.loop-flip-preserved
loop-flip-preserved c = descending_more _ _ _ _ _ _ _ _ c.loop-flip.invariant (c.in-Some.ensures.best c.loop-flip.invariant.now c.loop-flip.invariant.held.had) c.in_ok-push.ensures.items c.in_ok-make.ensures

pub returns-clause-descent : goal.returns-clause-descent
returns-clause-descent c = descends_end _ _ _ _ _ c.loop-flip.invariant (c.in_default.ensures.best c.loop-flip.invariant.now c.loop-flip.invariant.held.had) c.in_ok-end.ensures

pub returns-clause-shows : goal.returns-clause-shows
returns-clause-shows c = shows_end _ _ _ (returns-clause-descent c)

pub returns-clause-cycle : goal.returns-clause-cycle
returns-clause-cycle c = cycle_end _ _ _ (returns-clause-descent c)
