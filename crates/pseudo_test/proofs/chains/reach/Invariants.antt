use Rattle.std.proofs.Common.{map, take}
use Rattle.pseudo_test.specs.Incidences.{facet_of}
use Rattle.pseudo_test.specs.Spreads.{Moved}
use Rattle.pseudo_test.proofs.chains.reach.Given as goal

abbrev pub invariant-loop-incidence : goal.invariant-loop-incidence
invariant-loop-incidence l = Moved (map facet_of (take l.incidence-index l.run)) l.fn.reached.items l.fn.rest.keys l.reached.items l.rest.keys
