use Rattle.std.proofs.Common.{◌≡◌, map, take}
use Rattle.pseudo_test.specs.Incidences.{facet_of}
use Rattle.pseudo_test.specs.Spreads.{Moved}
use Rattle.facet_iso.specs.Walks.{Leads}
use Rattle.facet_iso.proofs.walk.cross.Given as goal

abbrev pub invariant-loop-incidence : goal.invariant-loop-incidence
invariant-loop-incidence l = record {
  moved : Moved (map facet_of (take l.incidence-index l.incidence-items)) l.fn.walk.reached.items l.fn.walk.rest.keys l.walk.reached.items l.walk.rest.keys;
  leads : Leads l.walk.reached.items l.walk.steps.items;
  seen : l.walk.seen ≡ l.initial.walk.seen;
}
