use Rattle.std.proofs.Common.{◌-◌, IfNone, IfSome, length}
use Rattle.facet_iso.specs.Isomorphisms.{IsLeastMap, NoMap}
use Rattle.round_run.specs.Gates.{Rise}
use Rattle.equal_text.specs.Lists.{told_end}
use Rattle.equal_search.specs.Comparing.{quits_of_both}
use Rattle.equal_search.specs.Pairs.{AreSeeking}
use Rattle.equal_search.proofs.pair.Pair.seek.Given as goal

abbrev pub invariant-legs : goal.invariant-legs
invariant-legs g l = record {
  seeking : AreSeeking l.fn.self.first.input l.fn.self.second.input l.plan l.both.first l.both.second;
  none : IfNone l.found (NoMap (told_end l.both.first) (told_end l.both.second));
  least : IfSome l.found (IsLeastMap (told_end l.both.first) (told_end l.both.second));
  quits : Rise (λ gate. g.G.Gate.quits gate) l.fn.gates l.gates (quits_of_both l.both.first l.both.second);
}

abbrev pub decreases-legs : goal.decreases-legs
decreases-legs g l = l.plan.rounds - length l.both.first.rounds
