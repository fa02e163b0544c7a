use Rattle.std.proofs.Common.{take}
use Rattle.link_check.specs.LinkSearches.{all_quits}
use Rattle.round_run.specs.Gates.{Rise}
use Rattle.link_search.specs.Counts.{report_quits}
use Rattle.link_search.proofs.Walking.{Walked}
use Rattle.link_search.proofs.links.search_links.Given as goal

abbrev pub invariant-loop-vertex : goal.invariant-loop-vertex
invariant-loop-vertex g l = record {
  walked : Walked l.complex l.plan (take l.vertex-index l.vertex-items) l.lists.items l.left.items;
  quits : Rise (λ gate. g.G.Gate.quits gate) l.fn.gates l.gates (all_quits report_quits l.left.items);
}
