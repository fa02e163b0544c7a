use Rattle.std.proofs.Common.{◌≡◌, ◌+◌, length}
use Rattle.vertex_claims.specs.Passes.{IsMainOf, handed, main_knows}
use Rattle.round_run.specs.Reports.{scene}
use Rattle.round_run.specs.Crews.{AreNew}
use Rattle.round_run.proofs.starting.hire_all.Given as goal

abbrev pub invariant-loop : goal.invariant-loop
invariant-loop l = record {
  main : IsMainOf l.main l.board;
  handed_are : handed l.main ≡ l.counter;
  back : length (main_knows l.main).back ≡ l.counter + 1;
  count : length l.workers.items ≡ l.counter;
  workers : AreNew (scene l.start l.places l.round l.plan) l.board 1 l.workers.items;
}
