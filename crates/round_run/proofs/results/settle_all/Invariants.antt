use Rattle.std.proofs.Common.{◌≡◌, ◌+◌, length, map}
use Rattle.vertex_claims.specs.Passes.{IsMainOf, main_knows}
use Rattle.round_run.specs.Crews.{AreSettled}
use Rattle.round_run.proofs.results.settle_all.Given as goal

abbrev pub invariant-loop-worker : goal.invariant-loop-worker
invariant-loop-worker l = record {
  can : (goal.iterator-loop-worker).can_next l.worker-iterator;
  finite : (goal.iterator-loop-worker).is_finite l.worker-iterator;
  main : IsMainOf l.main l.board;
  back : length (main_knows l.main).back ≡ length l.fn.workers.items + 1;
  settled : AreSettled l.board (main_knows l.main) 1 l.yielded l.marks.items (map (λ v. v.items) l.tries.items);
}
