use Rattle.spec_worker.proofs.CountedTries.{none_made, one_made, has_room}
use Rattle.search_checks.proofs.sample.commit.Goals as goal

pub loop-init : goal.loop-init
loop-init c = none_made c.args.worker.now c.args.board.now c.requires.works

pub attempt-requires-clause-room : goal.attempt-requires-clause-room
attempt-requires-clause-room c = has_room _ _ _ _ _ c.loop.invariant c.loop-test.true c.requires.marks c.requires.answers

pub loop-preserved : goal.loop-preserved
loop-preserved c =
    let e = c.attempt.ensures in
    one_made _ _ _ _ _ _ _ _ c.loop.invariant (record { works = e.works; same = e.same; answers = e.answers; own = e.own })
