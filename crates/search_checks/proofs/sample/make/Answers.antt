use Rattle.spec_worker.proofs.CountedTries.{none_made, one_made, has_room}
use Rattle.search_checks.proofs.sample.make.Goals as goal

pub loop-told-init : goal.loop-told-init
loop-told-init g c = none_made c.args.worker.now c.args.board.now c.requires.works

pub attempt-requires-clause-room : goal.attempt-requires-clause-room
attempt-requires-clause-room g c = has_room _ _ _ _ _ c.loop-told.invariant c.loop-told-test.true c.requires.marks c.requires.answers

pub loop-told-preserved : goal.loop-told-preserved
loop-told-preserved g c =
    let e = c.attempt.ensures in
    one_made _ _ _ _ _ _ _ _ c.loop-told.invariant (record { works = e.works; same = e.same; answers = e.answers; own = e.own })
