use Rattle.std.proofs.Common.{refl, arith, rules}
use Rattle.held_stars.proofs.Gates.{follows_self, follows_both}
use Rattle.spec_worker.proofs.Hearing.{none_heard, one_heard}
use Rattle.spec_worker.proofs.WholeRuns.{IsDraw, stream_in, begins, equal_runs, first_draw, drawn_words, told_phase, next_draw, goes_on, last_quits, no_quits}
use Rattle.spec_worker.proofs.worker.Worker.run.Goals as goal

pub loop-t-init : goal.loop-t-init
loop-t-init g c =
    let fresh = c.requires.fresh in (
      begins c.args.self.now _ c.args.board.now (record { pass = refl; plan = refl; round_is = refl; live = refl; free = refl; answers = refl }) c.requires.works fresh.0 fresh.1 fresh.2,
      first_draw c.args.self.now c.stream-stream.result c.worker.result (search rules) (search rules),
      omega arith,
      follows_self _ _ (none_heard _ _ fresh.1 fresh.0),
    )

pub loop-t-preserved : goal.loop-t-preserved
loop-t-preserved g c =
    let run = c.loop-t.invariant.0 in
    let drawn = c.loop-t.invariant.1 in
    let start = stream_in c.args.self.now in
    let is_draw : IsDraw c.args.self.now c.loop-t.t c.draw-words.result c.phase-phase.result = record {
      words_are = drawn_words start c.loop-t.stream c.loop-t.t c.draw-words.result drawn (search rules);
      phase_is = told_phase _ _ _ _ run.same.plan (search rules);
    } in (
      goes_on c.args.self.now _ _ c.args.board.now c.loop-t.t c.draw-words.result c.phase-phase.result c.attempt-answer.result
          (equal_runs c.args.self.now _ _ c.args.board.now c.loop-t.t (record { pass = refl; plan = refl; round_is = refl; live = refl; free = refl; answers = refl }) run)
          is_draw
          (record { works = c.attempt-answer.ensures.works; same = c.attempt-answer.ensures.same; answers = c.attempt-answer.ensures.answers; own = c.attempt-answer.ensures.own })
          (c.is_last.ensures.goes_on c.if-is_last.false),
      next_draw start c.loop-t.stream c.draw-words.new.words c.loop-t.t drawn c.draw-words.ensures.after,
      omega (arith, c.loop-t.invariant.2, c.attempt-answer.ensures.later),
      follows_both _ _ _ _ _ _ c.loop-t.invariant.3 c.attempt-answer.ensures.heard (one_heard _ _ _ _ _ _ _ c.attempt-answer.ensures.answers),
    )

pub returns-then-is_last-clause-quits : goal.returns-then-is_last-clause-quits
returns-then-is_last-clause-quits g c =
    last_quits _ _ c.attempt-answer.result _ _ _ c.loop-t.invariant.0.calm c.attempt-answer.ensures.answers c.loop-t.invariant.2 c.attempt-answer.ensures.later c.attempt-answer.ensures.quit (c.is_last.ensures.last c.if-is_last.true)

pub returns-clause-quits : goal.returns-clause-quits
returns-clause-quits g c = no_quits _ _ _ c.loop-t.invariant.0.calm c.loop-t.invariant.2

pub returns-then-is_last-clause-heard : goal.returns-then-is_last-clause-heard
returns-then-is_last-clause-heard g c =
    follows_both _ _ _ _ _ _ c.loop-t.invariant.3 c.attempt-answer.ensures.heard (one_heard _ _ _ _ _ _ _ c.attempt-answer.ensures.answers)

pub returns-clause-heard : goal.returns-clause-heard
returns-clause-heard g c = c.loop-t.invariant.3
