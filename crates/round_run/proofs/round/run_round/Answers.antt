use Rattle.std.proofs.Common.{◌∙◌}
use Rattle.round_run.specs.Reports.{scene}
use Rattle.round_run.proofs.Ran.{all_ready, ran_all, ran_length}
use Rattle.round_run.proofs.Rises.{rise_if, later_ran}
use Rattle.round_run.proofs.Settling.{all_back}
use Rattle.round_run.proofs.Closing.{right_if, fits_if}
use Rattle.round_run.proofs.round.run_round.Goals as goal

pub run_all-workers-requires-clause-ready : goal.run_all-workers-requires-clause-ready
run_all-workers-requires-clause-ready g c κs within = all_ready _ _ 1 _ c.in_ok-workers.ensures.workers

pub settle_all-requires-clause-done : goal.settle_all-requires-clause-done
settle_all-requires-clause-done g c = (_, ran_all (scene c.args.start.now c.args.places c.args.round c.args.plan.now) _ _ c.in_ok-board.ensures.told _ 1 _ _ _ _ c.in_ok-workers.ensures.workers c.run_all-workers.ensures.ran)

pub returns-in_err-accounts-clause-later : goal.returns-in_err-accounts-clause-later
returns-in_err-accounts-clause-later g c = later_ran _ _ _ _ _ _ c.run_all-workers.ensures.ran

pub close_round-requires-clause-back : goal.close_round-requires-clause-back
close_round-requires-clause-back g c = all_back _ _ _ _ _ c.in_ok-accounts.ensures.back c.in_ok-accounts.ensures.settled

pub returns-clause-round : goal.returns-clause-round
returns-clause-round g c =
    let told = c.in_ok-board.ensures.told in
    let hired = c.in_ok-workers.ensures in
    let left = c.in_ok-accounts.ensures in
    let made = c.close_round.ensures in
    let count = ran_length _ _ _ _ _ _ c.run_all-workers.ensures.ran ∙ hired.count in
    right_if (scene c.args.start.now c.args.places c.args.round c.args.plan.now) _ _ told c.in_ok-board.board.complex _ _ _ _ _ left.back count (ran_all _ _ _ told _ 1 _ _ _ _ hired.workers c.run_all-workers.ensures.ran) left.settled made.closed made.round made.accounts

pub returns-clause-end : goal.returns-clause-end
returns-clause-end g c = fits_if _ _ _ _ _ c.in_ok-board.ensures.told.start_is c.in_ok-board.ensures.told.places_are c.close_round.ensures.closed

pub returns-clause-quits : goal.returns-clause-quits
returns-clause-quits g c = rise_if _ _ _ _ _ _ _ _ _ _ c.run_all-workers.ensures.ran c.in_ok-accounts.ensures.settled c.close_round.ensures.accounts

pub returns-clause-later : goal.returns-clause-later
returns-clause-later g c = later_ran _ _ _ _ _ _ c.run_all-workers.ensures.ran
