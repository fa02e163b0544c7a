use Rattle.std.proofs.Common.{refl}
use Rattle.job_replay.specs.Answers as replay
use Rattle.job_info.specs.Answers as info
use Rattle.job_iso.specs.Answers as iso
use Rattle.job_make.specs.Answers as make
use Rattle.job_run.specs.declared.job.Job.TheVariants as job
use Rattle.job_run.proofs.Judged.{made_judged, silent_judged}
use Rattle.job_run.proofs.run.judge.Goals as goal

pub returns-in_ok-replay_input-in-Replay-clause-judged : goal.returns-in_ok-replay_input-in-Replay-clause-judged
returns-in_ok-replay_input-in-Replay-clause-judged g c = silent_judged replay.meaning c.args.job job.Replay c.args.bytes.now _ _ _ _ _ c.in-Replay.is refl c.silent.ensures.status c.silent.ensures.text c.silent.ensures.report c.in_ok-replay_input-in-Replay.ensures

pub returns-in_ok-info-in-Info-clause-judged : goal.returns-in_ok-info-in-Info-clause-judged
returns-in_ok-info-in-Info-clause-judged g c = silent_judged info.meaning c.args.job job.Info c.args.bytes.now _ _ _ _ _ c.in-Info.is refl c.silent-in-Info.ensures.status c.silent-in-Info.ensures.text c.silent-in-Info.ensures.report c.in_ok-info-in-Info.ensures

pub returns-in_ok-iso-in-Iso-clause-judged : goal.returns-in_ok-iso-in-Iso-clause-judged
returns-in_ok-iso-in-Iso-clause-judged g c = silent_judged iso.meaning c.args.job job.Iso c.args.bytes.now _ _ _ _ _ c.in-Iso.is refl c.silent-in-Iso.ensures.status c.silent-in-Iso.ensures.text c.silent-in-Iso.ensures.report c.in_ok-iso-in-Iso.ensures

pub returns-in_ok-say_made-in-Make-clause-judged :
    goal.returns-in_ok-say_made-in-Make-clause-judged
returns-in_ok-say_made-in-Make-clause-judged g c = made_judged (make.meaning c.in-Make.recipe) c.args.job (job.Make c.in-Make.recipe) c.args.bytes.now _ _ _ _ _ c.requires.short c.in-Make.is refl refl c.silent-in-Make.ensures.status c.silent-in-Make.ensures.text c.silent-in-Make.ensures.report c.in_ok-say_made-in-Make.ensures
