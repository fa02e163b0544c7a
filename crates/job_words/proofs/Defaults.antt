-- The name of a job alone.
use Rattle.std.proofs.Common.{◌≡◌, ◌∷◌, [], refl}
use Rattle.std.specs.Prelude.{Ok}
use Rattle.clap.proofs.OnLiterals.{clap_on_literals}
use Rattle.anneal_plan.specs.Numbers.{numbers}
use Rattle.make_complex.specs.declared.kind.Kind.TheVariants as kind
use Rattle.job_words.specs.declared.job.Job.{Job}
use Rattle.job_words.specs.declared.job.JobName.{JobName}
use Rattle.job_words.specs.declared.job.JobName.TheVariants.{Info, Replay, Trace, Sphere, Equiv, Iso, Manifold, Make, Drill}
use Rattle.job_words.specs.Command.{is_taken, rows, the_app}
use Rattle.job_words.specs.Jobs.{job_at, job_of, plan_of}
use Rattle.job_words.specs.Names.{job_name}

abbrev plain : JobName → Job
plain job = record { name = job; plan = numbers 1 4 40 200 6 40 2 16; kind = kind.Simplex; dim = 2; draws = 0 }

pub alone : (job : JobName) → job_at (job_name job ∷ []) ≡ Ok (plain job)
unfolding job_at job_of plan_of is_taken rows the_app clap_on_literals
alone Info = refl
alone Replay = refl
alone Trace = refl
alone Sphere = refl
alone Equiv = refl
alone Iso = refl
alone Manifold = refl
alone Make = refl
alone Drill = refl
