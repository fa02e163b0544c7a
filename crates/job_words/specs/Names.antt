-- The names of the jobs.
use Rattle.std.specs.Prelude.{ℕ, List, [], ◌∷◌, Option, codes, find}
use Rattle.std.specs.Str.{bytes_eq}
use Rattle.job_words.specs.declared.job.JobName.{JobName}
use Rattle.job_words.specs.declared.job.JobName.TheVariants.{Info, Replay, Trace, Sphere, Equiv, Iso, Manifold, Make, Drill}

-- the bytes of a job's name
abbrev pub job_name : JobName → List ℕ
job_name Info = codes "info"
job_name Replay = codes "replay"
job_name Trace = codes "trace"
job_name Sphere = codes "sphere"
job_name Equiv = codes "equiv"
job_name Iso = codes "iso"
job_name Manifold = codes "manifold"
job_name Make = codes "make"
job_name Drill = codes "drill"

-- all jobs
abbrev pub jobs : List JobName
jobs = Info ∷ Replay ∷ Trace ∷ Sphere ∷ Equiv ∷ Iso ∷ Manifold ∷ Make ∷ Drill ∷ []

-- the job of these bytes, if they are a name
abbrev pub job_named : List ℕ → Option JobName
job_named name = find (λ job. bytes_eq name (job_name job)) jobs
