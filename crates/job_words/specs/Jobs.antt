-- The job that words ask for.
use Rattle.std.specs.Prelude.{◌≡◌, ◌≢◌, ◌<◌, ◌≤◌, ◌==◌, ◌⊎◌, ◌||◌, ℕ, Bool, true, false, not, List, Option, Some, None, Result, Ok, Err, codes, if◌then◌else◌, nat_lt}
use Rattle.clap.specs.Words.{Row, Text}
use Rattle.anneal_plan.specs.Numbers.{Numbers, all_tries, numbers}
use Rattle.make_complex.specs.declared.kind.Kind.{Kind}
use Rattle.make_complex.specs.Kinds.{is_surface, kind_name, kind_named}
use Rattle.job_words.specs.declared.job.Job.{Job}
use Rattle.job_words.specs.declared.job.JobName.{JobName}
use Rattle.job_words.specs.declared.job.UsageFault.{UsageFault}
use Rattle.job_words.specs.declared.job.UsageFault.TheVariants.{Words, Name, Product, KindDim, Memory}
use Rattle.job_words.specs.Command.{is_taken, number_in, rows, text_in}
use Rattle.job_words.specs.Names.{job_name, job_named}

-- the numbers of the search that was asked for
unfoldable pub plan_of : List Row → Numbers
plan_of found = numbers
    (number_in found (codes "seed"))
    (number_in found (codes "workers"))
    (number_in found (codes "rounds"))
    (number_in found (codes "tries"))
    (number_in found (codes "heat"))
    (number_in found (codes "relax"))
    (number_in found (codes "depth"))
    (number_in found (codes "room"))

-- the plan, unless its product is too great
abbrev pub planned : Numbers → Result Numbers UsageFault
planned n = if nat_lt 250000 (all_tries n) then Err Product else Ok n

-- a surface has dimension 2
abbrev pub can_have : Kind → ℕ → Bool
can_have kind dim = not (is_surface kind) || dim == 2

-- the job of these parts, or the first of its faults
abbrev pub job_with : Option JobName → Option Kind → Result Numbers UsageFault → ℕ → ℕ → Result Job UsageFault
job_with None kind plan dim draws = Err Name
job_with (Some name) None plan dim draws = Err Name
job_with (Some name) (Some kind) (Err fault) dim draws = Err fault
job_with (Some name) (Some kind) (Ok plan) dim draws =
    if not (can_have kind dim) then Err KindDim
    else Ok (record { name = name; plan = plan; kind = kind; dim = dim; draws = draws })

-- the job of what the command found
unfoldable pub job_of : List Row → Result Job UsageFault
job_of found = job_with (job_named (text_in found (codes "job"))) (kind_named (text_in found (codes "kind")))
    (planned (plan_of found)) (number_in found (codes "dim")) (number_in found (codes "draws"))

-- The job of the words, or the first of its faults.
unfoldable pub job_at : List Text → Result Job UsageFault
job_at words = if is_taken words then job_of (rows words) else Err Words

-- an answer is this one, unless memory ran out
abbrev pub Gives : Result Job UsageFault → Result Job UsageFault → Type 0
Gives result answer = (result ≡ Err Memory) ⊎ (result ≡ answer)

-- the job has the parts that were found, and keeps what is asked of them together
pub record IsJob (found : List Row) (job : Job) : Type 0 where
  pub name : text_in found (codes "job") ≡ job_name job.name
  pub kind : text_in found (codes "kind") ≡ kind_name job.kind
  pub plan : job.plan ≡ plan_of found
  pub dim : job.dim ≡ number_in found (codes "dim")
  pub draws : job.draws ≡ number_in found (codes "draws")
  pub product : all_tries job.plan ≤ 250000
  pub surface : is_surface job.kind ≡ true → job.dim ≡ 2

-- there is no such job, or no such kind
abbrev pub NamesNone : List Row → Type 0
NamesNone found = ((job : JobName) → text_in found (codes "job") ≢ job_name job)
    ⊎ ((kind : Kind) → text_in found (codes "kind") ≢ kind_name kind)

-- the words name a job and a kind
pub record NamesBoth (found : List Row) : Type 0 where
  pub job : JobName
  pub job_is : text_in found (codes "job") ≡ job_name job
  pub kind : Kind
  pub kind_is : text_in found (codes "kind") ≡ kind_name kind

-- job and kind are named, and all tries together are above the limit
pub record HasTooManyTries (found : List Row) : Type 0 where
  pub names : NamesBoth found
  pub product : 250000 < all_tries (plan_of found)

-- job, kind and tries are well, and the kind is a surface whose dimension isn't 2
pub record HasOtherDim (found : List Row) : Type 0 where
  pub names : NamesBoth found
  pub product : all_tries (plan_of found) ≤ 250000
  pub surface : is_surface names.kind ≡ true
  pub dim : number_in found (codes "dim") ≢ 2

-- why words that the command takes name no job
abbrev pub IsUnfit : List Row → UsageFault → Type 0
IsUnfit found Name = NamesNone found
IsUnfit found Product = HasTooManyTries found
IsUnfit found KindDim = HasOtherDim found
IsUnfit found _ = ⊥

-- What words ask for, by what is so of them at each answer.
abbrev pub Asks : List Text → Result Job UsageFault → Type 0
Asks words (Ok job) = (is_taken words ≡ true) × IsJob (rows words) job
Asks words (Err Words) = is_taken words ≡ false
Asks words (Err fault) = (is_taken words ≡ true) × IsUnfit (rows words) fault
