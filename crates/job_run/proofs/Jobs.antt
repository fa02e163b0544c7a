-- Words ask for one job, and each job is lawful.
use Rattle.std.proofs.Common.{◌≡◌, ℕ, ◌≤◌, true, false, inl, inr, List, [], ◌++◌, append-nil, length, Option, Some, None, Result, Ok, sym, ◌∙◌, ap, refl, subst, arith}
use Rattle.std.specs.Prelude.{IfSome}
use Rattle.std.specs.Io.KnownBytes.{IsAtEnd}
use Rattle.flip_io.specs.Outcomes.{TakesAll}
use Rattle.job_words.specs.Jobs.{job_at}
use Rattle.job_words.specs.declared.job.Job.{Job as Asked}
use Rattle.job_words.specs.declared.job.UsageFault.{UsageFault}
use Rattle.job_answer.specs.Meanings.{Lawful}
use Rattle.job_answer.proofs.Meanings.{lawful_as}
use Rattle.job_answer.specs.declared.status.Status.{Status}
use Rattle.job_answer.specs.declared.status.Status.TheVariants.{Yes, No, Undecided}
use Rattle.job_replay.specs.Answers as replay
use Rattle.job_trace.specs.Answers as trace
use Rattle.job_info.specs.Answers as info
use Rattle.job_iso.specs.Answers as iso
use Rattle.job_sphere.specs.Answers as sphere
use Rattle.job_equiv.specs.Answers as equiv
use Rattle.job_manifold.specs.Answers as manifold
use Rattle.job_make.specs.Answers as make
use Rattle.job_drill.specs.Answers as drill
use Rattle.job_replay.proofs.Laws as replay_laws
use Rattle.job_trace.proofs.Laws as trace_laws
use Rattle.job_info.proofs.Laws as info_laws
use Rattle.job_iso.proofs.Laws as iso_laws
use Rattle.job_sphere.proofs.Laws as sphere_laws
use Rattle.job_equiv.proofs.Laws as equiv_laws
use Rattle.job_manifold.proofs.Laws as manifold_laws
use Rattle.job_make.proofs.Laws as make_laws
use Rattle.job_drill.proofs.Laws as drill_laws
use Rattle.job_run.specs.Jobs.{IsJob, AsksForSearches, TakesUpTo, input_limit, job_of, limit_of, of_equal, of_links, of_nothing, of_sphere, of_trace, meaning_of, taken_by, takes_input}
use Rattle.job_run.specs.Answers.{MayEnd, FitsJob}
use Rattle.job_run.specs.declared.job.Job.{Job}
use Rattle.job_run.specs.declared.job.Job.TheVariants as job
use Rattle.job_run.specs.declared.report.JobReport.{JobReport}
use Rattle.job_run.specs.declared.report.JobReport.TheVariants as report

-- ---- one job

one_asked : (r : Result Asked UsageFault) (a b : Asked) → r ≡ Ok a → r ≡ Ok b → a ≡ b
one_asked r a b e g = cc

-- words ask for one job
pub one_job : (words : List (List ℕ)) (i j : Job) → IsJob words i → IsJob words j → i ≡ j
one_job words i j a b =
    let P : Asked → Type 0 = λ x. job_of x ≡ i in
    sym (subst P (one_asked (job_at words) a.asked b.asked a.asks b.asks) a.is) ∙ b.is

-- ---- its laws: one line for each job

pub lawful_of : (j : Job) → Lawful (meaning_of j)
lawful_of job.Replay = lawful_as of_nothing replay.meaning replay_laws.lawful
lawful_of job.Trace = lawful_as of_trace trace.meaning trace_laws.lawful
lawful_of job.Info = lawful_as of_nothing info.meaning info_laws.lawful
lawful_of job.Iso = lawful_as of_nothing iso.meaning iso_laws.lawful
lawful_of (job.Sphere plan) = lawful_as of_sphere (sphere.meaning plan) (sphere_laws.lawful plan)
lawful_of (job.Equiv plan) = lawful_as of_equal (equiv.meaning plan) (equiv_laws.lawful plan)
lawful_of (job.Manifold plan) = lawful_as of_links (manifold.meaning plan) (manifold_laws.lawful plan)
lawful_of (job.Make of) = lawful_as of_nothing (make.meaning of) (make_laws.lawful of)
lawful_of (job.Drill plan of) = lawful_as of_sphere (drill.meaning of plan) (drill_laws.lawful of plan)

-- where nothing is found nothing is reported
pub nothing_of : (j : Job) → (meaning_of j).nothing ≡ report.Nothing
nothing_of job.Replay = refl
nothing_of job.Trace = refl
nothing_of job.Info = refl
nothing_of job.Iso = refl
nothing_of (job.Sphere plan) = refl
nothing_of (job.Equiv plan) = refl
nothing_of (job.Manifold plan) = refl
nothing_of (job.Make of) = refl
nothing_of (job.Drill plan of) = refl

-- ---- who may say Undecided, and who reports

not_yes : Yes ≡ Undecided → ⊥
not_yes e = cc

not_no : No ≡ Undecided → ⊥
not_no e = cc

-- Undecided is said by jobs that make searches alone
pub undecided_job : (words : List (List ℕ)) (j : Job) → IsJob words j → MayEnd j Undecided → AsksForSearches words
undecided_job words job.Replay n d = absurd (never d)
  where
    never : MayEnd job.Replay Undecided → ⊥
    never (inl y) = not_yes (sym y)
    never (inr m) = not_no (sym m)
undecided_job words job.Trace n d = absurd (never d)
  where
    never : MayEnd job.Trace Undecided → ⊥
    never (inl y) = not_yes (sym y)
    never (inr m) = not_no (sym m)
undecided_job words job.Info n d = absurd (not_yes (sym d))
undecided_job words job.Iso n d = absurd (never d)
  where
    never : MayEnd job.Iso Undecided → ⊥
    never (inl y) = not_yes (sym y)
    never (inr m) = not_no (sym m)
undecided_job words (job.Sphere plan) n d = record { job = job.Sphere plan; named = n; searches = tt }
undecided_job words (job.Equiv plan) n d = record { job = job.Equiv plan; named = n; searches = tt }
undecided_job words (job.Manifold plan) n d = record { job = job.Manifold plan; named = n; searches = tt }
undecided_job words (job.Make of) n d = absurd (not_yes (sym d))
undecided_job words (job.Drill plan of) n d = record { job = job.Drill plan of; named = n; searches = tt }

-- a job that is not `trace` and makes no searches reports nothing
pub silent_job : (words : List (List ℕ)) (j : Job) (s : Status) (p : JobReport) → IsJob words j → (IsJob words job.Trace → ⊥) → (AsksForSearches words → ⊥) → FitsJob j s p → p ≡ report.Nothing
silent_job words job.Replay s p n t o f = f.reports
silent_job words job.Trace s p n t o f = absurd (t n)
silent_job words job.Info s p n t o f = f.reports
silent_job words job.Iso s p n t o f = f.reports
silent_job words (job.Sphere plan) s p n t o f = absurd (o (record { job = job.Sphere plan; named = n; searches = tt }))
silent_job words (job.Equiv plan) s p n t o f = absurd (o (record { job = job.Equiv plan; named = n; searches = tt }))
silent_job words (job.Manifold plan) s p n t o f = absurd (o (record { job = job.Manifold plan; named = n; searches = tt }))
silent_job words (job.Make of) s p n t o f = f.reports
silent_job words (job.Drill plan of) s p n t o f = absurd (o (record { job = job.Drill plan of; named = n; searches = tt }))

-- ---- what a job takes of an input

-- all bytes that were left, or none
all_of : (old new : Option (List ℕ)) (bs : List ℕ) → TakesAll old new bs → IfSome old (λ bytes. bs ≡ bytes)
all_of None new bs t = tt
all_of (Some bytes) None bs t = absurd t.taken
all_of (Some bytes) (Some rest) bs t = sym (t.taken ∙ ap (λ ys. bs ++ ys) t.ended ∙ append-nil bs)

none_of : (old : Option (List ℕ)) (bs : List ℕ) → bs ≡ [] → IfSome old (λ bytes. bs ≡ [])
none_of None bs e = tt
none_of (Some bytes) bs e = e

pub input_taken : (old new : Option (List ℕ)) (j : Job) (bs : List ℕ) → TakesUpTo (input_limit j) old new bs → IfSome old (λ bytes. bs ≡ taken_by j bytes)
input_taken old new job.Replay bs t = all_of old new bs t.0
input_taken old new job.Trace bs t = all_of old new bs t.0
input_taken old new job.Info bs t = all_of old new bs t.0
input_taken old new job.Iso bs t = all_of old new bs t.0
input_taken old new (job.Sphere plan) bs t = all_of old new bs t.0
input_taken old new (job.Equiv plan) bs t = all_of old new bs t.0
input_taken old new (job.Manifold plan) bs t = all_of old new bs t.0
input_taken old new (job.Make of) bs t = none_of old bs t
input_taken old new (job.Drill plan of) bs t = none_of old bs t

-- no more than it may have
pub input_short : (old new : Option (List ℕ)) (j : Job) (bs : List ℕ) → TakesUpTo (input_limit j) old new bs → length bs ≤ limit_of j
input_short old new job.Replay bs t = t.1
input_short old new job.Trace bs t = t.1
input_short old new job.Info bs t = t.1
input_short old new job.Iso bs t = t.1
input_short old new (job.Sphere plan) bs t = t.1
input_short old new (job.Equiv plan) bs t = t.1
input_short old new (job.Manifold plan) bs t = t.1
input_short old new (job.Make of) bs t = omega (arith, ap length t)
input_short old new (job.Drill plan of) bs t = omega (arith, ap length t)

-- and where it takes an input nothing of it is left
no_input : false ≡ true → ⊥
no_input e = cc

pub input_ended : (old new : Option (List ℕ)) (j : Job) (bs : List ℕ) → takes_input j ≡ true → TakesUpTo (input_limit j) old new bs → IsAtEnd new
input_ended old new job.Replay bs h t = t.0.ended
input_ended old new job.Trace bs h t = t.0.ended
input_ended old new job.Info bs h t = t.0.ended
input_ended old new job.Iso bs h t = t.0.ended
input_ended old new (job.Sphere plan) bs h t = t.0.ended
input_ended old new (job.Equiv plan) bs h t = t.0.ended
input_ended old new (job.Manifold plan) bs h t = t.0.ended
input_ended old new (job.Make of) bs h t = absurd (no_input h)
input_ended old new (job.Drill plan of) bs h t = absurd (no_input h)

-- a job that takes no input has no limit
an_input : true ≡ false → ⊥
an_input e = cc

pub no_limit : (j : Job) → takes_input j ≡ false → input_limit j ≡ None
no_limit job.Replay h = absurd (an_input h)
no_limit job.Trace h = absurd (an_input h)
no_limit job.Info h = absurd (an_input h)
no_limit job.Iso h = absurd (an_input h)
no_limit (job.Sphere plan) h = absurd (an_input h)
no_limit (job.Equiv plan) h = absurd (an_input h)
no_limit (job.Manifold plan) h = absurd (an_input h)
no_limit (job.Make of) h = refl
no_limit (job.Drill plan of) h = refl
