-- The same where the bytes may be unknown.
use Rattle.std.proofs.Common.{◌≡◌, ℕ, ◌⊎◌, ◌+◌, inl, inr, Option, Some, None, List, length, length-append, sym, ap, subst, arith}
use Rattle.std.specs.Prelude.{IfSome}
use Rattle.std.specs.Io.KnownBytes.{Appends}
use Rattle.flip_io.specs.Outcomes.{AppendsPrefix, TakesCount}
use Rattle.flip_io.specs.declared.whole.ReadAllFault.{ReadAllFault}
use Rattle.flip_io.specs.declared.whole.ReadAllFault.TheVariants.{TooLong}
use Rattle.job_answer.specs.Faults.{Refuses}
use Rattle.job_answer.specs.declared.fault.Fault.TheVariants as fault
use Rattle.job_answer.specs.Meanings.{Answers, Judges, Meaning}
use Rattle.job_answer.specs.Statuses.{HasVerdict}
use Rattle.job_answer.proofs.Meanings.{input_ends, verdict_headline}
use Rattle.job_answer.specs.declared.status.Status.{Status}
use Rattle.job_answer.specs.declared.status.Status.TheVariants.{NoMemory}
use Rattle.job_run.specs.Jobs.{FailsUpTo, IsJob, TakesUpTo, input_limit, meaning_of, taken_by}
use Rattle.job_run.specs.Answers.{IsAnswer, IsInput, MayEnd, Headline, Answered, BegunWith}
use Rattle.job_run.specs.declared.job.Job.{Job}
use Rattle.job_run.specs.declared.job.Job.TheVariants as job
use Rattle.job_run.specs.declared.report.JobReport.{JobReport}
use Rattle.job_run.specs.declared.report.JobReport.TheVariants as report
use Rattle.job_run.proofs.Jobs.{input_short, input_taken, lawful_of}
use Rattle.job_run.proofs.Answering.{answer_is_of_job}

-- the answer to what the job took of the bytes is the job's
pub found_in_all : (old new : Option (List ℕ)) (j : Job) (bs shown : List ℕ) (s : Status) (xs : List ℕ) (p : JobReport) → TakesUpTo (input_limit j) old new bs → shown ≡ bs → Judges (meaning_of j) shown s xs p → IfSome old (λ bytes. Answers (meaning_of j) (taken_by j bytes) s xs p)
found_in_all old new j bs shown s xs p t e h = known old (input_taken old new j bs t)
  where
    known : (old : Option (List ℕ)) → IfSome old (λ bytes. bs ≡ taken_by j bytes) → IfSome old (λ bytes. Answers (meaning_of j) (taken_by j bytes) s xs p)
    known None is = tt
    known (Some bytes) is =
        let P : List ℕ → Type 0 = λ b. Answers (meaning_of j) b s xs p in
        let Q : List ℕ → Type 0 = λ b. Judges (meaning_of j) b s xs p in
        subst P is (inr (record { short = input_short old new j bs t; judged = subst Q e h }))

-- more bytes were left than an input of the job may have
too_many : (m : Meaning JobReport) (old new : Option (List ℕ)) (s : Status) (xs : List ℕ) (p : JobReport) → TakesCount old new (m.limit + 1) → Refuses fault.TooLong s xs → p ≡ m.nothing → IfSome old (λ bytes. Answers m bytes s xs p)
too_many m None new s xs p t r e = tt
too_many m (Some bytes) None s xs p t r e = absurd t.2
too_many m (Some bytes) (Some rest) s xs p t r e = inl (record { long = omega (arith, t.1, ap length t.2, length-append t.0 rest); refused = r; reports = e })

long_of : (old new : Option (List ℕ)) (j : Job) (s : Status) (xs : List ℕ) (p : JobReport) (before now n : ℕ) → FailsUpTo (input_limit j) before now old new (TooLong n) → Refuses fault.TooLong s xs → p ≡ report.Nothing → IfSome old (λ bytes. Answers (meaning_of j) (taken_by j bytes) s xs p)
long_of old new job.Replay s xs p before now n h r e = too_many (meaning_of job.Replay) old new s xs p h.1 r e
long_of old new job.Trace s xs p before now n h r e = too_many (meaning_of job.Trace) old new s xs p h.1 r e
long_of old new job.Info s xs p before now n h r e = too_many (meaning_of job.Info) old new s xs p h.1 r e
long_of old new job.Iso s xs p before now n h r e = too_many (meaning_of job.Iso) old new s xs p h.1 r e
long_of old new (job.Sphere plan) s xs p before now n h r e = too_many (meaning_of (job.Sphere plan)) old new s xs p h.1 r e
long_of old new (job.Equiv plan) s xs p before now n h r e = too_many (meaning_of (job.Equiv plan)) old new s xs p h.1 r e
long_of old new (job.Manifold plan) s xs p before now n h r e = too_many (meaning_of (job.Manifold plan)) old new s xs p h.1 r e
long_of old new (job.Make of) s xs p before now n h r e = absurd h
long_of old new (job.Drill plan of) s xs p before now n h r e = absurd h

-- also where limit, fault and answer are known by equations
pub found_too_long : (old new : Option (List ℕ)) (j : Job) (limit : Option ℕ) (failed : ReadAllFault) (s t : Status) (xs ys : List ℕ) (p : JobReport) (before now n : ℕ) → limit ≡ input_limit j → failed ≡ TooLong n → FailsUpTo limit before now old new failed → s ≡ t → xs ≡ ys → Refuses fault.TooLong t ys → p ≡ report.Nothing → IfSome old (λ bytes. Answers (meaning_of j) (taken_by j bytes) s xs p)
found_too_long old new j limit failed s t xs ys p before now n l f h es ex r e =
    let P : Option ℕ → Type 0 = λ x. FailsUpTo x before now old new (TooLong n) in
    let Q : ReadAllFault → Type 0 = λ x. FailsUpTo limit before now old new x in
    let S : Status → Type 0 = λ x. Refuses fault.TooLong x xs in
    let T : List ℕ → Type 0 = λ x. Refuses fault.TooLong t x in
    long_of old new j s xs p before now n (subst P l (subst Q f h)) (subst S (sym es) (subst T (sym ex) r)) e

-- the answer of the job that words ask for is their answer
pub found_is_answer : (known : Option (List ℕ)) (words : List (List ℕ)) (j : Job) (s : Status) (xs : List ℕ) (p : JobReport) → IsJob words j → IfSome known (λ bytes. Answers (meaning_of j) (taken_by j bytes) s xs p) → IfSome known (λ bytes. IsAnswer words bytes s xs p)
found_is_answer None words j s xs p n h = tt
found_is_answer (Some bytes) words j s xs p n h = inr (record { job = j; named = n; answer = h })

-- what was appended is the answer
pub answer_is_known : (known old new : Option (List ℕ)) (words : List (List ℕ)) (s : Status) (xs : List ℕ) (p : JobReport) → IfSome known (λ bytes. IsAnswer words bytes s xs p) → Appends old new xs → IfSome known (λ bytes. Answered old new (λ text. IsAnswer words bytes s text p))
answer_is_known None old new words s xs p h w = tt
answer_is_known (Some bytes) old new words s xs p h w = (xs, h, w)

-- what was begun is the answer
pub begun_is_known : (known old new : Option (List ℕ)) (words : List (List ℕ)) (s : Status) (xs : List ℕ) (p : JobReport) → IfSome known (λ bytes. IsAnswer words bytes s xs p) → AppendsPrefix old new xs → IfSome known (λ bytes. BegunWith old new (λ status text. IsAnswer words bytes status text p))
begun_is_known None old new words s xs p h w = tt
begun_is_known (Some bytes) old new words s xs p h w = record { status = s; text = xs; answers = h; begun = w }

-- a verdict that was appended has the headline of its job
pub headline_is_known : (known old new : Option (List ℕ)) (words : List (List ℕ)) (j : Job) (s : Status) (xs : List ℕ) (p : JobReport) → IfSome known (λ bytes. IsAnswer words bytes s xs p) → Appends old new xs → IsJob words j → HasVerdict s → IfSome known (λ bytes. Answered old new (λ text. Headline j bytes s text p))
headline_is_known None old new words j s xs p h w n v = tt
headline_is_known (Some bytes) old new words j s xs p h w n v = (xs, verdict_headline (meaning_of j) (taken_by j bytes) s xs p (lawful_of j) v (answer_is_of_job words bytes j s xs p n h), w)

-- an input of the job that words ask for gets a verdict of this job
pub complete_is_known : (known : Option (List ℕ)) (words : List (List ℕ)) (j : Job) (s : Status) (xs : List ℕ) (p : JobReport) → IfSome known (λ bytes. IsAnswer words bytes s xs p) → IsJob words j → IfSome known (λ bytes. IsInput j bytes → MayEnd j s ⊎ (s ≡ NoMemory))
complete_is_known None words j s xs p h n = tt
complete_is_known (Some bytes) words j s xs p h n = λ t. inl (input_ends (meaning_of j) (taken_by j bytes) s xs p (lawful_of j) t (answer_is_of_job words bytes j s xs p n h))
