-- Words and input determine the answer, and what words alone tell.
use Rattle.std.proofs.Common.{◌≡◌, ℕ, ◌⊎◌, inl, inr, Option, List, sym, ◌∙◌, subst}
use Rattle.flip_io.specs.Outcomes.{AppendsPrefix}
use Rattle.job_answer.specs.Meanings.{Answers, Judges}
use Rattle.job_answer.specs.Statuses.{HasVerdict}
use Rattle.job_answer.proofs.Meanings.{same_answer, not_bad}
use Rattle.job_answer.specs.declared.status.Status.{Status}
use Rattle.job_answer.specs.declared.status.Status.TheVariants.{Yes, No, Undecided, Usage, BadInput}
use Rattle.job_run.specs.Usage.{usage_line}
use Rattle.job_run.specs.Jobs.{IsJob, NamesNoJob, AsksForSearches, TakesNothing, meaning_of, taken_by}
use Rattle.job_run.specs.Answers.{MayEnd, AnswerIsOne, AnswerIsOfJob, IsVerdict, EndsJob, FitsWords, RefusesWords}
use Rattle.job_run.specs.declared.job.Job.{Job}
use Rattle.job_run.specs.declared.job.Job.TheVariants as job
use Rattle.job_run.specs.declared.report.JobReport.{JobReport}
use Rattle.job_run.specs.declared.report.JobReport.TheVariants as report
use Rattle.job_run.proofs.Jobs.{one_job, lawful_of, nothing_of, undecided_job, silent_job}

-- ---- laws

pub answer_is_of_job : AnswerIsOfJob
answer_is_of_job words bytes j s xs p n (inl a) = absurd (a.other j n)
answer_is_of_job words bytes j s xs p n (inr a) = let P : Job → Type 0 = λ i. Answers (meaning_of i) (taken_by i bytes) s xs p in subst P (one_job words a.job j a.named n) a.answer

pub answer_is_one : AnswerIsOne
answer_is_one words bytes s t xs ys p q d (inl a) (inl b) = record { statuses = a.is_usage ∙ sym b.is_usage; texts = a.says ∙ sym b.says; reports = a.reports ∙ sym b.reports }
answer_is_one words bytes s t xs ys p q d (inl a) (inr b) = absurd (a.other b.job b.named)
answer_is_one words bytes s t xs ys p q d (inr a) (inl b) = absurd (b.other a.job a.named)
answer_is_one words bytes s t xs ys p q d (inr a) (inr b) = same_answer (meaning_of a.job) (taken_by a.job bytes) s t xs ys p q (lawful_of a.job) (d a.job a.named) a.answer (answer_is_of_job words bytes a.job t ys q a.named (inr b))

-- ---- what is judged ends as its job does

pub judged_ends : (j : Job) (bytes : List ℕ) (s : Status) (xs : List ℕ) (p : JobReport) → Judges (meaning_of j) bytes s xs p → EndsJob j s p
judged_ends j bytes s xs p (inl a) = inr (record { is_bad = a.refused.is_bad; reports = a.reports ∙ nothing_of j })
judged_ends j bytes s xs p (inr a) = inl (record { ends = (lawful_of j).ends a.told s xs p a.answer; fits = (lawful_of j).fits a.told s xs p a.answer })

-- ---- what words alone tell

no_usage : (s : Status) → HasVerdict s ⊎ (s ≡ BadInput) → s ≡ Usage → ⊥
no_usage s (inl (inl (inl y))) e = let z : Yes ≡ Usage = sym y ∙ e in cc
no_usage s (inl (inl (inr n))) e = let z : No ≡ Usage = sym n ∙ e in cc
no_usage s (inl (inr u)) e = let z : Undecided ≡ Usage = sym u ∙ e in cc
no_usage s (inr b) e = let z : BadInput ≡ Usage = sym b ∙ e in cc

ended : (j : Job) (s : Status) (p : JobReport) → EndsJob j s p → HasVerdict s ⊎ (s ≡ BadInput)
ended j s p (inl d) = inl ((lawful_of j).verdict s d.ends)
ended j s p (inr b) = inr b.is_bad

-- words that ask for no job are refused
pub refused_words : (words : List (List ℕ)) (s : Status) (xs : List ℕ) (p : JobReport) → FitsWords words s xs p → NamesNoJob words → RefusesWords s
refused_words words s xs p (inl a) n = inl a.is_usage
refused_words words s xs p (inr a) n = absurd (n a.job a.named)

-- words that ask for a job are not refused
pub asking_words : (words : List (List ℕ)) (s : Status) (xs : List ℕ) (p : JobReport) → FitsWords words s xs p → (j : Job) → IsJob words j → s ≡ Usage → ⊥
asking_words words s xs p (inl a) j n e = a.other j n
asking_words words s xs p (inr a) j n e = no_usage s (ended a.job s p a.ends) e

verdict_ends : (j : Job) (s : Status) (p : JobReport) → EndsJob j s p → HasVerdict s → IsVerdict j s p
verdict_ends j s p (inl d) v = d
verdict_ends j s p (inr b) v = absurd (not_bad s v b.is_bad)

-- a verdict is one of the job that is asked for, with a report that fits
pub verdict_words : (words : List (List ℕ)) (s : Status) (xs : List ℕ) (p : JobReport) → FitsWords words s xs p → (j : Job) → IsJob words j → HasVerdict s → IsVerdict j s p
verdict_words words s xs p (inl a) j n v = absurd (a.other j n)
verdict_words words s xs p (inr a) j n v = let P : Job → Type 0 = λ i. EndsJob i s p in verdict_ends j s p (subst P (one_job words a.job j a.named n) a.ends) v

end_undecided : (words : List (List ℕ)) (j : Job) (s : Status) (p : JobReport) → IsJob words j → EndsJob j s p → s ≡ Undecided → AsksForSearches words
end_undecided words j s p n (inl d) e = let P : Status → Type 0 = λ t. MayEnd j t in undecided_job words j n (subst P e d.ends)
end_undecided words j s p n (inr b) e = let z : BadInput ≡ Undecided = sym b.is_bad ∙ e in cc

-- Undecided is said to words that ask for searches
pub undecided_words : (words : List (List ℕ)) (s : Status) (xs : List ℕ) (p : JobReport) → FitsWords words s xs p → s ≡ Undecided → AsksForSearches words
undecided_words words s xs p (inl a) e = let z : Usage ≡ Undecided = sym a.is_usage ∙ e in cc
undecided_words words s xs p (inr a) e = end_undecided words a.job s p a.named a.ends e

end_silent : (words : List (List ℕ)) (j : Job) (s : Status) (p : JobReport) → IsJob words j → (IsJob words job.Trace → ⊥) → (AsksForSearches words → ⊥) → EndsJob j s p → p ≡ report.Nothing
end_silent words j s p n t o (inl d) = silent_job words j s p n t o d.fits
end_silent words j s p n t o (inr b) = b.reports

-- other words have no report
pub silent_words : (words : List (List ℕ)) (s : Status) (xs : List ℕ) (p : JobReport) → FitsWords words s xs p → (IsJob words job.Trace → ⊥) → (AsksForSearches words → ⊥) → p ≡ report.Nothing
silent_words words s xs p (inl a) t o = a.reports
silent_words words s xs p (inr a) t o = end_silent words a.job s p a.named t o a.ends

-- what is begun of the answer to words that ask for no job is begun of the usage line
pub begun_usage : (old new : Option (List ℕ)) (words : List (List ℕ)) (s : Status) (xs : List ℕ) (p : JobReport) → FitsWords words s xs p → NamesNoJob words → AppendsPrefix old new xs → AppendsPrefix old new usage_line
begun_usage old new words s xs p (inl a) n w = let P : List ℕ → Type 0 = λ text. AppendsPrefix old new text in subst P a.says w
begun_usage old new words s xs p (inr a) n w = absurd (n a.job a.named)

-- words that ask for no job ask for none that takes an input
pub nothing_taken : (words : List (List ℕ)) → NamesNoJob words → TakesNothing words
nothing_taken words n j asks = absurd (n j asks)
