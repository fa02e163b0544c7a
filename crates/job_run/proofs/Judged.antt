-- What a job answers, seen as the answer of any job.
use Rattle.std.proofs.Common.{◌≡◌, ℕ, ◌≤◌, List, [], ◌∷◌, length, Option, Some, Result, Ok, Err, IfOk, sym, ◌∙◌, ap, refl, subst, arith}
use Rattle.round_run.specs.Gates.{Rise, all_quits_at}
use Rattle.round_run.specs.Reports.{ReportView}
use Rattle.job_answer.specs.Meanings.{Meaning, Judges, reported_as}
use Rattle.job_answer.proofs.Meanings.{judges_as}
use Rattle.job_answer.specs.declared.status.Status.{Status}
use Rattle.equal_search.specs.Comparing.{quits_of_both}
use Rattle.job_sphere.specs.Decisions.{quits_of}
use Rattle.job_equiv.specs.Answers.{Reports, quits_of as quits_of_pair}
use Rattle.job_manifold.specs.Answers.{Records, quits_of as quits_of_links}
use Rattle.link_check.specs.LinkSearches.{all_quits}
use Rattle.job_run.specs.Jobs.{limit_of, of_nothing, of_sphere, meaning_of}
use Rattle.job_run.specs.declared.job.Job.{Job}
use Rattle.job_run.specs.declared.report.Prepared.{Prepared}
use Rattle.job_run.specs.declared.report.JobReport.{JobReport}
use Rattle.job_run.specs.declared.report.JobReport.TheVariants as report

-- of a job that reports nothing
pub silent_judged : (m : Meaning (Unit {0})) (j i : Job) (bytes : List ℕ) (s t : Status) (xs ys : List ℕ) (p : JobReport) → j ≡ i → meaning_of i ≡ reported_as of_nothing m → s ≡ t → xs ≡ ys → p ≡ report.Nothing → Judges m bytes t ys tt → Judges (meaning_of j) bytes s xs p
silent_judged m j i bytes s t xs ys p ej em es ex ep h =
    let P : Meaning JobReport → Type 0 = λ n. Judges n bytes s xs p in
    let Q : Status → Type 0 = λ u. Judges (reported_as of_nothing m) bytes u xs p in
    let R : List ℕ → Type 0 = λ zs. Judges (reported_as of_nothing m) bytes t zs p in
    let S : JobReport → Type 0 = λ q. Judges (reported_as of_nothing m) bytes t ys q in
    subst P (sym (ap meaning_of ej ∙ em)) (subst Q (sym es) (subst R (sym ex) (subst S (sym ep) (judges_as of_nothing m bytes t ys tt h))))

-- the quits of the searches that are reported
pub quits_some : {A : Type 0} (count : A → ℕ) (was now : List A) (found : Option ReportView) (r : ReportView) → found ≡ Some r → Rise count was now (quits_of found) → Rise count was now (all_quits_at r.rounds)
quits_some count was now found r e h = let P : Option ReportView → Type 0 = λ f. Rise count was now (quits_of f) in subst P e h

pub quits_both : {A : Type 0} (count : A → ℕ) (was now : List A) (found : Option Reports) (r s : ReportView) → found ≡ Some (r, s) → Rise count was now (quits_of_pair found) → Rise count was now (quits_of_both r s)
quits_both count was now found r s e h = let P : Option Reports → Type 0 = λ f. Rise count was now (quits_of_pair f) in subst P e h

pub quits_links : {A : Type 0} (count : A → ℕ) (was now : List A) (found : Option Records) (left : Records) → found ≡ Some left → Rise count was now (quits_of_links found) → Rise count was now (all_quits (λ r. all_quits_at r.rounds) left.items)
quits_links count was now found left e h = let P : Option Records → Type 0 = λ f. Rise count was now (quits_of_links f) in subst P e h

-- where a search is reported
pub search_reported : (m : Meaning (Option ReportView)) (bytes : List ℕ) (s : Status) (xs : List ℕ) (found : Option ReportView) (r : ReportView) → found ≡ Some r → Judges m bytes s xs found → Judges (reported_as of_sphere m) bytes s xs (report.Sphere r)
search_reported m bytes s xs found r e h = let P : JobReport → Type 0 = λ p. Judges (reported_as of_sphere m) bytes s xs p in subst P (ap of_sphere e) (judges_as of_sphere m bytes s xs found h)

-- a job that may have no byte has none
none_there : (j i : Job) (bytes : List ℕ) → j ≡ i → limit_of i ≡ 0 → length bytes ≤ limit_of j → bytes ≡ []
none_there j i [] e z short = refl
none_there j i (b ∷ bytes) e z short = absurd (omega (arith, short, ap limit_of e, z))

-- of a job that takes no input
pub made_judged : (m : Meaning (Unit {0})) (j i : Job) (bytes : List ℕ) (s t : Status) (xs ys : List ℕ) (p : JobReport) → length bytes ≤ limit_of j → j ≡ i → limit_of i ≡ 0 → meaning_of i ≡ reported_as of_nothing m → s ≡ t → xs ≡ ys → p ≡ report.Nothing → Judges m [] t ys tt → Judges (meaning_of j) bytes s xs p
made_judged m j i bytes s t xs ys p short ej z em es ex ep h = let P : List ℕ → Type 0 = λ b. Judges (meaning_of j) b s xs p in subst P (sym (none_there j i bytes ej z short)) (silent_judged m j i [] s t xs ys p ej em es ex ep h)

pub drill_judged : {E : Type 0} (j i : Job) (bytes : List ℕ) (result : Result Prepared E) → length bytes ≤ limit_of j → j ≡ i → limit_of i ≡ 0 → IfOk result (λ a. Judges (meaning_of i) [] a.status a.text.items a.report) → IfOk result (λ a. Judges (meaning_of j) bytes a.status a.text.items a.report)
drill_judged j i bytes (Ok a) short e z h =
    let P : List ℕ → Type 0 = λ b. Judges (meaning_of j) b a.status a.text.items a.report in
    let Q : Job → Type 0 = λ x. Judges (meaning_of x) [] a.status a.text.items a.report in
    subst P (sym (none_there j i bytes e z short)) (subst Q (sym e) h)
drill_judged j i bytes (Err o) short e z h = tt
