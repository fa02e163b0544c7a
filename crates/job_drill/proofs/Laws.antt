-- The laws of the job `drill`.
use Rattle.std.proofs.Common.{◌≡◌, ℕ, List, inl, inr, length, Option, Some, None, sym, ◌∙◌, ap, subst}
use Rattle.anneal_plan.specs.Numbers.{Numbers}
use Rattle.flip_laws.specs.Obstacles.{NeverReaches}
use Rattle.round_run.specs.Reports.{ReportView, IsSphere}
use Rattle.round_run.specs.declared.search.SphereFound.{SphereFound}
use Rattle.round_run.specs.declared.search.SphereFound.TheVariants as found
use Rattle.job_answer.specs.Meanings.{IsDone, Lawful, Same}
use Rattle.job_answer.proofs.Meanings.{verdict_done}
use Rattle.job_answer.specs.declared.status.Status.{Status}
use Rattle.job_answer.specs.declared.status.Status.TheVariants.{Yes, No, Undecided}
use Rattle.job_make.specs.Recipes.{Recipe, made}
use Rattle.search_lines.specs.Ends.{MayEnd}
use Rattle.search_lines.proofs.Ends.{end_verdict, fits_no, fits_undecided, fits_yes, search_verdict}
use Rattle.job_sphere.specs.Answers.{FitsSphere, ReportsSphere, ReportsSpent}
use Rattle.job_sphere.specs.Decisions.{Decides, report_in, status_of}
use Rattle.job_sphere.specs.declared.decision.Decision.{Decision}
use Rattle.job_sphere.specs.declared.decision.Decision.TheVariants.{Excluded, Searched}
use Rattle.job_sphere.proofs.Ends.{one_found, own_sphere, own_spent}
use Rattle.job_sphere.proofs.Obstructed.{no_obstacle}
use Rattle.job_drill.specs.Answers.{TellsSearch, alone, meaning}
use Rattle.job_drill.specs.Laws.{NoIsSound, TellsSphere, VerdictTellsSearch, YesReaches}
use Rattle.job_drill.specs.Texts.{summary}

-- ---- how it ends, and what is reported

ends_so : (d : Decision) (s : Status) → s ≡ status_of d → MayEnd s
ends_so (Excluded o) s e = inl e
ends_so (Searched (found.Sphere r)) s e = inr (inl e)
ends_so (Searched (found.Undecided r)) s e = inr (inr e)

fits_so : (r : Recipe) (plan : Numbers) (d : Decision) (s : Status) (p : Option ReportView) → Decides (made r) (alone plan) d → s ≡ status_of d → p ≡ report_in d → FitsSphere (alone plan) s p
fits_so r plan (Excluded o) s p h e g = fits_no None (ReportsSphere (alone plan)) (ReportsSpent (alone plan)) s p e g
fits_so r plan (Searched (found.Sphere q)) s p h e g = fits_yes None (ReportsSphere (alone plan)) (ReportsSpent (alone plan)) s p e (record { report = q; reports = g; sphere = own_sphere (made r) (alone plan) q h.1 })
fits_so r plan (Searched (found.Undecided q)) s p h e g = fits_undecided None (ReportsSphere (alone plan)) (ReportsSpent (alone plan)) s p e (record { report = q; reports = g; spent = own_spent (made r) (alone plan) q h.1 })

-- ---- one answer where no round is made

same_drilled : (r : Recipe) (plan : Numbers) (d e : Decision) (s t : Status) (xs ys : List ℕ) (p q : Option ReportView) → plan.rounds ≡ 0 → Decides (made r) (alone plan) d → Decides (made r) (alone plan) e → s ≡ status_of d → t ≡ status_of e → xs ≡ summary (length (made r).facets) d → ys ≡ summary (length (made r).facets) e → p ≡ report_in d → q ≡ report_in e → Same s t xs ys p q
same_drilled r plan (Excluded o) (Excluded u) s t xs ys p q z h g a b c f i j = record { statuses = a ∙ sym b; texts = c ∙ sym f; reports = i ∙ sym j }
same_drilled r plan (Excluded o) (Searched u) s t xs ys p q z h g a b c f i j = absurd (no_obstacle (made r) o g.0 h.0)
same_drilled r plan (Searched o) (Excluded u) s t xs ys p q z h g a b c f i j = absurd (no_obstacle (made r) u h.0 g.0)
same_drilled r plan (Searched o) (Searched u) s t xs ys p q z h g a b c f i j =
    let one : o ≡ u = one_found (made r) (alone plan) o u z h.1 g.1 in
    record {
      statuses = a ∙ ap (λ (x : SphereFound). status_of (Searched x)) one ∙ sym b;
      texts = c ∙ ap (λ (x : SphereFound). summary (length (made r).facets) (Searched x)) one ∙ sym f;
      reports = i ∙ ap (λ (x : SphereFound). report_in (Searched x)) one ∙ sym j;
    }

pub lawful : (r : Recipe) (plan : Numbers) → Lawful (meaning r plan)
lawful r plan = record {
  reads = λ bytes p q a b. sym a ∙ b;
  verdict = λ s h. end_verdict s h;
  ends = λ x s xs p a. ends_so a.decision s a.status_is;
  fits = λ x s xs p a. fits_so r plan a.decision s p a.decides a.status_is a.reports;
  headline = λ bytes s xs p h d. d.answer.told;
  one = λ z x s t xs ys p q a b. same_drilled r plan a.decision b.decision s t xs ys p q z a.decides b.decides a.status_is b.status_is a.says b.says a.reports b.reports;
}

-- ---- what an answer tells

never : (r : Recipe) (plan : Numbers) (d : Decision) (s : Status) → Decides (made r) (alone plan) d → s ≡ status_of d → s ≡ No → NeverReaches (made r)
never r plan (Excluded o) s h e n = h.1
never r plan (Searched (found.Sphere q)) s h e n = let z : Yes ≡ No = sym e ∙ n in cc
never r plan (Searched (found.Undecided q)) s h e n = let z : Undecided ≡ No = sym e ∙ n in cc

pub no_is_sound : NoIsSound
no_is_sound r plan bytes s xs p a n =
    let d : IsDone (meaning r plan) bytes s xs p = (verdict_done (meaning r plan) bytes s xs p (inl (inr n)) a).done in
    never r plan d.answer.decision s d.answer.decides d.answer.status_is n

pub verdict_tells_search : VerdictTellsSearch
verdict_tells_search r plan bytes s xs p a e = (verdict_done (meaning r plan) bytes s xs p (search_verdict s e) a).done.answer.told e

-- the flips of a report that ends in a boundary are a certificate
reaches : (r : Recipe) (plan : Numbers) (p : Option ReportView) → ReportsSphere (alone plan) p → TellsSearch r plan p → TellsSphere r p
reaches r plan p a b =
    let one_some : (o : Option ReportView) (x y : ReportView) → o ≡ Some x → o ≡ Some y → x ≡ y = λ o x y e g. cc in
    let same : a.report ≡ b.report = one_some p a.report b.report a.reports b.reports in
    let P : ReportView → Type 0 = λ x. IsSphere x.input (alone plan) x in
    let sphere : IsSphere b.report.input (alone plan) b.report = subst P same a.sphere in
    record { report = b.report; reports = b.reports; shows = b.history.shown.certificate sphere.boundary }

pub yes_reaches : YesReaches
yes_reaches r plan bytes s xs p a y =
    let d : IsDone (meaning r plan) bytes s xs p = (verdict_done (meaning r plan) bytes s xs p (inl (inl y)) a).done in
    reaches r plan p ((fits_so r plan d.answer.decision s p d.answer.decides d.answer.status_is d.answer.reports).yes y) (d.answer.told (inl y))
