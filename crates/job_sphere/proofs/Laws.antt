-- The laws of the job `sphere`.
use Rattle.std.proofs.Common.{◌≡◌, ℕ, inl, inr, List, ◌∷◌, ◌++◌, codes, Option, Some, None, sym, ◌∙◌, ap, refl}
use Rattle.complex_core.specs.Complexes.{ComplexView}
use Rattle.descent_laws.specs.Laws.{IsCycle}
use Rattle.sphere_text.proofs.Cycles.{cycle_is_decided}
use Rattle.anneal_plan.specs.Numbers.{Numbers}
use Rattle.round_run.specs.Found.{IsFound, report_of}
use Rattle.round_run.specs.Reports.{ReportView}
use Rattle.round_run.specs.declared.search.SphereFound.{SphereFound}
use Rattle.round_run.specs.declared.search.SphereFound.TheVariants as found
use Rattle.job_answer.specs.Alone.{complex_of}
use Rattle.job_answer.specs.Meanings.{IsDone, Lawful, Same}
use Rattle.job_answer.specs.Statuses.{EndsSearch}
use Rattle.job_answer.proofs.Meanings.{verdict_done, input_done, by_read}
use Rattle.job_answer.specs.declared.status.Status.{Status}
use Rattle.job_answer.specs.declared.status.Status.TheVariants.{Yes, No}
use Rattle.search_lines.specs.Ends.{MayEnd}
use Rattle.search_lines.proofs.Ends.{end_verdict, fits_no, fits_undecided, fits_yes, no_end, search_verdict}
use Rattle.job_sphere.specs.Answers.{IsObstructed, ComesTo, IsSearched, IsSphereAnswer, TellsObstacle, TellsSearch, TellsCertificate, ReportsSphere, ReportsSpent, FitsSphere, meaning}
use Rattle.job_sphere.specs.Decisions.{status_of, text_of}
use Rattle.job_sphere.specs.declared.decision.Decision.TheVariants.{Searched}
use Rattle.job_sphere.specs.Laws.{NoIsSound, YesIsCertified, VerdictTellsSearch, CyclesAreDecided}
use Rattle.job_sphere.proofs.Obstructed.{no_obstacle, same_line}
use Rattle.job_sphere.proofs.Ends.{one_found, own_sphere, own_spent}
use Rattle.report_text.proofs.Searches.{cycle_is_found}

-- ---- one answer where no round is made

-- what a search came to, and what is said of it
abbrev found_of : (k : ComplexView) (plan : Numbers) (r : ReportView) (s : Status) (xs : List ℕ) → ComesTo k plan r s xs → SphereFound
found_of k plan r s xs (inl a) = found.Sphere r
found_of k plan r s xs (inr a) = found.Undecided r

is_found : (k : ComplexView) (plan : Numbers) (r : ReportView) (s : Status) (xs : List ℕ) (c : ComesTo k plan r s xs) → IsFound k plan (found_of k plan r s xs c) × (s ≡ status_of (Searched (found_of k plan r s xs c))) × (xs ≡ text_of (Searched (found_of k plan r s xs c))) × (report_of (found_of k plan r s xs c) ≡ r)
is_found k plan r s xs (inl a) = (a.sphere, a.is_yes, a.says, refl)
is_found k plan r s xs (inr a) = (a.spent, a.is_undecided, a.says, refl)

same_search : (plan : Numbers) (k : ComplexView) (s t : Status) (xs ys : List ℕ) (p q : Option ReportView) → plan.rounds ≡ 0 → IsSearched k plan s xs p → IsSearched k plan t ys q → Same s t xs ys p q
same_search plan k s t xs ys p q z a b =
    let f : SphereFound = found_of k plan a.search.report s xs a.search.comes in
    let g : SphereFound = found_of k plan b.search.report t ys b.search.comes in
    let m = is_found k plan a.search.report s xs a.search.comes in
    let n = is_found k plan b.search.report t ys b.search.comes in
    let one : f ≡ g = one_found k plan f g z m.0 n.0 in
    record {
      statuses = m.1 ∙ ap (λ (x : SphereFound). status_of (Searched x)) one ∙ sym n.1;
      texts = m.2 ∙ ap (λ (x : SphereFound). text_of (Searched x)) one ∙ sym n.2;
      reports = a.search.reports ∙ ap (λ (r : ReportView). Some r) (sym m.3 ∙ ap report_of one ∙ n.3) ∙ sym b.search.reports;
    }

same_obstruction : (k : ComplexView) (s t : Status) (xs ys : List ℕ) (p q : Option ReportView) → IsObstructed k s xs p → IsObstructed k t ys q → Same s t xs ys p q
same_obstruction k s t xs ys p q a b = record {
  statuses = a.is_no ∙ sym b.is_no;
  texts = a.says ∙ ap (λ l. codes "no" ++ (10 ∷ l)) (same_line k a.obstacle b.obstacle a.first b.first) ∙ sym b.says;
  reports = a.reports ∙ sym b.reports;
}

same_sphere : (plan : Numbers) (k : ComplexView) (s t : Status) (xs ys : List ℕ) (p q : Option ReportView) → plan.rounds ≡ 0 → IsSphereAnswer plan k s xs p → IsSphereAnswer plan k t ys q → Same s t xs ys p q
same_sphere plan k s t xs ys p q z (inl a) (inl b) = same_obstruction k s t xs ys p q a b
same_sphere plan k s t xs ys p q z (inl a) (inr b) = absurd (no_obstacle k a.obstacle b.looks a.first)
same_sphere plan k s t xs ys p q z (inr a) (inl b) = absurd (no_obstacle k b.obstacle a.looks b.first)
same_sphere plan k s t xs ys p q z (inr a) (inr b) = same_search plan k s t xs ys p q z a b

-- ---- what is reported

coming_fits : (k : ComplexView) (plan : Numbers) (r : ReportView) (s : Status) (xs : List ℕ) (p : Option ReportView) → p ≡ Some r → ComesTo k plan r s xs → FitsSphere plan s p
coming_fits k plan r s xs p e (inl a) = fits_yes None (ReportsSphere plan) (ReportsSpent plan) s p a.is_yes (record { report = r; reports = e; sphere = own_sphere k plan r a.sphere })
coming_fits k plan r s xs p e (inr a) = fits_undecided None (ReportsSphere plan) (ReportsSpent plan) s p a.is_undecided (record { report = r; reports = e; spent = own_spent k plan r a.spent })

sphere_fits : (plan : Numbers) (k : ComplexView) (s : Status) (xs : List ℕ) (p : Option ReportView) → IsSphereAnswer plan k s xs p → FitsSphere plan s p
sphere_fits plan k s xs p (inl a) = fits_no None (ReportsSphere plan) (ReportsSpent plan) s p a.is_no a.reports
sphere_fits plan k s xs p (inr a) = coming_fits k plan a.search.report s xs p a.search.reports a.search.comes

-- ---- how it ends

coming_ends : (k : ComplexView) (plan : Numbers) (r : ReportView) (s : Status) (xs : List ℕ) → ComesTo k plan r s xs → EndsSearch s
coming_ends k plan r s xs (inl a) = inl a.is_yes
coming_ends k plan r s xs (inr a) = inr a.is_undecided

sphere_ends : (plan : Numbers) (k : ComplexView) (s : Status) (xs : List ℕ) (p : Option ReportView) → IsSphereAnswer plan k s xs p → MayEnd s
sphere_ends plan k s xs p (inl a) = inl a.is_no
sphere_ends plan k s xs p (inr a) = inr (coming_ends k plan a.search.report s xs a.search.comes)

-- ---- what an answer to the bytes tells

done_search : (plan : Numbers) (bytes : List ℕ) (s : Status) (xs : List ℕ) (p : Option ReportView) (d : IsDone (meaning plan) bytes s xs p) → EndsSearch s → TellsSearch bytes plan p
done_search plan bytes s xs p d e = told d.answer
  where
    told : IsSphereAnswer plan d.told s xs p → TellsSearch bytes plan p
    told (inl a) = absurd (no_end s e a.is_no)
    told (inr a) = record { complex = d.told; input = d.input; looks = a.looks; report = a.search.report; reports = a.search.reports; history = a.history }

done_certificate : (plan : Numbers) (bytes : List ℕ) (s : Status) (xs : List ℕ) (p : Option ReportView) (d : IsDone (meaning plan) bytes s xs p) → s ≡ Yes → TellsCertificate bytes xs p
done_certificate plan bytes s xs p d y = told d.answer
  where
    told : IsSphereAnswer plan d.told s xs p → TellsCertificate bytes xs p
    told (inl a) = absurd (no_end s (inl y) a.is_no)
    told (inr a) = record { complex = d.told; input = d.input; report = a.search.report; reports = a.search.reports; certificate = a.certificate y }

done_obstacle : (plan : Numbers) (bytes : List ℕ) (s : Status) (xs : List ℕ) (p : Option ReportView) (d : IsDone (meaning plan) bytes s xs p) → s ≡ No → TellsObstacle bytes xs
done_obstacle plan bytes s xs p d n = told d.answer
  where
    told : IsSphereAnswer plan d.told s xs p → TellsObstacle bytes xs
    told (inl a) = record { complex = d.told; input = d.input; obstacle = a.obstacle; first = a.first; says = a.says; never = a.never }
    told (inr a) = absurd (no_end s (coming_ends d.told plan a.search.report s xs a.search.comes) n)

pub lawful : (plan : Numbers) → Lawful (meaning plan)
lawful plan = record {
  reads = by_read complex_of;
  verdict = λ s h. end_verdict s h;
  ends = λ k s xs p a. sphere_ends plan k s xs p a;
  fits = λ k s xs p a. sphere_fits plan k s xs p a;
  headline = λ bytes s xs p h d. record { told = done_search plan bytes s xs p d; certificate = done_certificate plan bytes s xs p d };
  one = λ z k s t xs ys p q a b. same_sphere plan k s t xs ys p q z a b;
}

pub no_is_sound : NoIsSound
no_is_sound plan bytes s xs p a n = done_obstacle plan bytes s xs p (verdict_done (meaning plan) bytes s xs p (inl (inr n)) a).done n

pub yes_is_certified : YesIsCertified
yes_is_certified plan bytes s xs p a y = done_certificate plan bytes s xs p (verdict_done (meaning plan) bytes s xs p (inl (inl y)) a).done y

pub verdict_tells_search : VerdictTellsSearch
verdict_tells_search plan bytes s xs p a e = done_search plan bytes s xs p (verdict_done (meaning plan) bytes s xs p (search_verdict s e) a).done e

-- ---- dimension 1

cycle_coming : (k : ComplexView) (plan : Numbers) (r : ReportView) (s : Status) (xs : List ℕ) → IsCycle k → ComesTo k plan r s xs → s ≡ Yes
cycle_coming k plan r s xs h (inl a) = a.is_yes
cycle_coming k plan r s xs h (inr a) = absurd (cycle_is_found k plan r h a.spent)

cycle_yes : (plan : Numbers) (k : ComplexView) (s : Status) (xs : List ℕ) (p : Option ReportView) → IsCycle k → IsSphereAnswer plan k s xs p → s ≡ Yes
cycle_yes plan k s xs p h (inl a) = absurd (no_obstacle k a.obstacle (cycle_is_decided k h).looks a.first)
cycle_yes plan k s xs p h (inr a) = cycle_coming k plan a.search.report s xs h a.search.comes

pub cycles_are_decided : CyclesAreDecided
cycles_are_decided plan bytes s xs p a h = cycle_yes plan h.complex s xs p h.cycle (input_done (meaning plan) bytes s xs p (lawful plan) h.short h.complex h.input a)
