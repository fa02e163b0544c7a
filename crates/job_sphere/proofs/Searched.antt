-- What a search from a complex shows.
use Rattle.std.proofs.Common.{◌≡◌, ℕ, ◌≤◌, inl, inr, List, length, sym, ◌∙◌, ap, refl, Option, Result, Ok, Err, IfOk, arith}
use Rattle.std.proofs.lemmas.List.{length-map}
use Rattle.complex_core.specs.Complexes.{ComplexView}
use Rattle.facet_text.specs.Writing.{KeepsLimits as KeepsTextLimits}
use Rattle.cert_text.specs.Statements.{Sphere}
use Rattle.cert_text.specs.Writing.{AreFlips}
use Rattle.flip_rules.specs.Certificates.{SphereCert}
use Rattle.flip_rules.specs.declared.flip.Flip.{Flip}
use Rattle.flip_laws.specs.Obstacles.{LooksLikeSphere}
use Rattle.flip_names.specs.Names.{named_flip}
use Rattle.sphere_text.specs.Texts.{certified, IsReadAgain}
use Rattle.sphere_text.proofs.ReadAgain.{certified_is_read}
use Rattle.anneal_plan.specs.Numbers.{Numbers, KeepsLimits}
use Rattle.round_run.specs.Reports.{ReportView, IsSphere}
use Rattle.round_run.specs.declared.search.SphereFound.TheVariants as found
use Rattle.report_text.specs.Shown.{flips_of, told_flips, IsReported}
use Rattle.job_answer.specs.Alone.{complex_of}
use Rattle.job_answer.specs.Meanings.{Judges}
use Rattle.job_answer.specs.declared.said.Said.{Said}
use Rattle.job_answer.specs.declared.status.Status.{Status}
use Rattle.job_answer.specs.declared.status.Status.TheVariants.{Yes, Undecided}
use Rattle.job_replay.specs.Answers.{TellsCertified}
use Rattle.job_replay.specs.Readings.{behind, stated}
use Rattle.job_sphere.specs.Texts.{found_text}
use Rattle.job_sphere.specs.Answers.{ComesTo, Searches, ShowsHistory, IsCertificate, meaning}
use Rattle.job_sphere.specs.Decisions.{Decides, Tells}
use Rattle.job_sphere.specs.declared.decision.Decision.{Decision}
use Rattle.job_sphere.specs.declared.decision.Decision.TheVariants.{Excluded, Searched}
use Rattle.job_sphere.proofs.Histories.{sphere_history, undecided_history}
use Rattle.report_text.proofs.Lengths.{certificate_is_short}
use Rattle.report_text.proofs.Shown.{report_is_shown}

history_of : (plan : Numbers) (k : ComplexView) (s : Status) (xs : List ℕ) (r : ReportView) → KeepsTextLimits k → KeepsLimits plan → ComesTo k plan r s xs → ShowsHistory k plan r
history_of plan k s xs r limits numbers (inl a) = sphere_history k plan r limits numbers a.sphere
history_of plan k s xs r limits numbers (inr a) = undecided_history k plan r limits numbers a.spent

-- the complex with the flips behind it tells a sphere
abbrev certified_tells : (k : ComplexView) (flips : List Flip) → KeepsTextLimits k → length flips ≤ 2520000 → AreFlips flips → SphereCert k flips → TellsCertified (certified k flips)
certified_tells k flips limits few fit shows =
    let r : IsReadAgain k flips = certified_is_read k flips limits fit in
    record {
      short = certificate_is_short k flips limits fit few;
      start = k;
      statement = Sphere flips;
      input = ap (behind (certified k flips)) r.complex ∙ ap (stated k) r.certificate;
      shows = shows;
    }

-- a Yes has its certificate
certificate_of : (xs : List ℕ) (plan : Numbers) (k : ComplexView) (r : ReportView) → KeepsTextLimits k → KeepsLimits plan → IsSphere k plan r → xs ≡ found_text (length r.rounds) (told_flips r) → IsCertificate k r xs
certificate_of xs plan k r limits numbers h says =
    let i : IsReported k plan r = report_is_shown k plan r limits numbers h.ok in
    record {
      flips = told_flips r;
      flips_are = refl;
      says = says;
      shows = i.certificate h.boundary;
      valid = certified_tells k (told_flips r) limits (omega (arith, i.few, length-map (flips_of r) (named_flip r.names))) i.fit (i.certificate h.boundary);
      of_sphere = refl;
    }

certified_coming : (xs : List ℕ) (plan : Numbers) (k : ComplexView) (s : Status) (r : ReportView) → KeepsTextLimits k → KeepsLimits plan → ComesTo k plan r s xs → s ≡ Yes → IsCertificate k r xs
certified_coming xs plan k s r limits numbers (inl a) y = certificate_of xs plan k r limits numbers a.sphere a.says
certified_coming xs plan k s r limits numbers (inr a) y = let z : Undecided ≡ Yes = sym a.is_undecided ∙ y in cc

-- so a search from a complex that lacks no fact of a sphere is its answer
search_judged : (plan : Numbers) (bytes : List ℕ) (k : ComplexView) (s : Status) (xs : List ℕ) (p : Option ReportView) → complex_of bytes ≡ Ok k → LooksLikeSphere k → KeepsTextLimits k → KeepsLimits plan → Searches k plan s xs p → Judges (meaning plan) bytes s xs p
search_judged plan bytes k s xs p e looks limits numbers h = inr (record {
  told = k;
  input = e;
  answer = inr (record {
    looks = looks;
    search = h;
    history = history_of plan k s xs h.report limits numbers h.comes;
    certificate = certified_coming xs plan k s h.report limits numbers h.comes;
  });
})

-- ---- what is told of a decision

-- the answer to a complex that was decided and told
decision_judged : (plan : Numbers) (bytes : List ℕ) (k : ComplexView) (d : Decision) (s : Status) (xs : List ℕ) (p : Option ReportView) → complex_of bytes ≡ Ok k → KeepsTextLimits k → KeepsLimits plan → Decides k plan d → Tells d s xs p → Judges (meaning plan) bytes s xs p
decision_judged plan bytes k (Excluded o) s xs p e limits numbers h t = inr (record {
  told = k;
  input = e;
  answer = inl (record { is_no = t.status_is; obstacle = o; first = h.0; says = t.says; never = h.1; reports = t.reports });
})
decision_judged plan bytes k (Searched (found.Sphere r)) s xs p e limits numbers h t =
    search_judged plan bytes k s xs p e h.0 limits numbers (record { report = r; reports = t.reports; comes = inl (record { is_yes = t.status_is; sphere = h.1; says = t.says }) })
decision_judged plan bytes k (Searched (found.Undecided r)) s xs p e limits numbers h t =
    search_judged plan bytes k s xs p e h.0 limits numbers (record { report = r; reports = t.reports; comes = inr (record { is_undecided = t.status_is; spent = h.1; says = t.says }) })

pub told_judged : {E : Type 0} (plan : Numbers) (bytes : List ℕ) (k : ComplexView) (d : Decision) (result : Result (Said × Option ReportView) E) → complex_of bytes ≡ Ok k → KeepsTextLimits k → KeepsLimits plan → Decides k plan d → IfOk result (λ a. Tells d a.0.status a.0.text.items a.1) → IfOk result (λ a. Judges (meaning plan) bytes a.0.status a.0.text.items a.1)
told_judged plan bytes k d (Ok a) e limits numbers h t = decision_judged plan bytes k d a.0.status a.0.text.items a.1 e limits numbers h t
told_judged plan bytes k d (Err o) e limits numbers h t = tt
