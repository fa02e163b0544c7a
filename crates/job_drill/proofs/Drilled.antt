-- What is found of a complex that was made.
use Rattle.std.proofs.Common.{◌≡◌, ℕ, ◌*◌, ◌≤◌, inr, List, [], length, Option, ◌∙◌, ap, refl, subst, arith}
use Rattle.std.proofs.lemmas.Nat.{mul-le}
use Rattle.complex_core.specs.Complexes.{ComplexView}
use Rattle.facet_text.specs.Writing.{KeepsLimits as KeepsTextLimits}
use Rattle.anneal_plan.specs.Numbers.{Numbers, KeepsLimits}
use Rattle.round_run.specs.Reports.{ReportView}
use Rattle.round_run.specs.declared.search.SphereFound.TheVariants.{Sphere, Undecided}
use Rattle.job_answer.specs.Statuses.{EndsSearch}
use Rattle.job_answer.specs.declared.status.Status.{Status}
use Rattle.job_answer.specs.Meanings.{Judges}
use Rattle.job_make.specs.Recipes.{Recipe, LooksNamed, made}
use Rattle.search_lines.proofs.Ends.{no_end}
use Rattle.job_sphere.specs.Decisions.{Decides, report_in, status_of}
use Rattle.job_sphere.specs.declared.decision.Decision.{Decision}
use Rattle.job_sphere.specs.declared.decision.Decision.TheVariants.{Excluded, Searched}
use Rattle.job_sphere.proofs.Histories.{sphere_history, undecided_history}
use Rattle.job_drill.specs.Answers.{TellsSearch, alone, meaning}
use Rattle.job_drill.specs.Texts.{summary}

-- one worker makes no more tries than all of a plan
fewer : (r w t : ℕ) → 1 ≤ w → r * w * t ≤ 250000 → r * 1 * t ≤ 250000
fewer r w t one le = omega (arith, mul-le (r * 1) t (r * w) t (mul-le r 1 r w (omega arith) one) (omega arith), le)

-- so a plan for one worker keeps the limits too
pub alone_keeps : (n : Numbers) → KeepsLimits n → KeepsLimits (alone n)
alone_keeps n h = record {
  workers = (omega arith, omega arith);
  rounds = h.rounds;
  tries = h.tries;
  heat = h.heat;
  relax = h.relax;
  depth = h.depth;
  room = h.room;
  product = fewer n.rounds n.workers n.tries h.workers.0 h.product;
}

-- a search that was made is told
tells : (r : Recipe) (plan : Numbers) (k : ComplexView) (d : Decision) (s : Status) (found : Option ReportView) → k ≡ made r → KeepsTextLimits k → KeepsLimits (alone plan) → Decides (made r) (alone plan) d → s ≡ status_of d → found ≡ report_in d → EndsSearch s → TellsSearch r plan found
tells r plan k (Excluded o) s found e limits numbers h is reports end = absurd (no_end s end is)
tells r plan k (Searched (Sphere q)) s found e limits numbers h is reports end = record {
  report = q;
  reports = reports;
  history = let K : ComplexView → Type 0 = λ l. KeepsTextLimits l in sphere_history (made r) (alone plan) q (subst K e limits) numbers h.1;
}
tells r plan k (Searched (Undecided q)) s found e limits numbers h is reports end = record {
  report = q;
  reports = reports;
  history = let K : ComplexView → Type 0 = λ l. KeepsTextLimits l in undecided_history (made r) (alone plan) q (subst K e limits) numbers h.1;
}

drilled : (r : Recipe) (plan : Numbers) (k : ComplexView) (d : Decision) (s : Status) (xs : List ℕ) (found : Option ReportView) → k ≡ made r → KeepsTextLimits k → LooksNamed r → KeepsLimits (alone plan) → Decides k (alone plan) d → s ≡ status_of d → xs ≡ summary (length k.facets) d → found ≡ report_in d → Judges (meaning r plan) [] s xs found
drilled r plan k d s xs found e limits looks numbers h is says reports =
    let D : ComplexView → Type 0 = λ l. Decides l (alone plan) d in
    let here : Decides (made r) (alone plan) d = subst D e h in
    inr (record {
      told = tt;
      input = refl;
      answer = record {
        looks = looks;
        decision = d;
        decides = here;
        status_is = is;
        says = says ∙ ap (λ (l : ComplexView). summary (length l.facets) d) e;
        reports = reports;
        told = λ end. tells r plan k d s found e limits numbers here is reports end;
      };
    })

-- also where the plan is known by an equation
pub drilled_by : (r : Recipe) (plan used : Numbers) (k : ComplexView) (d : Decision) (s : Status) (xs : List ℕ) (found : Option ReportView) → used ≡ alone plan → k ≡ made r → KeepsTextLimits k → LooksNamed r → KeepsLimits used → Decides k used d → s ≡ status_of d → xs ≡ summary (length k.facets) d → found ≡ report_in d → Judges (meaning r plan) [] s xs found
drilled_by r plan used k d s xs found u e limits looks numbers h is says reports =
    let K : Numbers → Type 0 = λ n. KeepsLimits n in
    let D : Numbers → Type 0 = λ n. Decides k n d in
    drilled r plan k d s xs found e limits looks (subst K u numbers) (subst D u h) is says reports
