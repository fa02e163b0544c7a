-- Each way in which the job ends is its answer.
use Rattle.std.proofs.Common.{◌≡◌, ℕ, ◌≤◌, inl, inr, List, map, Option, None, Some, Result, Ok, Err, IfOk, refl, subst}
use Rattle.complex_core.specs.Complexes.{ComplexView}
use Rattle.pseudo_test.specs.Ridges.{Closed, IsLeastOther}
use Rattle.facet_text.specs.Writing.{KeepsLimits as KeepsTextLimits}
use Rattle.anneal_plan.specs.Numbers.{Numbers, KeepsLimits}
use Rattle.link_check.specs.BadLinks.{IsLeastBad}
use Rattle.link_check.specs.LinkSearches.{CanSearchLinks, LinksAre, ShowsLinks}
use Rattle.link_check.specs.declared.link_search.Links.{Links}
use Rattle.link_check.specs.declared.link_search.Links.TheVariants.{Open}
use Rattle.link_check.specs.declared.bad.BadLink.{BadLink}
use Rattle.link_check.proofs.Judged.{bad_link_law}
use Rattle.round_run.specs.Gates.{Rise}
use Rattle.round_run.specs.Reports.{ReportView}
use Rattle.job_answer.specs.Alone.{complex_of}
use Rattle.job_answer.specs.Meanings.{Judges}
use Rattle.job_answer.specs.declared.said.Said.{Said}
use Rattle.job_answer.specs.declared.status.Status.{Status}
use Rattle.job_answer.specs.declared.status.Status.TheVariants.{No, Undecided}
use Rattle.job_manifold.specs.Texts.{bad_text, open_text, unclosed_text}
use Rattle.link_search.specs.Counts.{links_quits}
use Rattle.job_manifold.specs.Answers.{IsManifoldAnswer, LooksLikeManifold, Records, Searches, StaysOpen, meaning, quits_of}
use Rattle.job_manifold.proofs.Limits.{uses_few}
use Rattle.job_manifold.proofs.Lists.{is_certificate}
use Rattle.job_manifold.proofs.OpenLinks.{open_histories, open_is_high}

pub can_search : (k : ComplexView) → KeepsTextLimits k → LooksLikeManifold k → CanSearchLinks k
can_search k limits looks = record { closed = looks.closed; dim = limits.dim; good = looks.good; labels = uses_few k limits }

-- ---- what the searches of links come to

pub open_comes : (k : ComplexView) (plan : Numbers) (links : Links ReportView) (left : Records) (s : Status) (xs : List ℕ) → links ≡ Open left → LinksAre (ShowsLinks k) (StaysOpen k plan) links → s ≡ Undecided → xs ≡ open_text (map (λ p. p.0) left.items) → Searches k plan s xs (Some left)
open_comes k plan links left s xs e h u says =
    let P : Links ReportView → Type 0 = λ l. LinksAre (ShowsLinks k) (StaysOpen k plan) l in
    inr (record { is_undecided = u; left = left; stays = subst P e h; says = says; reports = refl })

pub open_quits : {A : Type 0} (count : A → ℕ) (was now : List A) (links : Links ReportView) (left : Records) → links ≡ Open left → Rise count was now (links_quits links) → Rise count was now (quits_of (Some left))
open_quits count was now links left e h = let P : Links ReportView → Type 0 = λ l. Rise count was now (links_quits l) in subst P e h

-- ---- the answers

pub unclosed_answer : (plan : Numbers) (k : ComplexView) (ridge : List ℕ) (number : ℕ) (s : Status) (xs : List ℕ) → IsLeastOther k.facets ridge number → s ≡ No → xs ≡ unclosed_text ridge number → IsManifoldAnswer plan k s xs None
unclosed_answer plan k ridge number s xs least n says = inl (inl (record { is_no = n; ridge = ridge; number = number; least = least; says = says; reports = refl }))

pub bad_answer : (plan : Numbers) (k : ComplexView) (bad : BadLink) (s : Status) (xs : List ℕ) → KeepsTextLimits k → Closed k.facets → IsLeastBad k bad → s ≡ No → xs ≡ bad_text bad → IsManifoldAnswer plan k s xs None
bad_answer plan k bad s xs limits closed least n says = inl (inr (record {
  is_no = n;
  closed = closed;
  bad = bad;
  least = least;
  says = says;
  never = bad_link_law k bad.face bad.fact limits.complex least.has least.lacks;
  reports = refl;
}))

search_answer : (plan : Numbers) (k : ComplexView) (s : Status) (xs : List ℕ) (p : Option Records) → KeepsTextLimits k → KeepsLimits plan → LooksLikeManifold k → Searches k plan s xs p → IsManifoldAnswer plan k s xs p
search_answer plan k s xs p limits numbers looks (inl a) = inr (inl (record { looks = looks; all = a; certificate = is_certificate k a.lists xs limits a.shown a.says }))
search_answer plan k s xs p limits numbers looks (inr a) =
    let d : 2 ≤ k.dim = open_is_high k plan a.left.items limits looks.closed a.stays in
    inr (inr (record { looks = looks; dim = d; some = a; histories = open_histories k plan a.left.items limits numbers d a.stays }))

pub search_answers : {E : Type 0} (plan : Numbers) (k : ComplexView) (result : Result (Said × Option Records) E) → KeepsTextLimits k → KeepsLimits plan → LooksLikeManifold k → IfOk result (λ a. Searches k plan a.0.status a.0.text.items a.1) → IfOk result (λ a. IsManifoldAnswer plan k a.0.status a.0.text.items a.1)
search_answers plan k (Ok a) limits numbers looks h = search_answer plan k a.0.status a.0.text.items a.1 limits numbers looks h
search_answers plan k (Err e) limits numbers looks h = tt

pub answers_judged : {E : Type 0} (plan : Numbers) (bytes : List ℕ) (k : ComplexView) (result : Result (Said × Option Records) E) → complex_of bytes ≡ Ok k → IfOk result (λ a. IsManifoldAnswer plan k a.0.status a.0.text.items a.1) → IfOk result (λ a. Judges (meaning plan) bytes a.0.status a.0.text.items a.1)
answers_judged plan bytes k (Ok a) e h = inr (record { told = k; input = e; answer = h })
answers_judged plan bytes k (Err x) e h = tt
