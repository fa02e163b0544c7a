-- The laws of the job `manifold`.
use Rattle.std.proofs.Common.{◌≡◌, ℕ, inl, inr, List, Option, None, sym, ◌∙◌}
use Rattle.complex_core.specs.Complexes.{ComplexView}
use Rattle.complex_core.specs.Links.{link}
use Rattle.link_check.specs.BadLinks.{IsGoodLink, Lacks}
use Rattle.link_check.specs.declared.bad.LinkFact.{LinkFact}
use Rattle.link_check.specs.declared.bad.LinkFact.TheVariants as fact
use Rattle.anneal_plan.specs.Numbers.{Numbers}
use Rattle.job_answer.specs.Alone.{complex_of}
use Rattle.job_answer.specs.Meanings.{IsDone, Lawful}
use Rattle.job_answer.proofs.Describing.{not_closed, not_strong}
use Rattle.job_answer.proofs.Meanings.{by_read, input_done, verdict_done}
use Rattle.job_answer.specs.declared.status.Status.{Status}
use Rattle.job_answer.specs.declared.status.Status.TheVariants.{Yes, No, Undecided}
use Rattle.search_lines.specs.Ends.{MayEnd}
use Rattle.search_lines.proofs.Ends.{end_verdict, fits_no, fits_undecided, fits_yes}
use Rattle.job_manifold.specs.Answers.{FitsManifold, IsManifoldAnswer, LooksLikeManifold, Records, ReportsOpen, TellsFault, TellsManifold, TellsOpen, meaning}
use Rattle.job_manifold.specs.Laws.{NoIsExact, NoIsSound, UndecidedTellsSearches, YesIsCertified}

-- ---- the statuses differ

not_yes : (s : Status) → s ≡ No → s ≡ Yes → ⊥
not_yes s n y = let z : No ≡ Yes = sym n ∙ y in cc

not_open : (s : Status) → s ≡ No → s ≡ Undecided → ⊥
not_open s n u = let z : No ≡ Undecided = sym n ∙ u in cc

not_both : (s : Status) → s ≡ Yes → s ≡ Undecided → ⊥
not_both s y u = let z : Yes ≡ Undecided = sym y ∙ u in cc

-- ---- what is reported, and how it ends

answer_fits : (plan : Numbers) (k : ComplexView) (s : Status) (xs : List ℕ) (p : Option Records) → IsManifoldAnswer plan k s xs p → FitsManifold plan s p
answer_fits plan k s xs p (inl (inl a)) = fits_no None (λ found. found ≡ None) (ReportsOpen plan) s p a.is_no a.reports
answer_fits plan k s xs p (inl (inr a)) = fits_no None (λ found. found ≡ None) (ReportsOpen plan) s p a.is_no a.reports
answer_fits plan k s xs p (inr (inl a)) = fits_yes None (λ found. found ≡ None) (ReportsOpen plan) s p a.all.is_yes a.all.reports
answer_fits plan k s xs p (inr (inr a)) = fits_undecided None (λ found. found ≡ None) (ReportsOpen plan) s p a.some.is_undecided (record { left = a.some.left; reports = a.some.reports; complex = k; looks = a.looks; stays = a.some.stays })

answer_ends : (plan : Numbers) (k : ComplexView) (s : Status) (xs : List ℕ) (p : Option Records) → IsManifoldAnswer plan k s xs p → MayEnd s
answer_ends plan k s xs p (inl (inl a)) = inl a.is_no
answer_ends plan k s xs p (inl (inr a)) = inl a.is_no
answer_ends plan k s xs p (inr (inl a)) = inr (inl a.all.is_yes)
answer_ends plan k s xs p (inr (inr a)) = inr (inr a.some.is_undecided)

-- ---- what an answer to the bytes tells

done_fault : (plan : Numbers) (bytes : List ℕ) (s : Status) (xs : List ℕ) (p : Option Records) (d : IsDone (meaning plan) bytes s xs p) → s ≡ No → TellsFault bytes xs
done_fault plan bytes s xs p d n = told d.answer
  where
    told : IsManifoldAnswer plan d.told s xs p → TellsFault bytes xs
    told (inl (inl a)) = record { complex = d.told; input = d.input; names = inl (record { ridge = a.ridge; number = a.number; least = a.least; says = a.says }) }
    told (inl (inr a)) = record { complex = d.told; input = d.input; names = inr (record { closed = a.closed; bad = a.bad; least = a.least; says = a.says; never = a.never }) }
    told (inr (inl a)) = absurd (not_yes s n a.all.is_yes)
    told (inr (inr a)) = absurd (not_open s n a.some.is_undecided)

done_manifold : (plan : Numbers) (bytes : List ℕ) (s : Status) (xs : List ℕ) (p : Option Records) (d : IsDone (meaning plan) bytes s xs p) → s ≡ Yes → TellsManifold bytes xs
done_manifold plan bytes s xs p d y = told d.answer
  where
    told : IsManifoldAnswer plan d.told s xs p → TellsManifold bytes xs
    told (inl (inl a)) = absurd (not_yes s a.is_no y)
    told (inl (inr a)) = absurd (not_yes s a.is_no y)
    told (inr (inl a)) = record { complex = d.told; input = d.input; looks = a.looks; lists = a.all.lists; shown = a.all.shown; certificate = a.certificate }
    told (inr (inr a)) = absurd (not_both s y a.some.is_undecided)

done_open : (plan : Numbers) (bytes : List ℕ) (s : Status) (xs : List ℕ) (p : Option Records) (d : IsDone (meaning plan) bytes s xs p) → s ≡ Undecided → TellsOpen bytes xs plan p
done_open plan bytes s xs p d u = told d.answer
  where
    told : IsManifoldAnswer plan d.told s xs p → TellsOpen bytes xs plan p
    told (inl (inl a)) = absurd (not_open s a.is_no u)
    told (inl (inr a)) = absurd (not_open s a.is_no u)
    told (inr (inl a)) = absurd (not_both s a.all.is_yes u)
    told (inr (inr a)) = record {
      complex = d.told;
      input = d.input;
      looks = a.looks;
      dim = a.dim;
      left = a.some.left;
      reports = a.some.reports;
      stays = a.some.stays;
      says = a.some.says;
      histories = a.histories;
    }

-- ---- the laws

pub lawful : (plan : Numbers) → Lawful (meaning plan)
lawful plan = record {
  reads = by_read complex_of;
  verdict = λ s h. end_verdict s h;
  ends = λ k s xs p a. answer_ends plan k s xs p a;
  fits = λ k s xs p a. answer_fits plan k s xs p a;
  headline = λ bytes s xs p h d. record { certificate = done_manifold plan bytes s xs p d; searched = done_open plan bytes s xs p d };
  one = λ z. absurd z;
}

pub no_is_sound : NoIsSound
no_is_sound plan bytes s xs p a n = done_fault plan bytes s xs p (verdict_done (meaning plan) bytes s xs p (inl (inr n)) a).done n

pub yes_is_certified : YesIsCertified
yes_is_certified plan bytes s xs p a y = done_manifold plan bytes s xs p (verdict_done (meaning plan) bytes s xs p (inl (inl y)) a).done y

pub undecided_tells_searches : UndecidedTellsSearches
undecided_tells_searches plan bytes s xs p a u = done_open plan bytes s xs p (verdict_done (meaning plan) bytes s xs p (inr u) a).done u

-- ---- No exactly

lacks_one : (l : ComplexView) (f : LinkFact) → IsGoodLink l → Lacks l f → ⊥
lacks_one l (fact.Euler n) g h = h.1 (h.0 ∙ g.euler)
lacks_one l (fact.Split a) g h = not_strong l.facets a.first a.other (g.strong h.1) h.2

no_fails : (plan : Numbers) (k : ComplexView) (s : Status) (xs : List ℕ) (p : Option Records) → IsManifoldAnswer plan k s xs p → s ≡ No → LooksLikeManifold k → ⊥
no_fails plan k s xs p (inl (inl a)) n looks = not_closed k.facets a.ridge a.number looks.closed a.least
no_fails plan k s xs p (inl (inr a)) n looks = lacks_one (link k a.bad.face) a.bad.fact (looks.good.good a.bad.face a.least.has) a.least.lacks
no_fails plan k s xs p (inr (inl a)) n looks = not_yes s n a.all.is_yes
no_fails plan k s xs p (inr (inr a)) n looks = not_open s n a.some.is_undecided

fails_no : (plan : Numbers) (k : ComplexView) (s : Status) (xs : List ℕ) (p : Option Records) → IsManifoldAnswer plan k s xs p → (LooksLikeManifold k → ⊥) → s ≡ No
fails_no plan k s xs p (inl (inl a)) fails = a.is_no
fails_no plan k s xs p (inl (inr a)) fails = a.is_no
fails_no plan k s xs p (inr (inl a)) fails = absurd (fails a.looks)
fails_no plan k s xs p (inr (inr a)) fails = absurd (fails a.looks)

pub no_is_exact : NoIsExact
no_is_exact plan bytes s xs p a t =
    let d : IsManifoldAnswer plan t.complex s xs p = input_done (meaning plan) bytes s xs p (lawful plan) t.short t.complex t.input a in
    (no_fails plan t.complex s xs p d, fails_no plan t.complex s xs p d)
