-- The laws of the job `equiv`.
use Rattle.std.proofs.Common.{◌≡◌, ℕ, ◌⊎◌, inl, inr, List, Option, Some, None, sym, ◌∙◌, subst}
use Rattle.complex_core.specs.Complexes.{ComplexView}
use Rattle.anneal_plan.specs.Numbers.{Numbers}
use Rattle.round_run.specs.Reports.{ReportView}
use Rattle.equal_search.specs.Comparing.{AreEqual, AreUndecided}
use Rattle.job_answer.specs.Meanings.{IsDone, Lawful}
use Rattle.job_answer.specs.Statuses.{EndsSearch}
use Rattle.job_answer.proofs.Meanings.{verdict_done}
use Rattle.job_answer.specs.declared.status.Status.{Status}
use Rattle.job_answer.specs.declared.status.Status.TheVariants.{Yes, No, Undecided}
use Rattle.job_pairs.specs.Readings.{Pair}
use Rattle.search_lines.specs.Ends.{MayEnd}
use Rattle.search_lines.proofs.Ends.{end_verdict, fits_no, fits_undecided, fits_yes, no_end, search_verdict}
use Rattle.job_pairs.proofs.Readings.{reading_is_one}
use Rattle.job_equiv.specs.Answers.{AreSearched, ComesTo, FitsEquiv, IsEquivAnswer, IsPseudomanifold, LeadsOver, Reports, ReportsEqual, ReportsSpent, TellsDifference, TellsOneList, TellsSearches, meaning}
use Rattle.job_equiv.specs.Laws.{NoIsSound, VerdictTellsSearches, YesIsOneList}
use Rattle.job_equiv.proofs.Fixed.{one_answer}

-- ---- what is reported

-- reports of searches from two complexes are ones from their own inputs
own_equal : (k l : ComplexView) (plan : Numbers) (r s : ReportView) (status : Status) (xs : List ℕ) (a : LeadsOver k l plan r s status xs) → AreEqual r.input s.input plan r s a.flips a.pairs
own_equal k l plan r s status xs a =
    let P : ComplexView → Type 0 = λ x. AreEqual x l plan r s a.flips a.pairs in
    let Q : ComplexView → Type 0 = λ y. AreEqual r.input y plan r s a.flips a.pairs in
    subst Q (sym a.equal.compared.second.ok.input) (subst P (sym a.equal.compared.first.ok.input) a.equal)

own_spent : (k l : ComplexView) (plan : Numbers) (r s : ReportView) → AreUndecided k l plan r s → AreUndecided r.input s.input plan r s
own_spent k l plan r s h =
    let P : ComplexView → Type 0 = λ x. AreUndecided x l plan r s in
    let Q : ComplexView → Type 0 = λ y. AreUndecided r.input y plan r s in
    subst Q (sym h.compared.second.ok.input) (subst P (sym h.compared.first.ok.input) h)

coming_fits : (k l : ComplexView) (plan : Numbers) (r s : ReportView) (status : Status) (xs : List ℕ) (p : Option Reports) → p ≡ Some (r, s) → ComesTo k l plan r s status xs → FitsEquiv plan status p
coming_fits k l plan r s status xs p e (inl a) = fits_yes None (ReportsEqual plan) (ReportsSpent plan) status p a.is_yes (record { first = r; second = s; reports = e; flips = a.flips; pairs = a.pairs; equal = own_equal k l plan r s status xs a })
coming_fits k l plan r s status xs p e (inr a) = fits_undecided None (ReportsEqual plan) (ReportsSpent plan) status p a.is_undecided (record { first = r; second = s; reports = e; spent = own_spent k l plan r s a.spent })

answer_fits : (plan : Numbers) (x : Pair) (status : Status) (xs : List ℕ) (p : Option Reports) → IsEquivAnswer plan x status xs p → FitsEquiv plan status p
answer_fits plan x status xs p (inl a) = fits_no None (ReportsEqual plan) (ReportsSpent plan) status p a.is_no a.reports
answer_fits plan x status xs p (inr a) = coming_fits x.0 x.1 plan a.search.first a.search.second status xs p a.search.reports a.search.comes

-- ---- how it ends

coming_ends : (k l : ComplexView) (plan : Numbers) (r s : ReportView) (status : Status) (xs : List ℕ) → ComesTo k l plan r s status xs → EndsSearch status
coming_ends k l plan r s status xs (inl a) = inl a.is_yes
coming_ends k l plan r s status xs (inr a) = inr a.is_undecided

search_ends : (k l : ComplexView) (plan : Numbers) (status : Status) (xs : List ℕ) (p : Option Reports) → AreSearched k l plan status xs p → EndsSearch status
search_ends k l plan status xs p a = coming_ends k l plan a.search.first a.search.second status xs a.search.comes

answer_ends : (plan : Numbers) (x : Pair) (status : Status) (xs : List ℕ) (p : Option Reports) → IsEquivAnswer plan x status xs p → MayEnd status
answer_ends plan x status xs p (inl a) = inl a.is_no
answer_ends plan x status xs p (inr a) = inr (search_ends x.0 x.1 plan status xs p a)

-- ---- what an answer to the bytes tells

done_searches : (plan : Numbers) (bytes : List ℕ) (status : Status) (xs : List ℕ) (p : Option Reports) (d : IsDone (meaning plan) bytes status xs p) → EndsSearch status → TellsSearches bytes plan p
done_searches plan bytes status xs p d e = told d.answer
  where
    told : IsEquivAnswer plan d.told status xs p → TellsSearches bytes plan p
    told (inl a) = absurd (no_end status e a.is_no)
    told (inr a) = record { complexes = d.told; input = d.input; alike = a.alike; first = a.search.first; second = a.search.second; reports = a.search.reports; first_history = a.first; second_history = a.second }

done_list : (plan : Numbers) (bytes : List ℕ) (status : Status) (xs : List ℕ) (p : Option Reports) (d : IsDone (meaning plan) bytes status xs p) → status ≡ Yes → TellsOneList bytes xs plan p
done_list plan bytes status xs p d y = told d.answer
  where
    told : IsEquivAnswer plan d.told status xs p → TellsOneList bytes xs plan p
    told (inl a) = absurd (no_end status (inl y) a.is_no)
    told (inr a) = record { complexes = d.told; input = d.input; first = a.search.first; second = a.search.second; reports = a.search.reports; list = a.certificate y }

done_difference : (plan : Numbers) (bytes : List ℕ) (status : Status) (xs : List ℕ) (p : Option Reports) (d : IsDone (meaning plan) bytes status xs p) → status ≡ No → TellsDifference bytes xs
done_difference plan bytes status xs p d n = told d.answer
  where
    told : IsEquivAnswer plan d.told status xs p → TellsDifference bytes xs
    told (inl a) = record { complexes = d.told; input = d.input; difference = a.difference; first = a.first; says = a.says; never = a.never }
    told (inr a) = absurd (no_end status (search_ends d.told.0 d.told.1 plan status xs p a) n)

pub lawful : (plan : Numbers) → Lawful (meaning plan)
lawful plan = record {
  reads = reading_is_one IsPseudomanifold;
  verdict = λ s h. end_verdict s h;
  ends = λ x s xs p a. answer_ends plan x s xs p a;
  fits = λ x s xs p a. answer_fits plan x s xs p a;
  headline = λ bytes s xs p h d. record { told = done_searches plan bytes s xs p d; certificate = done_list plan bytes s xs p d };
  one = λ z x s t xs ys p q a b. one_answer plan x s t xs ys p q z a b;
}

pub no_is_sound : NoIsSound
no_is_sound plan bytes s xs p a n = done_difference plan bytes s xs p (verdict_done (meaning plan) bytes s xs p (inl (inr n)) a).done n

pub yes_is_one_list : YesIsOneList
yes_is_one_list plan bytes s xs p a y = done_list plan bytes s xs p (verdict_done (meaning plan) bytes s xs p (inl (inl y)) a).done y

pub verdict_tells_searches : VerdictTellsSearches
verdict_tells_searches plan bytes s xs p a e = done_searches plan bytes s xs p (verdict_done (meaning plan) bytes s xs p (search_verdict s e) a).done e
