-- How a job ends that makes searches.
use Rattle.std.proofs.Common.{◌≡◌, inl, inr, sym, ◌∙◌}
use Rattle.job_answer.specs.Statuses.{EndsSearch, HasVerdict}
use Rattle.job_answer.specs.declared.status.Status.{Status}
use Rattle.job_answer.specs.declared.status.Status.TheVariants.{Yes, No, Undecided}
use Rattle.search_lines.specs.Ends.{Fits, MayEnd}

-- such an end is a verdict
pub search_verdict : (status : Status) → EndsSearch status → HasVerdict status
search_verdict status (inl y) = inl (inl y)
search_verdict status (inr u) = inr u

pub end_verdict : (status : Status) → MayEnd status → HasVerdict status
end_verdict status (inl n) = inl (inr n)
end_verdict status (inr h) = search_verdict status h

-- what ends a search isn't No
pub no_end : (status : Status) → EndsSearch status → status ≡ No → ⊥
no_end status (inl y) n = let z : Yes ≡ No = sym y ∙ n in cc
no_end status (inr u) n = let z : Undecided ≡ No = sym u ∙ n in cc

-- one verdict with its report
module _ {F : Type 0} (nothing : F) (IsReached IsSpent : F → Type 0) (status : Status) (found : F) where
  pub fits_yes : status ≡ Yes → IsReached found → Fits nothing IsReached IsSpent status found
  fits_yes y h = record {
    yes = λ _. h;
    no = λ n. let z : Yes ≡ No = sym y ∙ n in cc;
    undecided = λ u. let z : Yes ≡ Undecided = sym y ∙ u in cc;
  }

  pub fits_no : status ≡ No → found ≡ nothing → Fits nothing IsReached IsSpent status found
  fits_no n e = record {
    yes = λ y. let z : No ≡ Yes = sym n ∙ y in cc;
    no = λ _. e;
    undecided = λ u. let z : No ≡ Undecided = sym n ∙ u in cc;
  }

  pub fits_undecided : status ≡ Undecided → IsSpent found → Fits nothing IsReached IsSpent status found
  fits_undecided u h = record {
    yes = λ y. let z : Undecided ≡ Yes = sym u ∙ y in cc;
    no = λ n. let z : Undecided ≡ No = sym u ∙ n in cc;
    undecided = λ _. h;
  }
