-- The laws of the job `make`.
use Rattle.std.proofs.Common.{◌≡◌, ℕ, List, inl, inr, sym, ◌∙◌, ap}
use Rattle.job_answer.specs.Alone.{complex_of}
use Rattle.job_answer.specs.Meanings.{Lawful, Same}
use Rattle.job_answer.proofs.Meanings.{IsDoneShort, verdict_done}
use Rattle.job_answer.specs.declared.status.Status.{Status}
use Rattle.job_answer.specs.declared.status.Status.TheVariants.{Yes, No}
use Rattle.job_make.specs.Recipes.{Recipe, made}
use Rattle.job_make.specs.Answers.{IsMade, TellsMade, meaning}
use Rattle.job_make.specs.Laws.{YesTellsMade, NeverSaysNo}
use Rattle.job_make.proofs.Telling.{line_is_read}

tells : (r : Recipe) (s : Status) (xs : List ℕ) → IsMade r s xs → TellsMade r xs
tells r s xs a = record { read = ap complex_of a.says ∙ line_is_read (made r) a.limits; looks = a.looks }

same_made : (r : Recipe) (s t : Status) (xs ys : List ℕ) → IsMade r s xs → IsMade r t ys → Same {F = Unit {0}} s t xs ys tt tt
same_made r s t xs ys a b = record { statuses = a.is_yes ∙ sym b.is_yes; texts = a.says ∙ sym b.says; reports = λ i. tt }

pub lawful : (r : Recipe) → Lawful (meaning r)
lawful r = record {
  reads = λ bytes p q a b. sym a ∙ b;
  verdict = λ s e. inl (inl e);
  ends = λ x s xs p a. a.is_yes;
  fits = λ x s xs p a. tt;
  headline = λ bytes s xs p h d. tells r s xs d.answer;
  one = λ z x s t xs ys p q a b. same_made r s t xs ys a b;
}

pub yes_tells_made : YesTellsMade
yes_tells_made r bytes s xs a e =
    let d : IsDoneShort (meaning r) bytes s xs tt = verdict_done (meaning r) bytes s xs tt (inl (inl e)) a in
    tells r s xs d.done.answer

pub never_says_no : NeverSaysNo
never_says_no r bytes s xs a e =
    let d : IsDoneShort (meaning r) bytes s xs tt = verdict_done (meaning r) bytes s xs tt (inl (inr e)) a in
    let z : Yes ≡ No = sym d.done.answer.is_yes ∙ e in cc
