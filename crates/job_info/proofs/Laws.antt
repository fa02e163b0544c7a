-- The laws of the job `info`.
use Rattle.std.proofs.Common.{◌≡◌, ℕ, List, inl, inr, sym, ◌∙◌}
use Rattle.complex_core.specs.Complexes.{ComplexView}
use Rattle.job_answer.specs.Alone.{complex_of}
use Rattle.job_answer.specs.Meanings.{Lawful, Same}
use Rattle.job_answer.proofs.Meanings.{IsDoneShort, verdict_done, by_read}
use Rattle.job_answer.specs.declared.status.Status.{Status}
use Rattle.job_answer.specs.declared.status.Status.TheVariants.{Yes, No}
use Rattle.job_info.specs.Answers.{IsInfo, meaning}
use Rattle.job_info.specs.Laws.{YesTellsFacts, NeverSaysNo}
use Rattle.job_info.proofs.Describing.{same_description}

same_info : (k : ComplexView) (s t : Status) (xs ys : List ℕ) → IsInfo k s xs tt → IsInfo k t ys tt → Same {F = Unit {0}} s t xs ys tt tt
same_info k s t xs ys a b = record { statuses = a.is_yes ∙ sym b.is_yes; texts = same_description k xs ys a.describes b.describes; reports = λ i. tt }

pub lawful : Lawful meaning
lawful = record {
  reads = by_read complex_of;
  verdict = λ s e. inl (inl e);
  ends = λ k s xs p a. a.is_yes;
  fits = λ k s xs p a. tt;
  headline = λ bytes s xs p h d. record { complex = d.told; input = d.input; describes = d.answer.describes };
  one = λ z k s t xs ys p q a b. same_info k s t xs ys a b;
}

pub yes_tells_facts : YesTellsFacts
yes_tells_facts bytes s xs a e =
    let d : IsDoneShort meaning bytes s xs tt = verdict_done meaning bytes s xs tt (inl (inl e)) a in
    record { complex = d.done.told; input = d.done.input; describes = d.done.answer.describes }

pub never_says_no : NeverSaysNo
never_says_no bytes s xs a e =
    let d : IsDoneShort meaning bytes s xs tt = verdict_done meaning bytes s xs tt (inl (inr e)) a in
    let z : Yes ≡ No = sym d.done.answer.is_yes ∙ e in cc
