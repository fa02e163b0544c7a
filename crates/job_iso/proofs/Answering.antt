-- Two complexes have one answer.
use Rattle.std.proofs.Common.{ℕ, List, inl, inr, sym, ◌∙◌, ap}
use Rattle.complex_core.specs.Complexes.{ComplexView}
use Rattle.job_answer.specs.Meanings.{Same}
use Rattle.job_answer.specs.declared.status.Status.{Status}
use Rattle.job_iso.specs.Answers.{IsIso, yes_text}

pub same_iso : (k l : ComplexView) (s t : Status) (xs ys : List ℕ) → IsIso k l s xs → IsIso k l t ys → Same {F = Unit {0}} s t xs ys tt tt
same_iso k l s t xs ys (inl a) (inl b) = record {
  statuses = a.is_yes ∙ sym b.is_yes;
  texts = a.says ∙ ap yes_text (b.one a.map a.least) ∙ sym b.says;
  reports = λ i. tt;
}
same_iso k l s t xs ys (inl a) (inr b) = absurd (b.none a.map a.least.takes)
same_iso k l s t xs ys (inr a) (inl b) = absurd (a.none b.map b.least.takes)
same_iso k l s t xs ys (inr a) (inr b) = record { statuses = a.is_no ∙ sym b.is_no; texts = a.says ∙ sym b.says; reports = λ i. tt }
