-- The laws of the job `replay`.
use Rattle.std.proofs.Common.{◌≡◌, ℕ, List, inl}
use Rattle.complex_core.specs.Complexes.{ComplexView}
use Rattle.cert_text.specs.Statements.{Statement}
use Rattle.job_replay.specs.Readings.{input_of}
use Rattle.job_answer.specs.Meanings.{Answers, Lawful, Same}
use Rattle.job_answer.proofs.Meanings.{IsDoneShort, verdict_done, input_done, by_read}
use Rattle.job_answer.specs.declared.status.Status.{Status}
use Rattle.job_answer.specs.declared.status.Status.TheVariants.{Yes}
use Rattle.job_replay.specs.Answers.{IsVerdict, TellsCertified, meaning}
use Rattle.job_replay.specs.Laws.{YesIsCertified}
use Rattle.job_replay.proofs.Replays.{same_verdict, yes_shows, shown_yes, verdict_decided}

same : (x : ComplexView × Statement) (s t : Status) (xs ys : List ℕ) → IsVerdict x.0 x.1 s xs → IsVerdict x.0 x.1 t ys → Same {F = Unit {0}} s t xs ys tt tt
same x s t xs ys a b =
    let v : (s ≡ t) × (xs ≡ ys) = same_verdict x.0 x.1 s t xs ys a b in
    record { statuses = v.0; texts = v.1; reports = λ i. tt }

pub lawful : Lawful meaning
lawful = record {
  reads = by_read input_of;
  verdict = λ s d. inl d;
  ends = λ x s xs p a. verdict_decided x.0 x.1 s xs a;
  fits = λ x s xs p a. tt;
  headline = λ bytes s xs p h d e. record { short = h; start = d.told.0; statement = d.told.1; input = d.input; shows = yes_shows d.told.0 d.told.1 s xs d.answer e };
  one = λ z x s t xs ys p q a b. same x s t xs ys a b;
}

yes_told : (bytes : List ℕ) (s : Status) (xs : List ℕ) → Answers meaning bytes s xs tt → s ≡ Yes → TellsCertified bytes
yes_told bytes s xs a e =
    let d : IsDoneShort meaning bytes s xs tt = verdict_done meaning bytes s xs tt (inl (inl e)) a in
    record { short = d.short; start = d.done.told.0; statement = d.done.told.1; input = d.done.input; shows = yes_shows d.done.told.0 d.done.told.1 s xs d.done.answer e }

told_yes : (bytes : List ℕ) (s : Status) (xs : List ℕ) → Answers meaning bytes s xs tt → TellsCertified bytes → s ≡ Yes
told_yes bytes s xs a h = shown_yes h.start h.statement s xs (input_done meaning bytes s xs tt lawful h.short (h.start, h.statement) h.input a) h.shows

pub yes_is_certified : YesIsCertified
yes_is_certified bytes s xs a = (λ e. yes_told bytes s xs a e, λ h. told_yes bytes s xs a h)
