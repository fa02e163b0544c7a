-- What the job `replay` answers.
use Rattle.std.specs.Prelude.{◌≡◌, ◌≤◌, ℕ, List, length, Ok}
use Rattle.complex_core.specs.Complexes.{ComplexView}
use Rattle.cert_text.specs.Statements.{Statement}
use Rattle.cert_replay.specs.Answers.{IsAnswer as IsReplayOf, Certifies}
use Rattle.cert_replay.specs.declared.judge.Replayed.{Replayed}
use Rattle.cert_replay.specs.declared.judge.Replayed.TheVariants.{Valid, Bad, WrongEnd}
use Rattle.job_answer.specs.Meanings.{Meaning, by}
use Rattle.job_answer.specs.Statuses.{IsDecided}
use Rattle.job_answer.specs.declared.status.Status.{Status}
use Rattle.job_answer.specs.declared.status.Status.TheVariants.{Yes, No}
use Rattle.job_replay.specs.Readings.{input_of}
use Rattle.job_replay.specs.Texts.{replayed_text}

-- Yes where the certificate shows what it states, and No elsewhere
abbrev pub status_of : Replayed → Status
status_of (Valid flips count) = Yes
status_of (Bad number reason) = No
status_of WrongEnd = No

-- what the flips of the certificate come to, from this complex, with the status and the text that say so
pub record IsVerdict (k : ComplexView) (c : Statement) (status : Status) (text : List ℕ) : Type 0 where
  pub comes_to : Replayed
  pub replayed : IsReplayOf k c comes_to
  pub status_is : status ≡ status_of comes_to
  pub says : text ≡ replayed_text c comes_to

-- The headline of `replay`: the bytes tell a complex and a certificate, which shows what it states of that complex. For a
-- certificate of a sphere that is `SphereCert`: its flips are legal in order and end in the boundary of a simplex. For one of
-- an equivalence they end in a complex that the map takes to the target; for one of a manifold its lists are those of exactly
-- the vertices, and each is a certificate of a sphere for the link of its vertex
pub record TellsCertified (bytes : List ℕ) : Type 0 where
  pub short : length bytes ≤ 268435456
  pub start : ComplexView
  pub statement : Statement
  pub input : input_of bytes ≡ Ok (start, statement)
  pub shows : Certifies start statement

-- Of at most 268,435,456 bytes a complex and a certificate behind it are read, and the certificate is replayed. The verdicts are
-- Yes and No, and nothing else is reported.
abbrev pub meaning : Meaning (Unit {0})
meaning = record {
  limit = 268435456;
  Input = ComplexView × Statement;
  reads = by input_of;
  answers = λ x status text found. IsVerdict x.0 x.1 status text;
  nothing = tt;
  may_end = IsDecided;
  fits = λ status found. Unit {0};
  is_fixed = Unit {0};
  headline = λ bytes status text found. status ≡ Yes → TellsCertified bytes;
}
