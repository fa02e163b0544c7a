-- What the job `info` answers.
use Rattle.std.specs.Prelude.{◌≡◌, ℕ, List, Ok}
use Rattle.complex_core.specs.Complexes.{ComplexView}
use Rattle.job_answer.specs.Alone.{complex_of}
use Rattle.job_answer.specs.Meanings.{Meaning, by}
use Rattle.job_answer.specs.declared.status.Status.{Status}
use Rattle.job_answer.specs.declared.status.Status.TheVariants.{Yes}
use Rattle.job_info.specs.Descriptions.{Describes}

-- Yes always, with a text that describes the complex
pub record IsInfo (complex : ComplexView) (status : Status) (text : List ℕ) (found : Unit {0}) : Type 0 where
  pub is_yes : status ≡ Yes
  pub describes : Describes complex text

-- the bytes tell a complex, which the text describes
pub record TellsFacts (bytes text : List ℕ) : Type 0 where
  pub complex : ComplexView
  pub input : complex_of bytes ≡ Ok complex
  pub describes : Describes complex text

-- Of at most 4,194,304 bytes a complex is read and described. There is no other verdict than Yes, and nothing else is reported.
abbrev pub meaning : Meaning (Unit {0})
meaning = record {
  limit = 4194304;
  Input = ComplexView;
  reads = by complex_of;
  answers = IsInfo;
  nothing = tt;
  may_end = λ status. status ≡ Yes;
  fits = λ status found. Unit {0};
  is_fixed = Unit {0};
  headline = λ bytes status text found. TellsFacts bytes text;
}
