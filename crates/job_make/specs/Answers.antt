-- What the job `make` answers.
use Rattle.std.specs.Prelude.{◌≡◌, ℕ, List, Ok}
use Rattle.facet_text.specs.Writing.{KeepsLimits}
use Rattle.job_answer.specs.Alone.{complex_of}
use Rattle.job_answer.specs.Lines.{complex_line}
use Rattle.job_answer.specs.Meanings.{Meaning}
use Rattle.job_answer.specs.declared.status.Status.{Status}
use Rattle.job_answer.specs.declared.status.Status.TheVariants.{Yes}
use Rattle.job_make.specs.Recipes.{Recipe, LooksNamed, made}

-- Yes always, with the line of what is made, which keeps the limits of an input and has the facts of its kind
pub record IsMade (r : Recipe) (status : Status) (text : List ℕ) : Type 0 where
  pub is_yes : status ≡ Yes
  pub says : text ≡ complex_line (made r).facets
  pub limits : KeepsLimits (made r)
  pub looks : LooksNamed r

-- the text, read as an input, tells what is made, which has the facts of its kind
pub record TellsMade (r : Recipe) (text : List ℕ) : Type 0 where
  pub read : complex_of text ≡ Ok (made r)
  pub looks : LooksNamed r

-- No byte is taken, and nothing is told by them. There is no other verdict than Yes, and nothing else is reported.
abbrev pub meaning : Recipe → Meaning (Unit {0})
meaning r = record {
  limit = 0;
  Input = Unit {0};
  reads = λ bytes told. Ok tt ≡ told;
  answers = λ told status text found. IsMade r status text;
  nothing = tt;
  may_end = λ status. status ≡ Yes;
  fits = λ status found. Unit {0};
  is_fixed = Unit {0};
  headline = λ bytes status text found. TellsMade r text;
}
