-- What an answer of `iso` tells.
use Rattle.std.specs.Prelude.{◌≡◌, ℕ, List, Ok}
use Rattle.facet_iso.specs.Isomorphisms.{IsFit, NoMap}
use Rattle.job_answer.specs.Meanings.{Answers}
use Rattle.job_answer.specs.declared.status.Status.{Status}
use Rattle.job_answer.specs.declared.status.Status.TheVariants.{Yes, No}
use Rattle.job_pairs.specs.Readings.{Pair, reads}
use Rattle.job_iso.specs.Answers.{meaning, TellsMap}

-- at Yes the text has the least map that takes the first complex of the bytes to the second
abbrev pub YesTellsMap : Type 0
YesTellsMap = (bytes : List ℕ) (status : Status) (text : List ℕ) → Answers meaning bytes status text tt → status ≡ Yes → TellsMap bytes text

-- the bytes tell two complexes, and no map takes the first to the second
pub record HasNoMap (bytes : List ℕ) : Type 0 where
  pub complexes : Pair
  pub input : reads IsFit bytes (Ok complexes)
  pub none : NoMap complexes.0 complexes.1

-- at No there is none
abbrev pub NoHasNoMap : Type 0
NoHasNoMap = (bytes : List ℕ) (status : Status) (text : List ℕ) → Answers meaning bytes status text tt → status ≡ No → HasNoMap bytes
