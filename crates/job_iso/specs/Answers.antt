-- What the job `iso` answers.
use Rattle.std.specs.Prelude.{◌≡◌, ◌⊎◌, ℕ, List, [], ◌∷◌, ◌++◌, codes, Ok}
use Rattle.complex_core.specs.Complexes.{ComplexView}
use Rattle.cert_text.specs.Writing.{map_text}
use Rattle.facet_iso.specs.Isomorphisms.{IsFit, IsLeastMap, IsOneLeastMap, NoMap}
use Rattle.job_answer.specs.Meanings.{Meaning}
use Rattle.job_answer.specs.Statuses.{IsDecided}
use Rattle.job_answer.specs.declared.status.Status.{Status}
use Rattle.job_answer.specs.declared.status.Status.TheVariants.{Yes, No}
use Rattle.job_pairs.specs.Readings.{Pair, reads}

-- `yes`, how many pairs the map has, and a line for each
abbrev pub yes_text : List (ℕ × ℕ) → List ℕ
yes_text m = (codes "yes" ++ 10 ∷ []) ++ map_text m

abbrev pub no_text : List ℕ
no_text = codes "no\nno map\n"

-- Yes, and the one least map that takes the first complex to the second
pub record FindsMap (k l : ComplexView) (status : Status) (text : List ℕ) : Type 0 where
  pub map : List (ℕ × ℕ)
  pub least : IsLeastMap k l map
  pub one : IsOneLeastMap k l map
  pub is_yes : status ≡ Yes
  pub says : text ≡ yes_text map

-- No: there is none
pub record FindsNone (k l : ComplexView) (status : Status) (text : List ℕ) : Type 0 where
  pub none : NoMap k l
  pub is_no : status ≡ No
  pub says : text ≡ no_text

abbrev pub IsIso : ComplexView → ComplexView → Status → List ℕ → Type 0
IsIso k l status text = FindsMap k l status text ⊎ FindsNone k l status text

-- The headline of `iso`: at Yes the bytes tell two complexes, and the text has the least map that takes the first to the second
pub record TellsMap (bytes text : List ℕ) : Type 0 where
  pub complexes : Pair
  pub input : reads IsFit bytes (Ok complexes)
  pub map : List (ℕ × ℕ)
  pub least : IsLeastMap complexes.0 complexes.1 map
  pub says : text ≡ yes_text map

-- Of at most 4,194,304 bytes two complexes are read, one behind the other, of which any two facets are joined and each ridge lies in at
-- most two facets; a map is told, or that there is none. Nothing else is
-- reported.
abbrev pub meaning : Meaning (Unit {0})
meaning = record {
  limit = 4194304;
  Input = Pair;
  reads = reads IsFit;
  answers = λ x status text found. IsIso x.0 x.1 status text;
  nothing = tt;
  may_end = IsDecided;
  fits = λ status found. Unit {0};
  is_fixed = Unit {0};
  headline = λ bytes status text found. status ≡ Yes → TellsMap bytes text;
}
