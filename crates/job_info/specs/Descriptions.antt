-- What `info` says of a complex. Each line ends with a line feed.
use Rattle.std.specs.Prelude.{◌≡◌, ◌⊎◌, ℕ, ◌+◌, List, [], ◌∷◌, ◌++◌, codes}
use Rattle.std.specs.List.{flat_map}
use Rattle.std.specs.Fmt.{decimal}
use Rattle.complex_core.specs.Complexes.{ComplexView}
use Rattle.face_counts.specs.Faces.{faces, numbers}
use Rattle.face_counts.specs.Eulers.{euler}
use Rattle.pseudo_test.specs.Ridges.{Closed, IsLeastOther}
use Rattle.pseudo_test.specs.Chains.{StronglyConnected, IsApart}
use Rattle.orient_test.specs.Signs.{Orientable}
use Rattle.line_text.specs.Writing.{set_off}
use Rattle.job_answer.specs.Lines.{euler_line, ridge_line, apart_line, clash_line}

-- ---- the lines

abbrev pub dimension_line : ℕ → List ℕ
dimension_line dim = codes "dimension " ++ (decimal dim ++ 10 ∷ [])

-- the numbers of the faces of each dimension, from 0
abbrev pub counts_line : List ℕ → List ℕ
counts_line counts = codes "f" ++ (flat_map set_off counts ++ 10 ∷ [])

abbrev pub closed_line : List ℕ
closed_line = codes "closed yes" ++ 10 ∷ []

abbrev pub strong_line : List ℕ
strong_line = codes "strong yes" ++ 10 ∷ []

abbrev pub orientable_line : List ℕ
orientable_line = codes "orientable yes" ++ 10 ∷ []

-- ---- what each line tells

-- each ridge lies in two facets
pub record TellsClosed (facets : List (List ℕ)) (line : List ℕ) : Type 0 where
  pub closed : Closed facets
  pub says : line ≡ closed_line

-- this ridge doesn't, and is the least such
pub record TellsRidge (facets : List (List ℕ)) (line : List ℕ) : Type 0 where
  pub ridge : List ℕ
  pub count : ℕ
  pub least : IsLeastOther facets ridge count
  pub says : line ≡ ridge_line ridge count

abbrev pub IsClosedLine : List (List ℕ) → List ℕ → Type 0
IsClosedLine facets line = TellsClosed facets line ⊎ TellsRidge facets line

-- any two facets are joined by a chain over ridges
pub record TellsStrong (facets : List (List ℕ)) (line : List ℕ) : Type 0 where
  pub strong : StronglyConnected facets
  pub says : line ≡ strong_line

-- the least facet, and the least that isn't joined to it
pub record TellsApart (facets : List (List ℕ)) (line : List ℕ) : Type 0 where
  pub first : List ℕ
  pub other : List ℕ
  pub apart : IsApart facets first other
  pub says : line ≡ apart_line first other

abbrev pub IsStrongLine : List (List ℕ) → List ℕ → Type 0
IsStrongLine facets line = TellsStrong facets line ⊎ TellsApart facets line

-- some signs of the facets are opposite at each ridge of two facets
pub record TellsOrientable (facets : List (List ℕ)) (line : List ℕ) : Type 0 where
  pub orientable : Orientable facets
  pub says : line ≡ orientable_line

-- no signs are
pub record TellsClash (facets : List (List ℕ)) (line : List ℕ) : Type 0 where
  pub clash : Orientable facets → ⊥
  pub says : line ≡ clash_line

abbrev pub IsOrientableLine : List (List ℕ) → List ℕ → Type 0
IsOrientableLine facets line = TellsOrientable facets line ⊎ TellsClash facets line

-- ---- the whole

-- the dimension, the numbers of faces and the Euler characteristic
abbrev pub counted_lines : ComplexView → List ℕ
counted_lines k = dimension_line k.dim ++ (counts_line (numbers (faces k.facets) (k.dim + 1)) ++ euler_line (euler k.facets))

-- the text has these lines, and then whether the complex is closed, strongly connected and orientable
pub record Describes (k : ComplexView) (text : List ℕ) : Type 0 where
  pub closed : List ℕ
  pub strong : List ℕ
  pub orientable : List ℕ
  pub closed_is : IsClosedLine k.facets closed
  pub strong_is : IsStrongLine k.facets strong
  pub orientable_is : IsOrientableLine k.facets orientable
  pub says : text ≡ counted_lines k ++ (closed ++ (strong ++ orientable))
