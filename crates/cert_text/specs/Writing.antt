-- The one text of a certificate, and which certificates may be written to be read again.
use Rattle.std.specs.Prelude.{◌≤◌, ℕ, List, [], ◌∷◌, ◌++◌, codes, length}
use Rattle.std.specs.List.{AllByRecursion, flat_map}
use Rattle.std.specs.Fmt.{decimal}
use Rattle.complex_core.specs.Maps.{IsMap}
use Rattle.facet_text.specs.Writing as facet
use Rattle.flip_rules.specs.declared.flip.Flip.{Flip}
use Rattle.line_text.specs.declared.label.Labels.TheVariants.{UpTo}
use Rattle.line_text.specs.Writing.{HasSides, flip_text}
use Rattle.cert_text.specs.Statements.{Statement, OfVertex, Sphere, Equal, Manifold}

-- a word and a number, on a line
abbrev pub number_line : List ℕ → ℕ → List ℕ
number_line name n = name ++ (32 ∷ decimal n ++ 10 ∷ [])

abbrev pub flip_line_text : Flip → List ℕ
flip_line_text f = flip_text f ++ 10 ∷ []

abbrev pub pair_text : ℕ × ℕ → List ℕ
pair_text p = decimal p.0 ++ (32 ∷ decimal p.1 ++ 10 ∷ [])

-- how many flips there are, and a line for each
unfoldable pub flips_text : List Flip → List ℕ
flips_text flips = number_line (codes "flips") (length flips) ++ flat_map flip_line_text flips

-- how many pairs there are, and a line for each
unfoldable pub map_text : List (ℕ × ℕ) → List ℕ
map_text pairs = number_line (codes "map") (length pairs) ++ flat_map pair_text pairs

unfoldable pub vertex_text : OfVertex → List ℕ
vertex_text v = number_line (codes "vertex") v.0 ++ flips_text v.1

-- how many vertices there are, and each with its flips
unfoldable pub vertices_text : List OfVertex → List ℕ
vertices_text vs = number_line (codes "vertices") (length vs) ++ flat_map vertex_text vs

abbrev pub header_text : List ℕ → List ℕ
header_text kind = codes "bistellar 1 " ++ (kind ++ 10 ∷ [])

-- the text of a certificate
unfoldable pub text_of : Statement → List ℕ
text_of (Sphere flips) = header_text (codes "sphere") ++ flips_text flips
text_of (Equal target flips pairs) =
    header_text (codes "equal") ++ (facet.text_of target.facets ++ (10 ∷ flips_text flips ++ map_text pairs))
text_of (Manifold vs) = header_text (codes "manifold") ++ vertices_text vs

-- ---- the limits that a text keeps

-- at most so many flips as a count may state, each with 1 to 7 labels up to 65,000 on each side
pub record AreFlips (flips : List Flip) : Type 0 where
  pub few : length flips ≤ 4294967295
  pub sides : AllByRecursion (HasSides (UpTo 65000)) flips

abbrev pub IsLabel : ℕ → Type 0
IsLabel n = (1 ≤ n) × (n ≤ 65000)

pub record ArePairs (pairs : List (ℕ × ℕ)) : Type 0 where
  pub few : length pairs ≤ 4294967295
  pub map : IsMap pairs
  pub labels : AllByRecursion (λ p. IsLabel p.0 × IsLabel p.1) pairs

pub record AreVertices (vs : List OfVertex) : Type 0 where
  pub few : length vs ≤ 4294967295
  pub labels : AllByRecursion (λ v. IsLabel v.0) vs
  pub flips : AllByRecursion (λ v. AreFlips v.1) vs

abbrev pub KeepsLimits : Statement → Type 0
KeepsLimits (Sphere flips) = AreFlips flips
KeepsLimits (Equal target flips pairs) = facet.KeepsLimits target × AreFlips flips × ArePairs pairs
KeepsLimits (Manifold vs) = AreVertices vs
