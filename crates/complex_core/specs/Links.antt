-- The link of a face.
use Rattle.std.specs.Prelude.{ℕ, ◌-◌, List, length, map, fold}
use Rattle.complex_core.specs.Labels.{without, face_cmp}
use Rattle.complex_core.specs.Rising.{rising}
use Rattle.complex_core.specs.Complexes.{ComplexView, over}

-- the labels of a set that aren't in another
abbrev pub less : List ℕ → List ℕ → List ℕ
less xs ys = fold without xs ys

-- the facets that contain the face, less the face
abbrev pub link : ComplexView → List ℕ → ComplexView
link k face = record { dim = k.dim - length face; facets = rising face_cmp (map (λ f. less f face) (over k.facets face)) }
